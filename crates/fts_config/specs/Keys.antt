-- The keys of the settings' text: their order, spelling, place, type and need.
use Rattle.std.specs.Prelude.{ℕ, Bool, true, false, Option, Some, None, List, [], ◌∷◌, codes}
use Rattle.fts_config.specs.declared.keys.SettingKey.{SettingKey}
use Rattle.fts_config.specs.declared.keys.SettingKey.TheVariants.{Vo, Workers, DefaultMaxActive, Storage, Url, Inbound, Outbound, Link, SymbolicName, LinkSource, LinkDestination, MaxActive, Activity, Name, Weight}
use Rattle.fts_config.specs.declared.keys.Kind.{Kind}
use Rattle.fts_config.specs.declared.keys.Kind.TheVariants.{Text, Number, Tables}

-- all keys, in the order in which faults of types and of absence are answered
abbrev pub all_keys : List SettingKey
all_keys = Vo ∷ Workers ∷ DefaultMaxActive ∷ Storage ∷ Url ∷ Inbound ∷ Outbound ∷ Link ∷ SymbolicName ∷ LinkSource ∷ LinkDestination ∷ MaxActive ∷ Activity
    ∷ Name ∷ Weight ∷ []

-- how a key is spelled
abbrev pub name_of : SettingKey → List ℕ
name_of Vo = codes "vo"
name_of Workers = codes "workers"
name_of DefaultMaxActive = codes "default_max_active"
name_of Storage = codes "storage"
name_of Url = codes "url"
name_of Inbound = codes "inbound_max_active"
name_of Outbound = codes "outbound_max_active"
name_of Link = codes "link"
name_of SymbolicName = codes "symbolicname"
name_of LinkSource = codes "source"
name_of LinkDestination = codes "destination"
name_of MaxActive = codes "max_active"
name_of Activity = codes "activity"
name_of Name = codes "name"
name_of Weight = codes "weight"

-- the list in whose tables a key stands, and none where it stands in the document itself
abbrev pub list_of : SettingKey → Option SettingKey
list_of Url = Some Storage
list_of Inbound = Some Storage
list_of Outbound = Some Storage
list_of SymbolicName = Some Link
list_of LinkSource = Some Link
list_of LinkDestination = Some Link
list_of MaxActive = Some Link
list_of Name = Some Activity
list_of Weight = Some Activity
list_of _ = None

-- the type of a key's value: a text, a whole number, or a list of tables
abbrev pub kind_of : SettingKey → Kind
kind_of Workers = Number
kind_of DefaultMaxActive = Number
kind_of Storage = Tables
kind_of Inbound = Number
kind_of Outbound = Number
kind_of Link = Tables
kind_of MaxActive = Number
kind_of Activity = Tables
kind_of Weight = Number
kind_of _ = Text

-- whether a key must be there, in each table in which it stands
abbrev pub is_needed : SettingKey → Bool
is_needed Workers = false
is_needed DefaultMaxActive = false
is_needed Inbound = false
is_needed Outbound = false
is_needed Link = false
is_needed SymbolicName = false
is_needed Activity = false
is_needed _ = true
