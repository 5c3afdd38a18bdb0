-- The rules of types and of absence: the first key that breaks one, in the order of the keys.
use Rattle.std.specs.Prelude.{Bool, true, false, not, ◌&&◌, ◌==◌, Option, Some, None, option_map, is_some, find, length}
use Rattle.std.specs.List.{list_all, list_any}
use Rattle.toml.specs.Data.{Data, Items, get, as_str, as_integer, as_array, as_table}
use Rattle.fts_config.specs.declared.keys.SettingKey.{SettingKey}
use Rattle.fts_config.specs.declared.keys.Kind.{Kind}
use Rattle.fts_config.specs.declared.keys.Kind.TheVariants.{Text, Number, Tables}
use Rattle.fts_config.specs.declared.fault.SettingsFault.{SettingsFault}
use Rattle.fts_config.specs.declared.fault.SettingsFault.TheVariants.{WrongType, Missing}
use Rattle.fts_config.specs.Keys.{name_of, kind_of, is_needed, all_keys}
use Rattle.fts_config.specs.Tables.{listed, tables_with}

-- whether a value is a table
abbrev pub is_table : Data → Bool
is_table value = is_some (as_table value)

-- whether all of a list are tables
abbrev pub are_tables : Option Items → Bool
are_tables None = false
are_tables (Some items) = list_all is_table (listed items)

-- whether a value has a type
abbrev pub fits : Kind → Data → Bool
fits Text value = is_some (as_str value)
fits Number value = is_some (as_integer value)
fits Tables value = are_tables (as_array value)

-- whether what a key has is a value of another type
abbrev pub is_wrong : Kind → Option Data → Bool
is_wrong kind None = false
is_wrong kind (Some value) = not (fits kind value)

-- whether a table has a value of another type under a key
abbrev pub has_wrong_type : SettingKey → Data → Bool
has_wrong_type key entry = is_wrong (kind_of key) (get (name_of key) entry)

-- whether a value is an empty list
abbrev pub is_empty : Option Items → Bool
is_empty None = false
is_empty (Some items) = length (listed items) == 0

-- whether there is no value, or an empty list
abbrev pub is_absent : Option Data → Bool
is_absent None = true
is_absent (Some value) = is_empty (as_array value)

-- whether a table lacks a key that must be there
abbrev pub lacks : SettingKey → Data → Bool
lacks key entry = is_needed key && is_absent (get (name_of key) entry)

-- rule 2: the first key that somewhere has a value of another type
unfoldable pub wrong_type : Data → Option SettingsFault
wrong_type document = option_map WrongType (find (λ key. list_any (has_wrong_type key) (tables_with key document)) all_keys)

-- rule 3: the first key that must be there and somewhere isn't
unfoldable pub missing : Data → Option SettingsFault
missing document = option_map Missing (find (λ key. list_any (lacks key) (tables_with key document)) all_keys)
