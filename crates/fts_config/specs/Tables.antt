-- What stands in a document: tables, lists of tables, and where a key's tables are.
use Rattle.std.specs.Prelude.{Option, Some, None, option_and_then, List, [], ◌∷◌}
use Rattle.toml.specs.Data.{Data, Items, no_items, item, get, as_array}
use Rattle.fts_config.specs.declared.keys.SettingKey.{SettingKey}
use Rattle.fts_config.specs.Keys.{name_of, list_of}

-- the items of a list
abbrev pub listed : Items → List Data
listed no_items = []
listed (item value items) = value ∷ listed items

-- the items of a list, where there is one
abbrev pub items_in : Option Items → List Data
items_in None = []
items_in (Some items) = listed items

-- the tables of a list, in their order; none where the list isn't there
abbrev pub tables_of : SettingKey → Data → List Data
tables_of list document = items_in (option_and_then as_array (get (name_of list) document))

-- the tables of a list that may be named, or the document itself
abbrev pub tables_at : Option SettingKey → Data → List Data
tables_at None document = document ∷ []
tables_at (Some list) document = tables_of list document

-- the tables in which a key stands
abbrev pub tables_with : SettingKey → Data → List Data
tables_with key document = tables_at (list_of key) document
