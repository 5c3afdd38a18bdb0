-- Lists of a document as the code has them, and as the definitions have them.
use Rattle.std.proofs.Common.{◌≡◌, ℕ, ◌==◌, true, List, [], ◌∷◌, map, length, Some, refl, ap}
use Rattle.std.specs.List.{list_all}
use Rattle.std.proofs.Math.ListN.{length-map}
use Rattle.toml.specs.Data.{Data, get, as_array}
use Rattle.toml.specs.View.{view, items_of}
use Rattle.toml.specs.declared.value.Value.{Value}
use Rattle.fts_config.specs.declared.keys.SettingKey.{SettingKey}
use Rattle.fts_config.specs.Keys.{name_of, is_needed}
use Rattle.fts_config.specs.Tables.{listed, tables_of}
use Rattle.fts_config.specs.Types.{is_table, are_tables, is_empty, lacks}

-- the items of a list's data are the list
pub listed-items_of : (values : List Data) → listed (items_of values) ≡ values
listed-items_of [] = refl
listed-items_of (value ∷ values) = ap (λ rest. value ∷ rest) (listed-items_of values)

-- the tables of a list that is there
pub tables_are : (list : SettingKey) (name : List ℕ) (document value : Data) (values slice : List Value)
    → name ≡ name_of list → Some value ≡ get name document → Some (items_of (map view values)) ≡ as_array value → slice ≡ values
    → map view slice ≡ tables_of list document
tables_are list name document value values slice named there are same = rw (same, ← named, ← there, ← are, listed-items_of) refl

-- whether all values of a list are tables
pub are_tables-items_of : (value : Data) (values slice : List Value)
    → Some (items_of (map view values)) ≡ as_array value → slice ≡ values
    → list_all is_table (map view slice) ≡ are_tables (as_array value)
are_tables-items_of value values slice are same = rw (same, ← are, listed-items_of) refl

-- whether a list is empty
pub is_empty-items_of : (value : Data) (values slice : List Value)
    → Some (items_of (map view values)) ≡ as_array value → slice ≡ values → (length slice == 0) ≡ is_empty (as_array value)
is_empty-items_of value values slice are same = rw (same, ← are, listed-items_of, length-map) refl

-- a key that must be there is lacked where its list is empty
pub lacks-items_of : (key : SettingKey) (name : List ℕ) (entry value : Data) (values slice : List Value)
    → is_needed key ≡ true → name ≡ name_of key → Some value ≡ get name entry → Some (items_of (map view values)) ≡ as_array value → slice ≡ values
    → (length slice == 0) ≡ lacks key entry
lacks-items_of key name entry value values slice needed named there are same = rw (needed, ← named, ← there) (is_empty-items_of value values slice are same)
