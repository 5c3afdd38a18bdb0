-- Keys of the items of a list, and a set that holds them.
use Rattle.std.specs.Prelude.{◌≡◌, ℕ, Bool, true, false, List, ◌∷◌, ◌++◌, take, Option, Some, None, bytes_eq, String}
use Rattle.std.specs.List.{list_all, list_any}
use Rattle.std.specs.BTreeSet.{BTreeSet, contains_text}
use Rattle.std.specs.declared.alloc.Global.{Global}
use Rattle.fts_tables.specs.SettingsData.{are_apart}
use Rattle.fts_tables.specs.declared.settings.Endpoint.{Endpoint}
use Rattle.fts_tables.specs.declared.settings.LinkRule.{LinkRule}

-- the name of a storage
abbrev pub endpoint_key : Endpoint → List ℕ
endpoint_key endpoint = endpoint.name

-- the names of a link's ends, with a blank between them
abbrev pub pair_key : LinkRule → List ℕ
pair_key link = link.source ++ 0x20 ∷ link.dest

-- whether two items have one key
abbrev pub is_same_key : {T : Type 0} → (T → List ℕ) → T → T → Bool
is_same_key key one other = bytes_eq (key one) (key other)

-- a set has the keys of a list's items, and nothing else
abbrev pub HasKeys : {T : Type 0} → (T → List ℕ) → List T → BTreeSet (String Global) → Type 0
HasKeys key items keys = (text : List ℕ) → contains_text keys text ≡ list_any (λ item. bytes_eq (key item) text) items

-- all items are proper, no two have one key, and the set has the keys
pub record IsDistinct {T : Type 0} (key : T → List ℕ) (proper : T → Bool) (items : List T) (keys : BTreeSet (String Global)) : Type 0 where
  pub all_proper : list_all proper items ≡ true
  pub apart : are_apart (is_same_key key) items ≡ true
  pub holds : HasKeys key items keys

-- two of the first items, which are proper, have one key
pub record IsTwice {T : Type 0} (key : T → List ℕ) (proper : T → Bool) (items : List T) : Type 0 where
  pub count : ℕ
  pub all_proper : list_all proper (take count items) ≡ true
  pub twice : are_apart (is_same_key key) (take count items) ≡ false

-- the keys of a list, or none where two are the same
abbrev pub HoldsKeys : {T : Type 0} → (T → List ℕ) → (T → Bool) → List T → Option (BTreeSet (String Global)) → Type 0
HoldsKeys key proper items None = IsTwice key proper items
HoldsKeys key proper items (Some keys) = IsDistinct key proper items keys
