-- What a store in a folder does with the parts that were left there: the names that it reads decide which calls follow.
use Rattle.std.specs.Prelude.{ℕ, ◌&&◌, nat_le, not, Bool, Option, Result, List, [], ◌∷◌, ◌++◌, filter, drop, codes, bytes_eq, nat_eq}
use Rattle.std.specs.List.{list_all, starts_with}
use Rattle.fts_tables.specs.Names.{segments}
use Rattle.fts_files.specs.Calls.{Call}
use Rattle.fts_files.specs.Making.{removes_stale}
use Rattle.fts_files.specs.Script.{Script}
use Rattle.fts_store.specs.Folder.{is_name}
use Rattle.fts_store.specs.FolderCalls.{UpToMemory}
use Rattle.fts_store.specs.Listing.{below_in, lists, lists_root}

-- a decimal digit
abbrev pub is_digit : ℕ → Bool
is_digit byte = nat_le 48 byte && nat_le byte 57

-- the name of a part in its folder: "part-", and digits alone
abbrev pub is_part_name : List ℕ → Bool
is_part_name name = starts_with nat_eq name (codes "part-") && not (bytes_eq (drop 5 name) []) && list_all is_digit (drop 5 name)

-- a name that stays below the folder that it stands in
abbrev pub stays_below : List ℕ → Bool
stays_below name = list_all is_name (segments name)

-- the folder of parts of a folder below the root
abbrev pub parts_in : List ℕ → List ℕ → List ℕ
parts_in root name = below_in root name ++ codes "/.fts"

-- each of these parts in a folder loses its name, where it is a plain file that no run holds; whatever comes of one, the next follows
unfoldable pub clears_each : List ℕ → List (List ℕ) → Script → Script
clears_each folder [] next = next
clears_each folder (part ∷ parts) next = removes_stale (below_in folder part) (clears_each folder parts next) (clears_each folder parts next)

-- the folder of parts of a folder below the root is swept: its names are read, and those of parts are taken away
abbrev pub sweeps_one : List ℕ → List ℕ → Script → Script
sweeps_one root name next = lists (parts_in root name) (λ names. clears_each (parts_in root name) (filter is_part_name names) next)

-- those of these folders below the root, one after the other
unfoldable pub sweeps_each : List ℕ → List (List ℕ) → Script → Script
sweeps_each root [] next = next
sweeps_each root (name ∷ names) next = sweeps_one root name (sweeps_each root names next)

-- those of all folders below the root, by the names that are read there
abbrev pub sweeps : List ℕ → Script → Script
sweeps root next = lists_root root (λ names. sweeps_each root (filter stays_below names) next)

-- these calls were made, or memory was missing behind some of them
pub record Sweeps {T E : Type 0} (root : List ℕ) (result : Result T E) (old new : Option (List Call)) : Type 0 where
  pub script : (next : Script) → UpToMemory result (sweeps root next) (λ done. next) old new
