-- How a store in a folder meets what is there as it begins: it reads the names in its root, looks at each folder of such a name, and changes nothing.
use Rattle.std.specs.Prelude.{◌≡◌, ◌⊎◌, ℕ, Option, Some, None, Result, IsOk, List, [], ◌∷◌, ◌++◌, map, filter, string_bytes}
use Rattle.fts_files.specs.Calls.{Call, Look}
use Rattle.fts_files.specs.Script.{Script, Does, LeadsTo}
use Rattle.fts_store.specs.FolderCalls.{IsUnasked}
use Rattle.fts_store.specs.Folders.{device_seen}
use Rattle.fts_store.specs.Listing.{below_in, lists_root}
use Rattle.fts_store.specs.Sweep.{stays_below}
use Rattle.fts_store.specs.declared.folders.Met.{Met}

-- what is known of a folder that was met
pub record Known : Type 0 where
  pub folder : List ℕ
  pub device : Option ℕ

-- by a folder's own record
abbrev pub known_of : Met → Known
known_of met = record { folder = string_bytes met.folder; device = met.device }

-- the device of a folder that is there, by what a look saw
abbrev pub there_of : Option (Option ℕ) → Option ℕ
there_of (Some device) = device
there_of None = None

-- a folder that is there is known
abbrev pub known_at : List ℕ → Option ℕ → List Known
known_at folder (Some device) = record { folder = folder; device = Some device } ∷ []
known_at folder None = []

-- a folder below the root is looked at; where it is there, that is known behind what was known
abbrev pub looks_at : List ℕ → List ℕ → List Known → (List Known → Script) → Script
looks_at root name known next = Does (Look (below_in root name)) (λ answer. next (known ++ known_at (below_in root name) (there_of (device_seen answer))))

-- each of these folders is, one after the other
unfoldable pub looks_each : List ℕ → List (List ℕ) → List Known → (List Known → Script) → Script
looks_each root [] known next = next known
looks_each root (name ∷ names) known next = looks_at root name known (λ more. looks_each root names more next)

-- all folders below the root are, by the names that are read there
abbrev pub looks_at_all : List ℕ → List Known → (List Known → Script) → Script
looks_at_all root known next = lists_root root (λ names. looks_each root (filter stays_below names) known next)

-- all calls of a script of looks were made; or memory was missing, and these folders were left. What is known is what was seen
abbrev pub LooksOn : {T E : Type 0} → Result T E → List ℕ → ((List Known → Script) → Script) → Option (List Call) → Option (List Call) → List Met → Type 0
LooksOn result root from old new met = (left : List (List ℕ)) × (IsOk result → left ≡ [])
    × ((next : List Known → Script) → LeadsTo (from next) old (looks_each root left (map known_of met) next) new)

-- all folders below the root were met, or memory was missing behind some; or before anything was asked
abbrev pub Meets : {T E : Type 0} → List ℕ → Result T E → Option (List Call) → Option (List Call) → List Met → List Met → Type 0
Meets root result old new met met_now =
    (IsUnasked result old new × (met_now ≡ met)) ⊎ LooksOn result root (looks_at_all root (map known_of met)) old new met_now
