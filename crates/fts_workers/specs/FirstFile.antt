-- The first file that a bench holds, and its copy.
use Rattle.std.specs.Prelude.{◌≡◌, ℕ, false, List, [], ◌∷◌, Option, Some, None, IsSome}
use Rattle.fts_tables.specs.Tables.{Tables, row_at}
use Rattle.fts_tables.specs.declared.rows.Outcome.{Outcome}
use Rattle.fts_store.specs.Calls.{Call}
use Rattle.fts_store.specs.Store.{StoreState}
use Rattle.fts_workers.specs.Benches.{BenchData, is_stopped}
use Rattle.fts_workers.specs.Copies.{Copy, AreCopied, copies_of_file}
use Rattle.fts_workers.specs.Rounds.{IsOutcome}
use Rattle.fts_workers.specs.declared.held.Held.{Held}

-- a file is held, and the first one has its row
abbrev pub HasFirst : Tables → List Held → Type 0
HasFirst tables [] = ⊥
HasFirst tables (first ∷ others) = IsSome (row_at tables.rows first.file)

-- the copies that are still to be made of a file, where an outcome is kept or not
abbrev pub copies_unless : Option Outcome → List Copy → List Copy
copies_unless None copies = copies
copies_unless (Some kept) copies = []

-- the first file was copied, where no outcome of it was kept; nobody called that off, and now its outcome is kept
pub record CopiesFirst {E : Type 0} (state : E → StoreState) (calls : E → Option (List Call)) (faults : E → ℕ) (tables : Tables)
    (first : Held) (others : List Held) (bench bench_now : BenchData) (store store_now : E) : Type 0 where
  pub outcome : Outcome
  pub ended : IsOutcome first.outcome outcome
  pub keeps : bench_now ≡ record bench { held = record first { outcome = Some outcome } ∷ others }
  pub copied : AreCopied state calls faults store (copies_unless first.outcome (copies_of_file tables first.file outcome)) store_now

-- the first file that is held was copied, nobody called that off, and its outcome is kept
abbrev pub IsFirstCopied : List Held → Type 0
IsFirstCopied [] = ⊥
IsFirstCopied (first ∷ others) = (outcome : Outcome) × (first.outcome ≡ Some outcome) × (is_stopped outcome ≡ false)
