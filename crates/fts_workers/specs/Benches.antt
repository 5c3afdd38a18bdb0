-- The files that a bench holds: those that are out, in the order of their claims. Of the first one an outcome may be kept that isn't reported yet.
use Rattle.std.specs.Prelude.{◌≡◌, ◌≢◌, ℕ, zero, suc, ◌≤◌, Bool, true, false, if◌then◌else◌, List, [], ◌∷◌, map, length, Option, Some, None, is_some, IsTrue}
use Rattle.std.specs.Option.{option_map_or}
use Rattle.fts_tables.specs.Tables.{Tables, is_active, row_at}
use Rattle.fts_tables.specs.Limits.{has_known_ends}
use Rattle.fts_tables.specs.Laws.{AreTheActive}
use Rattle.fts_tables.specs.History.{tables_of, out_of_list}
use Rattle.fts_tables.specs.declared.rows.FileRow.{FileRow}
use Rattle.fts_tables.specs.declared.commands.Entry.{Entry}
use Rattle.fts_tables.specs.declared.rows.Outcome.{Outcome}
use Rattle.fts_tables.specs.declared.rows.Outcome.TheVariants.{Verified, SourceMissing, DestinationExists, SourceSize, SourceDigest, ReadBackDiffers, StoreFailed, Stopped}
use Rattle.fts_workers.specs.declared.held.Held.{Held}
use Rattle.fts_workers.specs.declared.ends.RoundEnd.{RoundEnd}
use Rattle.fts_workers.specs.declared.ends.RoundEnd.TheVariants.{Clear, Busy, DiskFailed, JournalFull, Memory}

-- what contracts see of a bench
pub record BenchData : Type 0 where
  pub held : List Held
  pub places : ℕ

-- the attempt at which a file stands
abbrev pub attempt_of : Tables → ℕ → ℕ
attempt_of tables file = option_map_or (λ row. row.attempt) (row_at tables.rows file) 0

-- these files as a bench holds them, with what is kept of the first
abbrev pub held_as : Tables → Option Outcome → List ℕ → List Held
held_as tables kept [] = []
held_as tables kept (file ∷ files) = record { file = file; attempt = attempt_of tables file; outcome = kept } ∷ held_as tables None files

-- what a bench holds over a list
abbrev pub held_over : List Entry → Option Outcome → List Held
held_over entries kept = held_as (tables_of entries) kept (out_of_list entries)

-- what a bench keeps of its first file
abbrev pub kept_of : List Held → Option Outcome
kept_of [] = None
kept_of (first ∷ others) = first.outcome

-- How many of its files a bench claimed in its last round: none, where an outcome of the first still waits to be reported, and else all of them, since
-- a round claims only behind all its reports.
abbrev pub newly_held : List Held → ℕ
newly_held [] = 0
newly_held (first ∷ others) = if is_some first.outcome then 0 else suc (length others)

-- whether a copy was called off
abbrev pub is_stopped : Outcome → Bool
is_stopped Stopped = true
is_stopped _ = false

-- no copy is kept that was called off
abbrev pub KeepsNoStop : Option Outcome → Type 0
KeepsNoStop None = Unit {0}
KeepsNoStop (Some outcome) = is_stopped outcome ≡ false

-- no outcome is kept but of the first file, and that isn't of a copy that was called off
abbrev pub KeepsOne : List Held → Type 0
KeepsOne [] = Unit {0}
KeepsOne (first ∷ others) = KeepsNoStop first.outcome × (map (λ (held : Held). held.outcome) others ≡ map (λ (held : Held). None) others)

-- the settings in force list both endpoints of each ACTIVE row
abbrev pub KnowsEnds : Tables → Type 0
KnowsEnds tables = (id : ℕ) (row : FileRow) → row_at tables.rows id ≡ Some row → IsTrue (is_active row.state)
    → IsTrue (has_known_ends tables.settings row)

-- over every disk: the bench holds exactly the files of the ACTIVE rows, with their attempts, within its places, and their endpoints are known
pub record HoldsActive (tables : Tables) (bench : BenchData) : Type 0 where
  pub files : AreTheActive (map (λ (held : Held). held.file) bench.held) tables.rows
  pub attempts : map (λ (held : Held). held.attempt) bench.held ≡ map (λ (held : Held). attempt_of tables held.file) bench.held
  pub kept : KeepsOne bench.held
  pub room : length bench.held ≤ bench.places
  pub ends : KnowsEnds tables

-- how a round ends that met no fault, with so many files held
abbrev pub calm_end : ℕ → RoundEnd
calm_end zero = Clear
calm_end (suc more) = Busy (suc more)

-- how a round ended says what the bench then holds, over every disk
abbrev pub EndsHolding : List Held → RoundEnd → Type 0
EndsHolding held Clear = held ≡ []
EndsHolding held (Busy count) = (count ≡ length held) × (held ≢ [])
EndsHolding held DiskFailed = Unit {0}
EndsHolding held (JournalFull used) = Unit {0}
EndsHolding held Memory = Unit {0}
