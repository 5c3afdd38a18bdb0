-- Asking for places: all of them in one event, or none.
use Rattle.std.specs.Prelude.{◌≡◌, ◌⊎◌, ℕ, ◌+◌, ◌≤◌, false, nat_lt, if◌then◌else◌, Some, None, List, [], ◌∷◌, ◌++◌, length, Result, Ok, Err}
use Rattle.fts_tables.specs.Counts.{Rose}
use Rattle.fts_tables.specs.declared.places.Place.{Place}
use Rattle.fts_disk.specs.Disk.{DiskState, IsTold, LeavesOnly}
use Rattle.fts_delete.specs.declared.events.Event.TheVariants.{Ask}
use Rattle.fts_delete.specs.declared.fault.DeleteFault.{DeleteFault}
use Rattle.fts_delete.specs.declared.fault.DeleteFault.TheVariants.{Damaged, DiskFailed, JournalFull, RowsFull, Memory}
use Rattle.fts_delete.specs.declared.rows.DeleteRow.{DeleteRow}
use Rattle.fts_delete.specs.Rows.{asked_rows, most_rows}
use Rattle.fts_delete.specs.Spelling.{body_of}
use Rattle.fts_delete.specs.Journals.{DeletesData}
use Rattle.fts_delete.specs.Recording.{fits, KeepsList, IsImageWith}

-- the rows with those that are asked for
abbrev pub rows_with : List DeleteRow → List Place → List DeleteRow
rows_with rows places = rows ++ asked_rows (length rows + 1) places

-- what an asking comes to where memory and disk allow it: the room for rows is looked at first, then the room in the journal
abbrev pub asked_to : List DeleteRow → ℕ → List Place → Result (List DeleteRow) DeleteFault
asked_to rows used places =
    if nat_lt most_rows (length rows + length places) then Err (RowsFull (length rows))
    else if fits used (Ask places) then Ok (rows_with rows places) else Err (JournalFull used)

-- one event more, which has room, and nothing in doubt
pub record AddsAsk {D : Type 0} (state : D → DiskState) (old new : DeletesData D) (places : List Place) : Type 0 where
  pub came : asked_to old.rows old.used places ≡ Ok new.rows
  pub count : new.count ≡ old.count + 1
  pub used : new.used ≡ old.used + 5 + length (body_of (Ask places))
  pub sure : new.in_doubt ≡ false
  pub listed : IsTold (state old.disk) → new.events ≡ old.events ++ Ask places ∷ []
  pub no_doubt : IsTold (state old.disk) → new.doubt ≡ None

-- what is then in doubt is what was, or nothing, or this event
pub record KeepsAll {D : Type 0} (state : D → DiskState) (old new : DeletesData D) (places : List Place) : Type 0 where
  pub list : KeepsList state old new
  pub doubt : IsTold (state old.disk) → (new.doubt ≡ None) ⊎ ((new.doubt ≡ old.doubt) ⊎ (new.doubt ≡ Some (Ask places)))

-- the answer to an asking. Too many rows are refused before anything else; want of memory may stand in place of any other answer
abbrev pub AskAnswer : {D : Type 0} → (D → DiskState) → (D → ℕ) → DeletesData D → DeletesData D → List Place → Result (Unit {0}) DeleteFault → Type 0
AskAnswer state faults old new places (Ok done) = AddsAsk state old new places
AskAnswer state faults old new places (Err (RowsFull rows)) = (asked_to old.rows old.used places ≡ Err (RowsFull rows)) × (new ≡ old)
AskAnswer state faults old new places (Err (JournalFull used)) = (asked_to old.rows old.used places ≡ Err (JournalFull used)) × (new ≡ old)
AskAnswer state faults old new places (Err DiskFailed) = (asked_to old.rows old.used places ≡ Ok (rows_with old.rows places))
    × Rose (faults old.disk) (faults new.disk) × KeepsAll state old new places
AskAnswer state faults old new places (Err Memory) = (nat_lt most_rows (length old.rows + length places) ≡ false) × KeepsAll state old new places
AskAnswer state faults old new places (Err (Damaged offset)) = ⊥

-- what asking did
pub record Asked {D : Type 0} (state : D → DiskState) (faults : D → ℕ) (old new : DeletesData D) (places : List Place) (result : Result (Unit {0}) DeleteFault)
    : Type 0 where
  pub answer : AskAnswer state faults old new places result
  pub told : (state new.disk).told ≡ (state old.disk).told
  pub counts : faults old.disk ≤ faults new.disk
  -- at every moment inside, each image stands for the list, or for it with its doubt, or with this event
  pub moments : IsTold (state old.disk) → LeavesOnly (state old.disk) (state new.disk) (IsImageWith old (Ask places))
