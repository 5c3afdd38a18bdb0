-- Recording one event: first room is looked for and a doubt ended, then the event is appended and the rows move on.
use Rattle.std.specs.Prelude.{◌≡◌, ◌⊎◌, ℕ, ◌+◌, ◌≤◌, Bool, true, false, nat_le, Some, None, List, [], ◌∷◌, ◌++◌, length, Result, Ok, Err}
use Rattle.fts_tables.specs.Counts.{Rose}
use Rattle.fts_tables.specs.declared.limits.TheConstants.{JOURNAL_END}
use Rattle.fts_disk.specs.Disk.{DiskState, IsTold, LeavesOnly}
use Rattle.fts_delete.specs.declared.events.Event.{Event}
use Rattle.fts_delete.specs.declared.fault.DeleteFault.{DeleteFault}
use Rattle.fts_delete.specs.declared.fault.DeleteFault.TheVariants.{Damaged, DiskFailed, JournalFull, RowsFull, Memory}
use Rattle.fts_delete.specs.Rows.{rows_after}
use Rattle.fts_delete.specs.Spelling.{body_of}
use Rattle.fts_delete.specs.Journals.{DeletesData, StandsFor, with_doubt}

-- a body of so many bytes fits behind so many used ones: the next gate has to stand below the journal's end
abbrev pub has_room : ℕ → ℕ → Bool
has_room used size = nat_le (used + 6 + size) JOURNAL_END

-- an event fits
abbrev pub fits : ℕ → Event → Bool
fits used event = has_room used (length (body_of event))

-- no event more: list, rows and numbers are as before
pub record KeepsList {D : Type 0} (state : D → DiskState) (old new : DeletesData D) : Type 0 where
  pub rows : new.rows ≡ old.rows
  pub count : new.count ≡ old.count
  pub used : new.used ≡ old.used
  pub events : new.events ≡ old.events

-- the content stands for the list, or for it with its doubt
abbrev pub IsImageOf : {D : Type 0} → DeletesData D → List ℕ → Type 0
IsImageOf old content = StandsFor content old.events ⊎ StandsFor content (with_doubt old.events old.doubt)

-- the content stands for the list, or for it with its doubt, or with this event
abbrev pub IsImageWith : {D : Type 0} → DeletesData D → Event → List ℕ → Type 0
IsImageWith old event content = IsImageOf old content ⊎ StandsFor content (old.events ++ event ∷ [])

-- why a journal wasn't made ready, or that nothing is in doubt and a body of so many bytes has room
abbrev pub ReadyAnswer : {D : Type 0} → (D → DiskState) → (D → ℕ) → DeletesData D → DeletesData D → ℕ → Result (Unit {0}) DeleteFault → Type 0
ReadyAnswer state faults old new size (Ok done) =
    (has_room old.used size ≡ true) × (new.in_doubt ≡ false) × (IsTold (state old.disk) → new.doubt ≡ None) × KeepsList state old new
ReadyAnswer state faults old new size (Err DiskFailed) =
    (has_room old.used size ≡ true) × Rose (faults old.disk) (faults new.disk) × (IsTold (state old.disk) → new.doubt ≡ old.doubt) × KeepsList state old new
ReadyAnswer state faults old new size (Err (JournalFull used)) = (has_room old.used size ≡ false) × (used ≡ old.used) × (new ≡ old)
ReadyAnswer state faults old new size (Err Memory) = ⊥
ReadyAnswer state faults old new size (Err (RowsFull rows)) = ⊥
ReadyAnswer state faults old new size (Err (Damaged offset)) = ⊥

-- what making ready did
pub record Readied {D : Type 0} (state : D → DiskState) (faults : D → ℕ) (old new : DeletesData D) (size : ℕ) (result : Result (Unit {0}) DeleteFault)
    : Type 0 where
  pub answer : ReadyAnswer state faults old new size result
  pub told : (state new.disk).told ≡ (state old.disk).told
  pub counts : faults old.disk ≤ faults new.disk
  pub moments : IsTold (state old.disk) → LeavesOnly (state old.disk) (state new.disk) (IsImageOf old)

-- one event more, and the rows that it makes
pub record AddsOne {D : Type 0} (state : D → DiskState) (old new : DeletesData D) (event : Event) : Type 0 where
  pub rows : rows_after old.rows event ≡ Some new.rows
  pub count : new.count ≡ old.count + 1
  pub used : new.used ≡ old.used + 5 + length (body_of event)
  pub sure : new.in_doubt ≡ false
  pub listed : IsTold (state old.disk) → new.events ≡ old.events ++ event ∷ []
  pub no_doubt : IsTold (state old.disk) → new.doubt ≡ None

-- why an event wasn't recorded by a journal that was ready for it
abbrev pub AddAnswer : {D : Type 0} → (D → DiskState) → (D → ℕ) → DeletesData D → DeletesData D → Event → Result (Unit {0}) DeleteFault → Type 0
AddAnswer state faults old new event (Ok done) = AddsOne state old new event
AddAnswer state faults old new event (Err DiskFailed) = Rose (faults old.disk) (faults new.disk)
    × (IsTold (state old.disk) → (new.doubt ≡ None) ⊎ (new.doubt ≡ Some event)) × KeepsList state old new
AddAnswer state faults old new event (Err Memory) = new ≡ old
AddAnswer state faults old new event (Err (JournalFull used)) = ⊥
AddAnswer state faults old new event (Err (RowsFull rows)) = ⊥
AddAnswer state faults old new event (Err (Damaged offset)) = ⊥

-- what recording did
pub record Added {D : Type 0} (state : D → DiskState) (faults : D → ℕ) (old new : DeletesData D) (event : Event) (result : Result (Unit {0}) DeleteFault)
    : Type 0 where
  pub answer : AddAnswer state faults old new event result
  pub told : (state new.disk).told ≡ (state old.disk).told
  pub counts : faults old.disk ≤ faults new.disk
  pub moments : IsTold (state old.disk) → LeavesOnly (state old.disk) (state new.disk) (IsImageWith old event)
