-- A pass as a walk over the rows: each row that waits is made ready for, visited and recorded before the next one is looked at.
use Rattle.std.specs.Prelude.{◌≡◌, ◌⊎◌, ℕ, ◌≤◌, Bool, true, false, Option, Some, None, List, length, take, Result, Ok, Err}
use Rattle.fts_tables.specs.Counts.{Rose}
use Rattle.fts_disk.specs.Disk.{DiskState, IsTold}
use Rattle.fts_store.specs.Calls.{Call}
use Rattle.fts_store.specs.Store.{StoreState}
use Rattle.fts_delete.specs.declared.fault.DeleteFault.{DeleteFault}
use Rattle.fts_delete.specs.declared.fault.DeleteFault.TheVariants.{Damaged, DiskFailed, JournalFull, RowsFull, Memory}
use Rattle.fts_delete.specs.declared.events.Event.{Event}
use Rattle.fts_delete.specs.declared.rows.DeleteRow.{DeleteRow}
use Rattle.fts_delete.specs.declared.visits.Visit.{Visit}
use Rattle.fts_delete.specs.Rows.{is_waiting}
use Rattle.fts_delete.specs.Visits.{event_of}
use Rattle.fts_delete.specs.Passes.{waiting_of}
use Rattle.fts_delete.specs.Looks.{calls_of, with_calls, Visits}
use Rattle.fts_delete.specs.Passed.{WalkedBy}
use Rattle.fts_delete.specs.Recording.{fits, KeepsList, AddsOne}
use Rattle.fts_delete.specs.Journals.{DeletesData, KeepsImages}

-- why the event of a row that was visited wasn't recorded
abbrev pub MissFault : {D : Type 0} → (D → ℕ) → DeletesData D → DeletesData D → DeleteFault → Type 0
MissFault faults old new DiskFailed = Rose (faults old.disk) (faults new.disk)
MissFault faults old new Memory = Unit {0}
MissFault faults old new (JournalFull used) = ⊥
MissFault faults old new (Damaged offset) = ⊥
MissFault faults old new (RowsFull rows) = ⊥

-- why a row wasn't visited: also where its event has no room
abbrev pub StopFault : {D : Type 0} → (D → ℕ) → DeletesData D → DeletesData D → DeleteRow → DeleteFault → Type 0
StopFault faults old new row DiskFailed = Rose (faults old.disk) (faults new.disk)
StopFault faults old new row Memory = Unit {0}
StopFault faults old new row (JournalFull used) = (used ≡ new.used) × ((visit : Visit) → fits used (event_of row.id visit) ≡ false)
StopFault faults old new row (Damaged offset) = ⊥
StopFault faults old new row (RowsFull rows) = ⊥

-- the event of a visit was recorded, or not
abbrev pub RecordAnswer : {D : Type 0} → (D → DiskState) → (D → ℕ) → DeletesData D → DeletesData D → Event → Result (Unit {0}) DeleteFault → Type 0
RecordAnswer state faults old new event (Ok done) = AddsOne state old new event
RecordAnswer state faults old new event (Err fault) = KeepsList state old new × MissFault faults old new fault
    × (IsTold (state old.disk) → (new.doubt ≡ None) ⊎ (new.doubt ≡ Some event))

-- a row was visited: the calls of the visit were made, and nothing else
pub record IsVisited {D E : Type 0} (state : D → DiskState) (faults : D → ℕ) (files : E → StoreState) (failures : E → ℕ) (calls : E → Option (List Call))
    (row : DeleteRow) (old new : DeletesData D) (store left : E) (result : Result (Unit {0}) DeleteFault) : Type 0 where
  pub came : Visit
  pub visited : Visits files failures store left row.place came
  pub called : calls left ≡ with_calls (calls store) (calls_of row.place came)
  pub answer : RecordAnswer state faults old new (event_of row.id came) result

-- a row was not visited: the store is untouched
pub record IsSkipped {D E : Type 0} (state : D → DiskState) (faults : D → ℕ) (row : DeleteRow) (old new : DeletesData D) (store left : E)
    (result : Result (Unit {0}) DeleteFault) : Type 0 where
  pub untouched : left ≡ store
  pub fault : DeleteFault
  pub is : result ≡ Err fault
  pub keeps : KeepsList state old new
  pub cause : StopFault faults old new row fault
  pub doubt : IsTold (state old.disk) → (new.doubt ≡ None) ⊎ (new.doubt ≡ old.doubt)

-- a row of a pass: one that waits is visited, or the pass stops before it; any other is passed over
abbrev pub PassesBy : {D E : Type 0} → (D → DiskState) → (D → ℕ) → (E → StoreState) → (E → ℕ) → (E → Option (List Call))
    → Bool → DeleteRow → DeletesData D → DeletesData D → E → E → Result (Unit {0}) DeleteFault → Type 0
PassesBy state faults files failures calls true row old new store left result =
    IsVisited state faults files failures calls row old new store left result ⊎ IsSkipped state faults row old new store left result
PassesBy state faults files failures calls false row old new store left result = (new ≡ old) × ((left ≡ store) × (result ≡ Ok tt))

-- the row at a place, if there is one
abbrev pub PassesAt : {D E : Type 0} → (D → DiskState) → (D → ℕ) → (E → StoreState) → (E → ℕ) → (E → Option (List Call))
    → Option DeleteRow → DeletesData D → DeletesData D → E → E → Result (Unit {0}) DeleteFault → Type 0
PassesAt state faults files failures calls None old new store left result = ⊥
PassesAt state faults files failures calls (Some row) old new store left result =
    PassesBy state faults files failures calls (is_waiting row.state) row old new store left result

-- what the row at a place leaves of the disk
pub record PassesRow {D E : Type 0} (state : D → DiskState) (faults : D → ℕ) (files : E → StoreState) (failures : E → ℕ) (calls : E → Option (List Call))
    (found : Option DeleteRow) (old new : DeletesData D) (store left : E) (result : Result (Unit {0}) DeleteFault) : Type 0 where
  pub answer : PassesAt state faults files failures calls found old new store left result
  pub told : (state new.disk).told ≡ (state old.disk).told
  pub counts : faults old.disk ≤ faults new.disk
  -- each image is one of the list, with one event more at most
  pub images : KeepsImages state old new

-- as far as the row at a place: each row before it that waited was visited
pub record WalkedTo {D E : Type 0} (state : D → DiskState) (faults : D → ℕ) (files : E → StoreState) (failures : E → ℕ) (calls : E → Option (List Call))
    (old new : DeletesData D) (store left : E) (place : ℕ) : Type 0 where
  pub done : List Visit
  pub far : length done ≡ length (waiting_of (take place old.rows))
  pub by : WalkedBy state faults files failures calls old new store left done None
