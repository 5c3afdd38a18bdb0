-- A pass over a store and a journal: which visits were made, which events came of them, and what both hold then.
use Rattle.std.specs.Prelude.{◌≡◌, ◌⊎◌, ℕ, ◌+◌, ◌≤◌, ◌<◌, true, false, Option, Some, None, List, [], ◌∷◌, ◌++◌, map, length, slice_get, Result, Ok, Err}
use Rattle.fts_tables.specs.Counts.{Rose}
use Rattle.fts_tables.specs.Places.{is_same_place}
use Rattle.fts_tables.specs.declared.places.Place.{Place}
use Rattle.fts_disk.specs.Disk.{DiskState, IsTold}
use Rattle.fts_store.specs.Calls.{Call}
use Rattle.fts_store.specs.Store.{StoreState, IsTold as TellsFiles}
use Rattle.fts_delete.specs.declared.fault.DeleteFault.{DeleteFault}
use Rattle.fts_delete.specs.declared.fault.DeleteFault.TheVariants.{Damaged, DiskFailed, JournalFull, RowsFull, Memory}
use Rattle.fts_delete.specs.declared.rows.DeleteRow.{DeleteRow}
use Rattle.fts_delete.specs.declared.visits.Visit.{Visit}
use Rattle.fts_delete.specs.declared.events.Event.{Event}
use Rattle.fts_delete.specs.Visits.{saw_none, event_of}
use Rattle.fts_delete.specs.Passes.{waiting_of, events_of, rows_passed}
use Rattle.fts_delete.specs.Looks.{calls_of, with_calls, Visits}
use Rattle.fts_delete.specs.Recording.{fits}
use Rattle.fts_delete.specs.Journals.{DeletesData, used_after, KeepsImages}

-- the places of the rows that wait, in order of id
abbrev pub places_of : List DeleteRow → List Place
places_of rows = map (λ row. row.place) (waiting_of rows)

-- places were visited one by one, as far as visits go, from this store to that one
abbrev pub AreVisits : {E : Type 0} → (E → StoreState) → (E → ℕ) → List Place → List Visit → E → E → Type 0
AreVisits state faults places [] old new = new ≡ old
AreVisits state faults [] (visit ∷ visits) old new = ⊥
AreVisits {E = E} state faults (place ∷ places) (visit ∷ visits) old new =
    (mid : E) × (Visits state faults old mid place visit × AreVisits state faults places visits mid new)

-- all their calls, in order
abbrev pub pass_calls : List Place → List Visit → List Call
pass_calls places [] = []
pass_calls [] (visit ∷ visits) = []
pass_calls (place ∷ places) (visit ∷ visits) = calls_of place visit ++ pass_calls places visits

-- the visits with one whose event was not recorded, where there is one
abbrev pub with_last : List Visit → Option Visit → List Visit
with_last visits None = visits
with_last visits (Some visit) = visits ++ visit ∷ []

-- why a pass stopped. The journal's limit stops it before the next file is touched: whatever a visit of that row gave, its event has no room.
abbrev pub PassFault : {D : Type 0} → (D → ℕ) → DeletesData D → DeletesData D → List Visit → Option Visit → DeleteFault → Type 0
PassFault faults old new done last DiskFailed = Rose (faults old.disk) (faults new.disk)
PassFault faults old new done last (JournalFull used) = (used ≡ new.used) × (last ≡ None)
    × ((row : DeleteRow) → slice_get (waiting_of old.rows) (length done) ≡ Some row → (visit : Visit) → fits used (event_of row.id visit) ≡ false)
PassFault faults old new done last Memory = Unit {0}
PassFault faults old new done last (Damaged offset) = ⊥
PassFault faults old new done last (RowsFull rows) = ⊥

-- what may be in doubt behind a pass: nothing, what was before, or the event of a visit that was not recorded
abbrev pub IsPassDoubt : List DeleteRow → Option Event → Option Event → List Visit → Option Visit → Type 0
IsPassDoubt rows before now done None = (now ≡ None) ⊎ (now ≡ before)
IsPassDoubt rows before now done (Some came) =
    (now ≡ None) ⊎ ((row : DeleteRow) × (slice_get (waiting_of rows) (length done) ≡ Some row) × (now ≡ Some (event_of row.id came)))

-- where a pass ended: each row that waited was visited, or why not
abbrev pub PassEnds : {D : Type 0} → (D → ℕ) → DeletesData D → DeletesData D → List Visit → Option Visit → Result (Unit {0}) DeleteFault → Type 0
PassEnds faults old new done last (Ok all) = (length done ≡ length (waiting_of old.rows)) × (last ≡ None)
PassEnds faults old new done last (Err fault) = (length done < length (waiting_of old.rows)) × PassFault faults old new done last fault

-- what a walk with these visits did: their events are recorded, but the last one may be in doubt
pub record WalkedBy {D E : Type 0} (state : D → DiskState) (faults : D → ℕ) (files : E → StoreState) (failures : E → ℕ) (calls : E → Option (List Call))
    (old new : DeletesData D) (store left : E) (done : List Visit) (last : Option Visit) : Type 0 where
  pub rows : new.rows ≡ rows_passed old.rows done
  pub count : new.count ≡ old.count + length done
  pub used : new.used ≡ used_after old.used (events_of old.rows done)
  pub listed : IsTold (state old.disk) → new.events ≡ old.events ++ events_of old.rows done
  pub doubt : IsTold (state old.disk) → IsPassDoubt old.rows old.doubt new.doubt done last
  pub visited : AreVisits files failures (places_of old.rows) (with_last done last) store left
  pub called : calls left ≡ with_calls (calls store) (pass_calls (places_of old.rows) (with_last done last))
  pub told : (state new.disk).told ≡ (state old.disk).told
  pub counts : faults old.disk ≤ faults new.disk
  pub images : KeepsImages state old new

-- what a pass did
pub record Passed {D E : Type 0} (state : D → DiskState) (faults : D → ℕ) (files : E → StoreState) (failures : E → ℕ) (calls : E → Option (List Call))
    (old new : DeletesData D) (store left : E) (result : Result (Unit {0}) DeleteFault) : Type 0 where
  -- the visits whose events were recorded, and one more at most
  pub done : List Visit
  pub last : Option Visit
  pub ends : PassEnds faults old new done last result
  pub by : WalkedBy state faults files failures calls old new store left done last

-- ---- what follows of the files, over a store that tells them

-- each place whose visit saw none holds no file now
abbrev pub AreAbsent : {E : Type 0} → (E → StoreState) → E → List Place → List Visit → Type 0
AreAbsent files left places [] = Unit {0}
AreAbsent files left [] (visit ∷ visits) = Unit {0}
AreAbsent files left (place ∷ places) (visit ∷ visits) = (saw_none visit ≡ true → (files left).files place ≡ None) × AreAbsent files left places visits

-- a place that is none of these
abbrev pub IsElsewhere : Place → List Place → Type 0
IsElsewhere place [] = Unit {0}
IsElsewhere place (other ∷ others) = (is_same_place place other ≡ false) × IsElsewhere place others

-- after visits: what was seen to be gone is gone, no file was made, and files at no row's place are as before
pub record LeavesFiles {E : Type 0} (files : E → StoreState) (store left : E) (places : List Place) (visits : List Visit) : Type 0 where
  pub told : (files left).told ≡ (files store).told
  pub absent : AreAbsent files left places visits
  pub none_made : (place : Place) → (files store).files place ≡ None → (files left).files place ≡ None
  pub elsewhere : (place : Place) → IsElsewhere place places → (files left).files place ≡ (files store).files place

abbrev pub PassLeavesFiles : {E : Type 0} → (E → StoreState) → (E → ℕ) → Type 0
PassLeavesFiles {E = E} files failures = (places : List Place) (visits : List Visit) (store left : E)
    → TellsFiles (files store) → AreVisits files failures places visits store left → LeavesFiles files store left places visits
