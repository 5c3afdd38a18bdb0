-- What folding the bodies of a journal comes to, one body after the other: the list so far, or the first fault. And the room that an event's rows need.
use Rattle.std.specs.Prelude.{◌≡◌, ℕ, ◌+◌, ◌*◌, ◌≤◌, ◌<◌, Option, Some, List, length, take, drop, Result, Ok, Err, All}
use Rattle.fts_tables.specs.Counts.{Rose}
use Rattle.fts_tables.specs.declared.limits.TheConstants.{JOURNAL_END}
use Rattle.fts_disk.specs.Disk.{DiskState, IsTold}
use Rattle.fts_journal.specs.Journal.{JournalData, filled_by}
use Rattle.fts_delete.specs.declared.events.Event.{Event}
use Rattle.fts_delete.specs.declared.events.Event.TheVariants.{Ask, Gone, Missed}
use Rattle.fts_delete.specs.declared.rows.DeleteRow.{DeleteRow}
use Rattle.fts_delete.specs.declared.fault.DeleteFault.{DeleteFault}
use Rattle.fts_delete.specs.declared.fault.DeleteFault.TheVariants.{Damaged, DiskFailed, JournalFull, RowsFull, Memory}
use Rattle.fts_delete.specs.Rows.{rows_after, AreRowsOf}
use Rattle.fts_delete.specs.Spelling.{IsProper, bodies_of, body_of, event_in}
use Rattle.fts_delete.specs.Journals.{used_of, fault_at, fault_from, fault_in}
use Rattle.fts_delete.specs.Opened.{IsStill}

-- a body is the spelling of an event, and this event leads from the rows before to those after
pub record TakesEvent (before : List DeleteRow) (body : List ℕ) (after : List DeleteRow) : Type 0 where
  pub event : Event
  pub spells : body ≡ body_of event
  pub proper : IsProper event
  pub read : event_in body ≡ Ok event
  pub taken : rows_after before event ≡ Some after

-- what comes of a body behind the gate at this offset: its event, or the fault that it is whatever follows
abbrev pub Takes : List DeleteRow → ℕ → List ℕ → List DeleteRow → Result (Unit {0}) DeleteFault → Type 0
Takes before gate body after (Ok done) = TakesEvent before body after
Takes before gate body after (Err (Damaged offset)) = (later : List DeleteRow → Option ℕ) → fault_at before gate (event_in body) later ≡ Some offset
Takes before gate body after (Err Memory) = Unit {0}
Takes before gate body after (Err DiskFailed) = ⊥
Takes before gate body after (Err (JournalFull used)) = ⊥
Takes before gate body after (Err (RowsFull rows)) = ⊥

-- a reading of bodies leaves the journal as it was
pub record LeavesJournal {D : Type 0} (state : D → DiskState) (faults : D → ℕ) (old new : JournalData D) : Type 0 where
  pub count : new.count ≡ old.count
  pub used : new.used ≡ old.used
  pub in_doubt : new.in_doubt ≡ old.in_doubt
  pub told : (state new.disk).told ≡ (state old.disk).told
  pub counts : faults old.disk ≤ faults new.disk
  pub sizes : new.sizes ≡ old.sizes
  pub bodies : IsTold (state old.disk) → new.bodies ≡ old.bodies
  pub doubt : IsTold (state old.disk) → new.doubt ≡ old.doubt
  pub still : IsTold (state old.disk) → IsStill (state old.disk) (state new.disk)

-- So many bodies were folded: the rows are those of a list, and the next gate stands behind it and behind these bodies. Where the disk
-- tells its contents its bodies begin with the spellings of this list, and the first fault is one of the bodies that follow.
pub record HasFolded {D : Type 0} (state : D → DiskState) (journal : JournalData D) (rows : List DeleteRow) (gate n : ℕ) : Type 0 where
  pub events : List Event
  pub folded : AreRowsOf rows events
  pub counted : n ≡ length events
  pub proper : All IsProper events
  pub fills : gate ≡ used_of events
  pub passes : gate ≡ filled_by (take n journal.sizes)
  pub spells : IsTold (state journal.disk) → take n journal.bodies ≡ bodies_of events
  pub behind : IsTold (state journal.disk) → fault_in journal.bodies ≡ fault_from rows gate (drop n journal.bodies)

-- all bodies were folded, of a journal whose bytes are in their bounds
pub record Folds {D : Type 0} (state : D → DiskState) (journal : JournalData D) (rows : List DeleteRow) : Type 0 where
  pub events : List Event
  pub folded : AreRowsOf rows events
  pub counted : journal.count ≡ length events
  pub low : 8 + 6 * journal.count ≤ journal.used
  pub high : journal.used < JOURNAL_END
  pub proper : All IsProper events
  pub fills : journal.used ≡ used_of events
  pub spells : IsTold (state journal.disk) → journal.bodies ≡ bodies_of events

-- why they weren't
abbrev pub FoldFault : {D : Type 0} → (D → DiskState) → (D → ℕ) → JournalData D → JournalData D → DeleteFault → Type 0
FoldFault state faults old new (Damaged offset) = IsTold (state old.disk) → fault_in old.bodies ≡ Some offset
FoldFault state faults old new DiskFailed = Rose (faults old.disk) (faults new.disk)
FoldFault state faults old new Memory = Unit {0}
FoldFault state faults old new (JournalFull used) = ⊥
FoldFault state faults old new (RowsFull rows) = ⊥

-- there is room for the rows of an event, behind so many rows in a vector of that capacity
abbrev pub HasRoom : ℕ → ℕ → Event → Type 0
HasRoom count capacity (Ask places) = count + length places ≤ capacity
HasRoom count capacity (Gone id) = Unit {0}
HasRoom count capacity (Missed id) = Unit {0}
