-- How the journal of deletions is opened: made where the disk is empty, else the events that its bytes stand for.
use Rattle.std.specs.Prelude.{◌≡◌, ◌≢◌, ◌⊎◌, ℕ, ◌≤◌, false, None, List, [], Result, Ok, Err}
use Rattle.fts_tables.specs.Counts.{Rose}
use Rattle.fts_disk.specs.Disk.{DiskState, IsTold, LeavesOnly}
use Rattle.fts_journal.specs.Format.{Stands}
use Rattle.fts_journal.specs.Journal.{JournalData, IsMaking}
use Rattle.fts_journal.specs.Loading.{IsQuiet, IsNotJournal, IsCut}
use Rattle.fts_delete.specs.declared.events.Event.{Event}
use Rattle.fts_delete.specs.declared.fault.DeleteFault.{DeleteFault}
use Rattle.fts_delete.specs.declared.fault.DeleteFault.TheVariants.{Damaged, DiskFailed, JournalFull, RowsFull, Memory}
use Rattle.fts_delete.specs.Journals.{DeletesData, IsDamaged, IsWhole, StandsFor}

-- the bytes stand for these bodies, or there are no bytes and no bodies
abbrev pub StandsOrIsEmpty : List ℕ → List (List ℕ) → Type 0
StandsOrIsEmpty content bodies = ((content ≡ []) × (bodies ≡ [])) ⊎ ((content ≢ []) × Stands content bodies)

-- over a disk that tells its contents: the bodies are its own, and every image stands for them
pub record OpensBodies (disk opened : DiskState) (bodies : List (List ℕ)) : Type 0 where
  pub list : StandsOrIsEmpty disk.seen bodies
  pub sound : (content : List ℕ) → opened.may_leave content → Stands content bodies
  pub quiet : disk.seen ≢ [] → IsQuiet disk opened

-- on an empty disk that tells its contents: a crash leaves what may be left while a journal is made
abbrev pub Makes : DiskState → DiskState → Type 0
Makes disk left = IsTold disk → disk.seen ≡ [] → LeavesOnly disk left (IsMaking disk)

-- a journal was opened
pub record OpensJournal {D : Type 0} (state : D → DiskState) (faults : D → ℕ) (disk : D) (journal : JournalData D) : Type 0 where
  pub told : (state journal.disk).told ≡ (state disk).told
  pub counts : faults disk ≤ faults journal.disk
  pub sure : journal.in_doubt ≡ false
  pub no_doubt : IsTold (state disk) → journal.doubt ≡ None
  pub own : IsTold (state disk) → OpensBodies (state disk) (state journal.disk) journal.bodies

-- why it wasn't
abbrev pub NoJournalFault : {D : Type 0} → (D → DiskState) → (D → ℕ) → D → D → DeleteFault → Type 0
NoJournalFault state faults disk left (Damaged offset) = IsTold (state disk)
    → ((state disk).seen ≢ []) × ((IsNotJournal (state disk).seen × (offset ≡ 0)) ⊎ IsCut (state disk).seen offset)
NoJournalFault state faults disk left DiskFailed = Rose (faults disk) (faults left)
NoJournalFault state faults disk left Memory = Unit {0}
NoJournalFault state faults disk left (JournalFull used) = ⊥
NoJournalFault state faults disk left (RowsFull rows) = ⊥

-- a journal was not opened
pub record OpensNot {D : Type 0} (state : D → DiskState) (faults : D → ℕ) (disk left : D) (fault : DeleteFault) : Type 0 where
  pub told : (state left).told ≡ (state disk).told
  pub counts : faults disk ≤ faults left
  pub cause : NoJournalFault state faults disk left fault
  pub quiet : IsTold (state disk) → (state disk).seen ≢ [] → IsQuiet (state disk) (state left)

-- a crash leaves what it might have left before, now and at each moment in between
pub record IsStill (old new : DiskState) : Type 0 where
  pub images : (content : List ℕ) → new.may_leave content → old.may_leave content
  pub moments : LeavesOnly old new old.may_leave

-- what a disk stands for: an empty one for no event, any other for those of its journal
abbrev pub Opens : List ℕ → List Event → Type 0
Opens content events = ((content ≡ []) × (events ≡ [])) ⊎ IsWhole content events

-- The disk was only looked at, or an empty one was made a journal: up to then a crash leaves what it might have left before, or its first nine
-- bytes, torn, or the empty journal.
pub record IsLeft (old new : DiskState) : Type 0 where
  pub still : old.seen ≢ [] → IsStill old new
  pub made : old.seen ≡ [] → LeavesOnly old new (λ content. IsMaking old content ⊎ StandsFor content [])

-- it was opened: over a disk that tells its contents with the events that the disk stood for
pub record OpensOver {D : Type 0} (state : D → DiskState) (faults : D → ℕ) (disk : D) (deletes : DeletesData D) : Type 0 where
  pub told : (state deletes.disk).told ≡ (state disk).told
  pub counts : faults disk ≤ faults deletes.disk
  pub sure : deletes.in_doubt ≡ false
  pub unlisted : (state disk).told ≡ false → deletes.events ≡ []
  pub list : IsTold (state disk) → Opens (state disk).seen deletes.events
  pub no_doubt : IsTold (state disk) → deletes.doubt ≡ None
  pub left : IsTold (state disk) → IsLeft (state disk) (state deletes.disk)
  -- since then each image stands for these events
  pub sound : IsTold (state disk) → (content : List ℕ) → (state deletes.disk).may_leave content → StandsFor content deletes.events

-- why it wasn't
abbrev pub OpenFault : {D : Type 0} → (D → DiskState) → (D → ℕ) → D → D → DeleteFault → Type 0
OpenFault state faults disk left (Damaged offset) = IsTold (state disk) → ((state disk).seen ≢ []) × IsDamaged (state disk).seen offset
OpenFault state faults disk left DiskFailed = Rose (faults disk) (faults left)
OpenFault state faults disk left Memory = Unit {0}
OpenFault state faults disk left (JournalFull used) = ⊥
OpenFault state faults disk left (RowsFull rows) = ⊥

-- it wasn't opened, and the disk is only left as opening may leave it
pub record OpensNone {D : Type 0} (state : D → DiskState) (faults : D → ℕ) (disk back : D) (fault : DeleteFault) : Type 0 where
  pub cause : OpenFault state faults disk back fault
  pub told : (state back).told ≡ (state disk).told
  pub counts : faults disk ≤ faults back
  pub left : IsTold (state disk) → IsLeft (state disk) (state back)

-- what opening did; the disk comes back where it failed
abbrev pub Opened : {D : Type 0} → (D → DiskState) → (D → ℕ) → D → Result (DeletesData D) (DeleteFault × D) → Type 0
Opened state faults disk (Ok deletes) = OpensOver state faults disk deletes
Opened state faults disk (Err stopped) = OpensNone state faults disk stopped.1 stopped.0
