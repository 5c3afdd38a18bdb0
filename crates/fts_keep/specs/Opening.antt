-- What opening a journal comes to: it is made on an empty disk, and else loaded.
use Rattle.std.specs.Prelude.{◌≡◌, ◌≢◌, ◌⊎◌, ℕ, ◌≤◌, false, None, List, []}
use Rattle.fts_tables.specs.Counts.{Rose}
use Rattle.fts_disk.specs.Disk.{DiskState, IsTold, LeavesOnly}
use Rattle.fts_journal.specs.Format.{Stands}
use Rattle.fts_journal.specs.Loading.{IsQuiet, IsNotJournal, IsCut}
use Rattle.fts_journal.specs.Journal.{JournalData, IsMaking}
use Rattle.fts_keep.specs.declared.fault.KeepFault.{KeepFault}
use Rattle.fts_keep.specs.declared.fault.KeepFault.TheVariants.{Rule, DiskFailed, JournalFull, Damaged, Memory}

-- the bytes stand for these bodies, or there are no bytes and no bodies
abbrev pub StandsOrIsEmpty : List ℕ → List (List ℕ) → Type 0
StandsOrIsEmpty content bodies = ((content ≡ []) × (bodies ≡ [])) ⊎ ((content ≢ []) × Stands content bodies)

-- over a disk that tells its contents: the bodies are its own, and every image stands for them
pub record OpensBodies (disk opened : DiskState) (bodies : List (List ℕ)) : Type 0 where
  pub list : StandsOrIsEmpty disk.seen bodies
  pub sound : (content : List ℕ) → opened.may_leave content → Stands content bodies
  pub quiet : disk.seen ≢ [] → IsQuiet disk opened

-- on an empty disk that tells its contents: a crash leaves what may be left while a journal is made
abbrev pub Makes : DiskState → DiskState → Type 0
Makes disk left = IsTold disk → disk.seen ≡ [] → LeavesOnly disk left (IsMaking disk)

-- a journal was opened
pub record OpensJournal {D : Type 0} (state : D → DiskState) (faults : D → ℕ) (disk : D) (journal : JournalData D) : Type 0 where
  pub told : (state journal.disk).told ≡ (state disk).told
  pub counts : faults disk ≤ faults journal.disk
  pub sure : journal.in_doubt ≡ false
  pub no_doubt : IsTold (state disk) → journal.doubt ≡ None
  pub own : IsTold (state disk) → OpensBodies (state disk) (state journal.disk) journal.bodies

-- why it wasn't
abbrev pub OpenFault : {D : Type 0} → (D → DiskState) → (D → ℕ) → D → D → KeepFault → Type 0
OpenFault state faults disk left (Damaged offset) = IsTold (state disk)
    → ((state disk).seen ≢ []) × ((IsNotJournal (state disk).seen × (offset ≡ 0)) ⊎ IsCut (state disk).seen offset)
OpenFault state faults disk left DiskFailed = Rose (faults disk) (faults left)
OpenFault state faults disk left Memory = Unit {0}
OpenFault state faults disk left (JournalFull used) = ⊥
OpenFault state faults disk left (Rule refusal) = ⊥

-- a journal was not opened
pub record OpensNot {D : Type 0} (state : D → DiskState) (faults : D → ℕ) (disk left : D) (fault : KeepFault) : Type 0 where
  pub told : (state left).told ≡ (state disk).told
  pub counts : faults disk ≤ faults left
  pub cause : OpenFault state faults disk left fault
  pub quiet : IsTold (state disk) → (state disk).seen ≢ [] → IsQuiet (state disk) (state left)
