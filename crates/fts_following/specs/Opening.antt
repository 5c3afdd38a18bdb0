-- How the journal of a stand is opened by whoever follows: made where the disk is empty, else the bodies that its bytes stand for.
use Rattle.std.specs.Prelude.{◌≡◌, ◌≢◌, ◌⊎◌, ℕ, ◌≤◌, false, None, List, []}
use Rattle.fts_tables.specs.Counts.{Rose}
use Rattle.fts_disk.specs.Disk.{DiskState, IsTold, LeavesOnly}
use Rattle.fts_journal.specs.Format.{Stands}
use Rattle.fts_journal.specs.Journal.{JournalData, IsMaking}
use Rattle.fts_journal.specs.Loading.{IsQuiet, IsNotJournal, IsCut}
use Rattle.fts_journal.specs.declared.fault.JournalFault.{JournalFault}
use Rattle.fts_journal.specs.declared.fault.JournalFault.TheVariants as faults_of
use Rattle.fts_following.specs.declared.ends.FollowRunEnd.{FollowRunEnd}
use Rattle.fts_following.specs.declared.ends.FollowRunEnd.TheVariants.{CaughtUp, NoMemory, DiskFailed, OutputFailed, Damaged, JournalFull, Refused, LinkFailed, NoAnswer, CannotServe, Diverged}

-- the end by a fault of a journal that was to be opened
abbrev pub end_by : JournalFault → FollowRunEnd
end_by faults_of.DiskFailed = DiskFailed
end_by (faults_of.Full used) = JournalFull used
end_by faults_of.NotJournal = Damaged 0
end_by (faults_of.Cut offset) = Damaged offset
end_by faults_of.Memory = NoMemory

-- the bytes stand for these bodies, or there are no bytes and no bodies
abbrev pub StandsOrIsEmpty : List ℕ → List (List ℕ) → Type 0
StandsOrIsEmpty content bodies = ((content ≡ []) × (bodies ≡ [])) ⊎ ((content ≢ []) × Stands content bodies)

-- over a disk that tells its contents: the bodies are its own, and every image stands for them
pub record OpensBodies (disk opened : DiskState) (bodies : List (List ℕ)) : Type 0 where
  pub list : StandsOrIsEmpty disk.seen bodies
  pub sound : (content : List ℕ) → opened.may_leave content → Stands content bodies
  pub quiet : disk.seen ≢ [] → IsQuiet disk opened

-- on an empty disk that tells its contents: a crash leaves what may be left while a journal is made
abbrev pub Makes : DiskState → DiskState → Type 0
Makes disk left = IsTold disk → disk.seen ≡ [] → LeavesOnly disk left (IsMaking disk)

-- a journal was opened
pub record OpensJournal {D : Type 0} (state : D → DiskState) (faults : D → ℕ) (disk : D) (journal : JournalData D) : Type 0 where
  pub told : (state journal.disk).told ≡ (state disk).told
  pub counts : faults disk ≤ faults journal.disk
  pub sure : journal.in_doubt ≡ false
  pub no_doubt : IsTold (state disk) → journal.doubt ≡ None
  pub own : IsTold (state disk) → OpensBodies (state disk) (state journal.disk) journal.bodies

-- why it wasn't
abbrev pub OpenEnd : {D : Type 0} → (D → DiskState) → (D → ℕ) → D → D → FollowRunEnd → Type 0
OpenEnd state faults disk left NoMemory = Unit {0}
OpenEnd state faults disk left DiskFailed = Rose (faults disk) (faults left)
OpenEnd state faults disk left (Damaged offset) = IsTold (state disk)
    → ((state disk).seen ≢ []) × ((IsNotJournal (state disk).seen × (offset ≡ 0)) ⊎ IsCut (state disk).seen offset)
OpenEnd state faults disk left CaughtUp = ⊥
OpenEnd state faults disk left OutputFailed = ⊥
OpenEnd state faults disk left (JournalFull used) = ⊥
OpenEnd state faults disk left (Refused status) = ⊥
OpenEnd state faults disk left LinkFailed = ⊥
OpenEnd state faults disk left NoAnswer = ⊥
OpenEnd state faults disk left (CannotServe status) = ⊥
OpenEnd state faults disk left (Diverged number) = ⊥

-- a journal was not opened
pub record OpensNot {D : Type 0} (state : D → DiskState) (faults : D → ℕ) (disk left : D) (end : FollowRunEnd) : Type 0 where
  pub told : (state left).told ≡ (state disk).told
  pub counts : faults disk ≤ faults left
  pub cause : OpenEnd state faults disk left end
  pub quiet : IsTold (state disk) → (state disk).seen ≢ [] → IsQuiet (state disk) (state left)
