-- What contracts see of a monitor, and what a look makes of it.
use Rattle.std.specs.Prelude.{◌≡◌, ◌⊎◌, ℕ, ◌+◌, ◌≤◌, Option, Some, List, ◌++◌, length, take, drop, Result, Ok, Err, All}
use Rattle.fts_tables.specs.Counts.{Rose}
use Rattle.fts_tables.specs.Tables.{Tables}
use Rattle.fts_tables.specs.Step.{step}
use Rattle.fts_tables.specs.History.{tables_of, IsLegal}
use Rattle.fts_tables.specs.declared.commands.Answer.{Answer}
use Rattle.fts_tables.specs.declared.commands.Entry.{Entry}
use Rattle.fts_chronicle.specs.Chronicle.{ChronicleData, chronicle_of}
use Rattle.fts_record.specs.Proper.{IsProper}
use Rattle.fts_record.specs.Reading.{entry_in}
use Rattle.fts_record.specs.Spelling.{spelled}
use Rattle.fts_disk.specs.Disk.{DiskState, IsTold}
use Rattle.fts_journal.specs.Format.{block}
use Rattle.fts_journal.specs.Loading.{IsNotJournal, IsCut, IsQuiet}
use Rattle.fts_keep.specs.Keeps.{bodies_of, used_of}
use Rattle.fts_keep.specs.Damage.{IsWhole, fault_at}
use Rattle.fts_tail.specs.Tail.{HasPassed}
use Rattle.fts_watch.specs.declared.fault.MonitorFault.{MonitorFault}
use Rattle.fts_watch.specs.declared.fault.MonitorFault.TheVariants.{DiskFailed, Damaged, Changed, Memory}

-- what contracts see of a monitor: the tables, how many entries made them, what these told beside, the offset of the gate behind the last of them,
-- and the disk
pub record MonitorData (D : Type 0) : Type 0 where
  pub tables : Tables
  pub commands : ℕ
  pub chronicle : ChronicleData
  pub used : ℕ
  pub disk : D

-- The tables are those of this list, which is legal, the chronicle is what it told, and its spellings are the bodies up to the gate: over a disk that
-- tells its contents those that stand there.
pub record IsFoldOf {D : Type 0} (state : D → DiskState) (monitor : MonitorData D) (entries : List Entry) : Type 0 where
  pub folded : monitor.tables ≡ tables_of entries
  pub legal : IsLegal entries
  pub proper : All IsProper entries
  pub counted : monitor.commands ≡ length entries
  pub chronicled : monitor.chronicle ≡ chronicle_of entries
  pub passed : HasPassed (state monitor.disk) monitor.used (bodies_of entries)

-- there is such a list
abbrev pub IsMonitor : {D : Type 0} → (D → DiskState) → MonitorData D → Type 0
IsMonitor state monitor = (entries : List Entry) × IsFoldOf state monitor entries

-- what a look did to the lists that a monitor may be of: each goes on, with entries behind it, and none is folded twice
pub record GoesOn {D : Type 0} (state : D → DiskState) (old new : MonitorData D) : Type 0 where
  pub added : List Entry
  pub each : (entries : List Entry) → IsFoldOf state old entries → IsFoldOf state new (entries ++ added)

-- behind these entries stands a whole body that is none, or is refused, and the fault is at this offset whatever follows
pub record IsRefused (content : List ℕ) (entries : List Entry) (offset : ℕ) : Type 0 where
  pub body : List ℕ
  pub stands : take (5 + length body) (drop (used_of entries) content) ≡ block body
  pub fault : (later : Tables → Option ℕ) → fault_at (tables_of entries) (used_of entries) (entry_in body) later ≡ Some offset

-- the bytes are damaged behind these entries: they are cut at their last gate, or a body stands there that is no entry, or is refused
abbrev pub IsDamagedBehind : List ℕ → List Entry → ℕ → Type 0
IsDamagedBehind content entries offset = ((offset ≡ used_of entries) × IsCut content offset) ⊎ IsRefused content entries offset

-- why a look isn't done; over a disk that tells its contents nothing that was folded is taken back
abbrev pub LookFault : {D : Type 0} → (D → DiskState) → (D → ℕ) → MonitorData D → MonitorData D → MonitorFault → Type 0
LookFault state faults old new DiskFailed = Rose (faults old.disk) (faults new.disk)
LookFault state faults old new (Damaged offset) = IsTold (state old.disk)
    → (entries : List Entry) → IsFoldOf state new entries → IsDamagedBehind (state new.disk).seen entries offset
LookFault state faults old new Changed = IsTold (state old.disk) → ⊥
LookFault state faults old new Memory = Unit {0}

-- over a disk that tells its contents its bytes stand for the list, all of them
abbrev pub IsAll : {D : Type 0} → (D → DiskState) → MonitorData D → Type 0
IsAll state monitor = IsTold (state monitor.disk) → (entries : List Entry) → IsFoldOf state monitor entries → IsWhole (state monitor.disk).seen entries

-- what a look did to the disk: a crash leaves what it might have left before
pub record OnlyLooks {D : Type 0} (state : D → DiskState) (faults : D → ℕ) (old new : D) : Type 0 where
  pub told : (state new).told ≡ (state old).told
  pub counts : faults old ≤ faults new
  pub quiet : IsTold (state old) → IsQuiet (state old) (state new)

-- why a monitor wasn't opened
abbrev pub OpenFault : {D : Type 0} → (D → DiskState) → (D → ℕ) → D → D → MonitorFault → Type 0
OpenFault state faults old new DiskFailed = Rose (faults old) (faults new)
OpenFault state faults old new (Damaged offset) = (offset ≡ 0) × (IsTold (state old) → IsNotJournal (state old).seen)
OpenFault state faults old new Changed = ⊥
OpenFault state faults old new Memory = Unit {0}

-- a body is the spelling of an entry, which leads from the tables before to those after
pub record TakesEntry (before : Tables) (body : List ℕ) (after : Tables) : Type 0 where
  pub entry : Entry
  pub answer : Answer
  pub spells : body ≡ spelled entry
  pub proper : IsProper entry
  pub stepped : step before entry.command ≡ Ok (after, answer)

-- what comes of a body behind the gate at this offset: its entry, or the fault that it is whatever follows
abbrev pub Takes : Tables → ℕ → List ℕ → Tables → Result (Unit {0}) MonitorFault → Type 0
Takes before gate body after (Ok done) = TakesEntry before body after
Takes before gate body after (Err (Damaged offset)) = (later : Tables → Option ℕ) → fault_at before gate (entry_in body) later ≡ Some offset
Takes before gate body after (Err Memory) = Unit {0}
Takes before gate body after (Err DiskFailed) = ⊥
Takes before gate body after (Err Changed) = ⊥
