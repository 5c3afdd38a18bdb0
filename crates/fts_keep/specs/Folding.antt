-- What folding the bodies of a journal comes to, one body after the other: the list so far, or the first fault.
use Rattle.std.specs.Prelude.{◌≡◌, ℕ, ◌+◌, ◌*◌, ◌≤◌, ◌<◌, Option, Some, List, [], ◌∷◌, ◌++◌, length, take, drop, Result, Ok, Err, All}
use Rattle.fts_tables.specs.Counts.{Rose}
use Rattle.fts_tables.specs.Tables.{Tables}
use Rattle.fts_tables.specs.Step.{step}
use Rattle.fts_tables.specs.History.{tables_of, IsLegal}
use Rattle.fts_tables.specs.declared.limits.TheConstants.{JOURNAL_END}
use Rattle.fts_tables.specs.declared.commands.Entry.{Entry}
use Rattle.fts_tables.specs.declared.commands.Answer.{Answer}
use Rattle.fts_record.specs.Spelling.{spelled}
use Rattle.fts_record.specs.Proper.{IsProper}
use Rattle.fts_record.specs.Reading.{entry_in}
use Rattle.fts_disk.specs.Disk.{DiskState, IsTold}
use Rattle.fts_journal.specs.Journal.{JournalData, filled_by}
use Rattle.fts_keep.specs.Keeps.{bodies_of, used_of}
use Rattle.fts_keep.specs.Damage.{fault_at, fault_from, fault_in}
use Rattle.fts_keep.specs.Started.{IsStill}
use Rattle.fts_keep.specs.declared.fault.KeepFault.{KeepFault}
use Rattle.fts_keep.specs.declared.fault.KeepFault.TheVariants.{Rule, DiskFailed, JournalFull, Damaged, Memory}

-- a body is the spelling of an entry, which leads from the tables before to those after, and stands behind the list
pub record TakesEntry (before : Tables) (list : List Entry) (body : List ℕ) (after : Tables) (longer : List Entry) : Type 0 where
  pub entry : Entry
  pub listed : longer ≡ list ++ entry ∷ []
  pub answer : Answer
  pub spells : body ≡ spelled entry
  pub proper : IsProper entry
  pub read : entry_in body ≡ Ok entry
  pub stepped : step before entry.command ≡ Ok (after, answer)

-- what comes of a body behind the gate at this offset: its entry, or the fault that it is whatever follows
abbrev pub Takes : Tables → List Entry → ℕ → List ℕ → Tables → List Entry → Result (Unit {0}) KeepFault → Type 0
Takes before list gate body after longer (Ok done) = TakesEntry before list body after longer
Takes before list gate body after longer (Err (Damaged offset)) = (later : Tables → Option ℕ) → fault_at before gate (entry_in body) later ≡ Some offset
Takes before list gate body after longer (Err Memory) = Unit {0}
Takes before list gate body after longer (Err DiskFailed) = ⊥
Takes before list gate body after longer (Err (JournalFull used)) = ⊥
Takes before list gate body after longer (Err (Rule refusal)) = ⊥

-- a reading of bodies leaves the journal as it was
pub record LeavesJournal {D : Type 0} (state : D → DiskState) (faults : D → ℕ) (old new : JournalData D) : Type 0 where
  pub count : new.count ≡ old.count
  pub used : new.used ≡ old.used
  pub in_doubt : new.in_doubt ≡ old.in_doubt
  pub told : (state new.disk).told ≡ (state old.disk).told
  pub counts : faults old.disk ≤ faults new.disk
  pub sizes : new.sizes ≡ old.sizes
  pub bodies : IsTold (state old.disk) → new.bodies ≡ old.bodies
  pub doubt : IsTold (state old.disk) → new.doubt ≡ old.doubt
  pub still : IsTold (state old.disk) → IsStill (state old.disk) (state new.disk)

-- So many bodies were folded: the tables are those of this list, which is legal, and the next gate stands behind it and behind these bodies. Where the disk
-- tells its contents its bodies begin with the spellings of this list, and the first fault is one of the bodies that follow.
pub record HasFolded {D : Type 0} (state : D → DiskState) (journal : JournalData D) (tables : Tables) (entries : List Entry) (gate n : ℕ) : Type 0 where
  pub folded : tables ≡ tables_of entries
  pub legal : IsLegal entries
  pub counted : n ≡ length entries
  pub proper : All IsProper entries
  pub fills : gate ≡ used_of entries
  pub passes : gate ≡ filled_by (take n journal.sizes)
  pub spells : IsTold (state journal.disk) → take n journal.bodies ≡ bodies_of entries
  pub behind : IsTold (state journal.disk) → fault_in journal.bodies ≡ fault_from tables gate (drop n journal.bodies)

-- all bodies were folded to this list, of a journal whose bytes are in their bounds
pub record Folds {D : Type 0} (state : D → DiskState) (journal : JournalData D) (tables : Tables) (entries : List Entry) (commands : ℕ) : Type 0 where
  pub folded : tables ≡ tables_of entries
  pub legal : IsLegal entries
  pub counted : commands ≡ length entries
  pub all : commands ≡ journal.count
  pub low : 8 + 6 * journal.count ≤ journal.used
  pub high : journal.used < JOURNAL_END
  pub proper : All IsProper entries
  pub fills : journal.used ≡ used_of entries
  pub spells : IsTold (state journal.disk) → journal.bodies ≡ bodies_of entries

-- why they weren't
abbrev pub FoldFault : {D : Type 0} → (D → DiskState) → (D → ℕ) → JournalData D → JournalData D → KeepFault → Type 0
FoldFault state faults old new (Damaged offset) = IsTold (state old.disk) → fault_in old.bodies ≡ Some offset
FoldFault state faults old new DiskFailed = Rose (faults old.disk) (faults new.disk)
FoldFault state faults old new Memory = Unit {0}
FoldFault state faults old new (JournalFull used) = ⊥
FoldFault state faults old new (Rule refusal) = ⊥
