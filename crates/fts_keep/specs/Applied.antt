-- What one command comes to over a keep: every answer of `apply`, with its cause, and what the keep and its disk are then.
use Rattle.std.specs.Prelude.{◌≡◌, ◌⊎◌, ℕ, ◌+◌, Bool, false, if◌then◌else◌, nat_le, Option, Some, None, IsOk, List, [], ◌∷◌, ◌++◌, length, Result, Ok, Err}
use Rattle.fts_tables.specs.Tables.{Tables}
use Rattle.fts_tables.specs.Step.{Outcomes, step}
use Rattle.fts_tables.specs.Settling.{journal_limit}
use Rattle.fts_tables.specs.declared.commands.Entry.{Entry}
use Rattle.fts_tables.specs.declared.commands.Command.{Command}
use Rattle.fts_tables.specs.declared.commands.Answer.{Answer}
use Rattle.fts_record.specs.Spelling.{spelled}
use Rattle.fts_tables.specs.Counts.{Rose}
use Rattle.fts_disk.specs.Disk.{DiskState, IsTold, LeavesOnly}
use Rattle.fts_keep.specs.Keeps.{KeepData, StandsFor, IsImageOf}
use Rattle.fts_keep.specs.declared.fault.KeepFault.{KeepFault}
use Rattle.fts_keep.specs.declared.fault.KeepFault.TheVariants.{Rule, DiskFailed, JournalFull, Damaged, Memory}

-- a command as its writer's entry
abbrev pub entry_by : ℕ → Command → Entry
entry_by writer command = record { writer = writer; command = command }

-- whether an entry fits a journal of which so many bytes are used: the gate behind it has to stand below the limit of its command
abbrev pub fits : ℕ → Entry → Bool
fits used entry = nat_le (used + 6 + length (spelled entry)) (journal_limit entry.command)

-- what comes of a command: new tables and an answer, or a refusal by the machine or by the journal's limit
abbrev pub Applies : Type 0
Applies = Result (Tables × Answer) KeepFault

-- the same, by what comes of its step
abbrev pub applied_by : ℕ → Entry → Outcomes → Applies
applied_by used entry (Ok done) = if fits used entry then Ok done else Err (JournalFull used)
applied_by used entry (Err refusal) = Err (Rule refusal)

-- what an entry comes to over tables and so many bytes used, where memory and disk allow it
abbrev pub applied_to : Tables → ℕ → Entry → Applies
applied_to tables used entry = applied_by used entry (step tables entry.command)

-- what a check before anything is written comes to: the same, but for want of memory
abbrev pub Checks : {T : Type 0} → Tables → ℕ → Entry → Result T KeepFault → Type 0
Checks tables used entry (Ok checked) = IsOk (applied_to tables used entry)
Checks tables used entry (Err (Rule refusal)) = applied_to tables used entry ≡ Err (Rule refusal)
Checks tables used entry (Err (JournalFull full)) = applied_to tables used entry ≡ Err (JournalFull full)
Checks tables used entry (Err Memory) = Unit {0}
Checks tables used entry (Err DiskFailed) = ⊥
Checks tables used entry (Err (Damaged offset)) = ⊥

-- no command was accepted: list, tables and numbers are as before
pub record KeepsList {D : Type 0} (state : D → DiskState) (old new : KeepData D) : Type 0 where
  pub entries : new.entries ≡ old.entries
  pub tables : new.tables ≡ old.tables
  pub commands : new.commands ≡ old.commands
  pub used : new.used ≡ old.used
  pub told : (state new.disk).told ≡ (state old.disk).told

-- the command was accepted: the machine's step and answer, one entry more, and no doubt. An entry in doubt is seen where the disk tells its contents, so
-- what is said of it holds over every disk.
pub record Accepts {D : Type 0} (state : D → DiskState) (old new : KeepData D) (entry : Entry) (answer : Answer) : Type 0 where
  pub done : applied_to old.tables old.used entry ≡ Ok (new.tables, answer)
  pub commands : new.commands ≡ old.commands + 1
  pub used : new.used ≡ old.used + 5 + length (spelled entry)
  pub no_doubt : new.in_doubt ≡ false
  pub told : (state new.disk).told ≡ (state old.disk).told
  pub listed : new.entries ≡ old.entries ++ entry ∷ []
  pub cleared : new.doubt ≡ None

-- a call of the disk failed: the command would have been accepted, and the doubt is the old one, or none, or this entry
pub record FailsByDisk {D : Type 0} (state : D → DiskState) (faults : D → ℕ) (old new : KeepData D) (entry : Entry) : Type 0 where
  pub would : IsOk (applied_to old.tables old.used entry)
  pub rose : Rose (faults old.disk) (faults new.disk)
  pub keeps : KeepsList state old new
  pub doubt : (new.doubt ≡ old.doubt) ⊎ ((new.doubt ≡ None) ⊎ (new.doubt ≡ Some entry))

-- there was no memory: at most the old doubt has ended
pub record LacksMemory {D : Type 0} (state : D → DiskState) (old new : KeepData D) : Type 0 where
  pub keeps : KeepsList state old new
  pub doubt : (new.doubt ≡ old.doubt) ⊎ (new.doubt ≡ None)
  pub untouched : old.in_doubt ≡ false → new ≡ old

-- what a command came to, by the answer to it
abbrev pub Applied : {D : Type 0} → (D → DiskState) → (D → ℕ) → KeepData D → KeepData D → Entry → Result Answer KeepFault → Type 0
Applied state faults old new entry (Ok answer) = Accepts state old new entry answer
Applied state faults old new entry (Err (Rule refusal)) = (applied_to old.tables old.used entry ≡ Err (Rule refusal)) × (new ≡ old)
Applied state faults old new entry (Err (JournalFull used)) = (applied_to old.tables old.used entry ≡ Err (JournalFull used)) × (new ≡ old)
Applied state faults old new entry (Err DiskFailed) = FailsByDisk state faults old new entry
Applied state faults old new entry (Err Memory) = LacksMemory state old new
Applied state faults old new entry (Err (Damaged offset)) = ⊥

-- the entry in doubt behind the try of an entry: as before, or none, or the tried one, and then the disk's count rose in the try
abbrev pub DoubtMoves : ℕ → ℕ → Option Entry → Option Entry → Entry → Type 0
DoubtMoves before after old new entry = (new ≡ old) ⊎ ((new ≡ None) ⊎ ((new ≡ Some entry) × Rose before after))

-- the entry in doubt after a command is the one from before it, which nothing settled, or the command's own, and then the disk counted a failure
abbrev pub DoubtIsOwn : {D : Type 0} → (D → ℕ) → KeepData D → KeepData D → Entry → Type 0
DoubtIsOwn faults old new entry = DoubtMoves (faults old.disk) (faults new.disk) old.doubt new.doubt entry

-- at every moment of the call an image is one of the list before it, with its doubt, or of that list with this command, where that would be accepted
abbrev pub IsImageDuring : {D : Type 0} → KeepData D → Entry → List ℕ → Type 0
IsImageDuring old entry content =
    IsImageOf old.entries old.doubt content ⊎ (IsOk (applied_to old.tables old.used entry) × StandsFor content (old.entries ++ entry ∷ []))

-- the images at every moment inside `apply`
abbrev pub AppliesSafely : {D : Type 0} → (D → DiskState) → KeepData D → KeepData D → Entry → Type 0
AppliesSafely state old new entry = IsTold (state old.disk) → LeavesOnly (state old.disk) (state new.disk) (IsImageDuring old entry)
