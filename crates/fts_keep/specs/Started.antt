-- How a keep begins: the list that the disk stood for, or none on an empty disk, and then a Restart. And how a journal is only looked at.
use Rattle.std.specs.Prelude.{◌≡◌, ◌≢◌, ◌⊎◌, ℕ, ◌+◌, ◌*◌, ◌≤◌, true, false, None, List, [], ◌∷◌, ◌++◌, length, Result, Ok, Err}
use Rattle.fts_tables.specs.SettingsData.{SettingsData}
use Rattle.fts_tables.specs.Tables.{Tables}
use Rattle.fts_tables.specs.History.{tables_of, IsLegal}
use Rattle.fts_tables.specs.declared.commands.Entry.{Entry}
use Rattle.fts_tables.specs.declared.commands.Command.TheVariants.{Restart}
use Rattle.fts_record.specs.Spelling.{spelled}
use Rattle.fts_tables.specs.Counts.{Rose}
use Rattle.fts_disk.specs.Disk.{DiskState, IsTold, LeavesOnly}
use Rattle.fts_journal.specs.Loading.{IsQuiet}
use Rattle.fts_journal.specs.Journal.{IsMaking}
use Rattle.fts_keep.specs.Keeps.{KeepData, IsFilledBy, HoldsList, StandsFor, used_of, IsImageSince}
use Rattle.fts_keep.specs.Damage.{IsWhole, IsDamaged}
use Rattle.fts_keep.specs.Applied.{entry_by, fits}
use Rattle.fts_keep.specs.Ending.{KeepsFirstLimit}
use Rattle.fts_keep.specs.declared.fault.KeepFault.{KeepFault}
use Rattle.fts_keep.specs.declared.fault.KeepFault.TheVariants.{Rule, DiskFailed, JournalFull, Damaged, Memory}

-- the first entry of a run
abbrev pub restart_at : ℕ → SettingsData → Entry
restart_at now settings = entry_by 0 (Restart now settings)

-- an opening list, and the Restart behind it
abbrev pub restarted : List Entry → ℕ → SettingsData → List Entry
restarted opening now settings = opening ++ restart_at now settings ∷ []

-- what a disk stood for at the opening: an empty one for no entry, any other for those of its journal
abbrev pub Opens : List ℕ → List Entry → Type 0
Opens content opening = ((content ≡ []) × (opening ≡ [])) ⊎ IsWhole content opening

-- a crash leaves what it might have left before, now and at each moment in between
pub record IsStill (old new : DiskState) : Type 0 where
  pub images : (content : List ℕ) → new.may_leave content → old.may_leave content
  pub moments : LeavesOnly old new old.may_leave

-- The disk as the journal's `create` or `load` left it: each of its images stands for the opening list. Up to then a crash leaves what it
-- might have left before, with its first nine bytes written or torn while a new journal is made.
pub record IsOpened {D : Type 0} (state : D → DiskState) (faults : D → ℕ) (disk opened : D) (opening : List Entry) : Type 0 where
  pub list : Opens (state disk).seen opening
  pub stands : StandsFor (state opened).seen opening
  pub sound : (content : List ℕ) → (state opened).may_leave content → StandsFor content opening
  pub quiet : (state disk).seen ≢ [] → IsQuiet (state disk) (state opened)
  pub made : (state disk).seen ≡ [] → LeavesOnly (state disk) (state opened) (IsMaking (state disk))
  pub counts : faults disk ≤ faults opened

-- over a disk that tells its contents: the keep has the disk's own list and a Restart behind it, and since the opening each image is one of that list
pub record Starts {D : Type 0} (state : D → DiskState) (faults : D → ℕ) (disk : D) (settings : SettingsData) (now : ℕ) (keep : KeepData D)
    (opening : List Entry) : Type 0 where
  pub opened : D
  pub opens : IsOpened state faults disk opened opening
  pub listed : keep.entries ≡ restarted opening now settings
  pub holds : HoldsList (state keep.disk) keep.entries keep.doubt keep.tables keep.commands keep.used keep.in_doubt
  pub images : LeavesOnly (state opened) (state keep.disk) (IsImageSince opening keep.entries)
  pub counts : faults opened ≤ faults keep.disk

-- A keep was started. Over every disk there is a list of proper entries that is legal and, with the Restart behind it, is the keep's and makes its
-- tables; and as many bytes were used before that Restart as the list fills. Over a disk that tells its contents the list is the disk's own.
pub record StartsOver {D : Type 0} (state : D → DiskState) (faults : D → ℕ) (disk : D) (settings : SettingsData) (now : ℕ) (keep : KeepData D)
    (opening : List Entry) : Type 0 where
  pub legal : IsLegal opening
  pub folded : keep.tables ≡ tables_of (restarted opening now settings)
  pub counted : keep.commands ≡ length opening + 1
  pub before : ℕ
  pub least : 8 + 6 * length opening ≤ before
  pub fills : before ≡ used_of opening
  pub room : fits before (restart_at now settings) ≡ true
  pub filled : keep.used ≡ before + 5 + length (spelled (restart_at now settings))
  pub over : IsFilledBy keep (restarted opening now settings)
  -- with the Restart the list keeps the first limit, where it did without
  pub limit : KeepsFirstLimit opening → KeepsFirstLimit (restarted opening now settings)
  pub sure : keep.in_doubt ≡ false
  pub settled : keep.doubt ≡ None
  pub told : (state keep.disk).told ≡ (state disk).told
  pub counts : faults disk ≤ faults keep.disk
  pub listed : keep.entries ≡ restarted opening now settings
  pub own : IsTold (state disk) → Starts state faults disk settings now keep opening

-- a keep wasn't started: the disk stands for what it stood for, with the Restart in doubt at most
pub record StartsNot {D : Type 0} (state : D → DiskState) (faults : D → ℕ) (disk left : D) (settings : SettingsData) (now : ℕ) : Type 0 where
  pub told : (state left).told ≡ (state disk).told
  pub counts : faults disk ≤ faults left
  pub images : IsTold (state disk) → (opening : List Entry) → IsWhole (state disk).seen opening
      → LeavesOnly (state disk) (state left) (λ content. (state disk).may_leave content ⊎ IsImageSince opening (restarted opening now settings) content)
  -- on an empty disk it stands for nothing, or for the Restart alone
  pub made : IsTold (state disk) → (state disk).seen ≡ []
      → LeavesOnly (state disk) (state left) (λ content. IsMaking (state disk) content ⊎ IsImageSince [] (restarted [] now settings) content)
  -- nor is the Restart in doubt but by a failure that the disk counted: else what is there was only looked at, or an empty journal was made
  pub doubt_cause : IsTold (state disk) → (state disk).seen ≢ [] → Rose (faults disk) (faults left) ⊎ IsStill (state disk) (state left)
  pub made_cause : IsTold (state disk) → (state disk).seen ≡ []
      → Rose (faults disk) (faults left) ⊎ LeavesOnly (state disk) (state left) (λ content. IsMaking (state disk) content ⊎ StandsFor content [])
  -- what is damaged is only looked at
  pub quiet : IsTold (state disk) → (offset : ℕ) → (state disk).seen ≢ [] → IsDamaged (state disk).seen offset → IsStill (state disk) (state left)

-- why a keep wasn't started
abbrev pub StartFault : {D : Type 0} → (D → DiskState) → (D → ℕ) → D → D → SettingsData → ℕ → KeepFault → Type 0
StartFault state faults disk left settings now (Damaged offset) = IsTold (state disk) → ((state disk).seen ≢ []) × IsDamaged (state disk).seen offset
StartFault state faults disk left settings now DiskFailed = Rose (faults disk) (faults left)
StartFault state faults disk left settings now (JournalFull used) = (fits used (restart_at now settings) ≡ false)
    × (IsTold (state disk) → (opening : List Entry) × (Opens (state disk).seen opening × (used ≡ used_of opening)))
StartFault state faults disk left settings now Memory = Unit {0}
StartFault state faults disk left settings now (Rule refusal) = ⊥

-- what `start` did
abbrev pub Started : {D : Type 0} → (D → DiskState) → (D → ℕ) → D → SettingsData → ℕ → Result (KeepData D) (KeepFault × D) → Type 0
Started state faults disk settings now (Ok keep) = (opening : List Entry) × StartsOver state faults disk settings now keep opening
Started state faults disk settings now (Err stopped) =
    StartFault state faults disk stopped.1 settings now stopped.0 × StartsNot state faults disk stopped.1 settings now

-- A journal was looked at: over every disk the tables are those of a legal list. Over one that tells its contents that list is its own, and a
-- crash leaves nothing else than before.
pub record Views {D : Type 0} (state : D → DiskState) (faults : D → ℕ) (disk left : D) (tables : Tables) : Type 0 where
  pub entries : List Entry
  pub legal : IsLegal entries
  pub folded : tables ≡ tables_of entries
  pub told : (state left).told ≡ (state disk).told
  pub counts : faults disk ≤ faults left
  pub own : IsTold (state disk) → IsWhole (state disk).seen entries × IsStill (state disk) (state left)

-- why it wasn't; an empty disk is damaged at offset 0
abbrev pub ViewFault : {D : Type 0} → (D → DiskState) → (D → ℕ) → D → D → KeepFault → Type 0
ViewFault state faults disk left (Damaged offset) = IsTold (state disk) → IsDamaged (state disk).seen offset
ViewFault state faults disk left DiskFailed = Rose (faults disk) (faults left)
ViewFault state faults disk left Memory = Unit {0}
ViewFault state faults disk left (JournalFull used) = ⊥
ViewFault state faults disk left (Rule refusal) = ⊥

-- what `view` did
abbrev pub Viewed : {D : Type 0} → (D → DiskState) → (D → ℕ) → D → Result (Tables × D) (KeepFault × D) → Type 0
Viewed state faults disk (Ok viewed) = Views state faults disk viewed.1 viewed.0
Viewed state faults disk (Err stopped) = ViewFault state faults disk stopped.1 stopped.0 × (IsTold (state disk) → IsStill (state disk) (state stopped.1))
