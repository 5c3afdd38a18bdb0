-- The value behind the lock, the turns that a pass takes of it, and what a command comes to in one.
use Rattle.std.specs.Prelude.{◌≡◌, ◌⊎◌, ℕ, ◌-◌, ◌≤◌, Bool, true, false, if◌then◌else◌, List, [], ◌∷◌, ◌++◌, drop, Option, Some, None, Result, Ok, Err, IsOk, slice_index}
use Rattle.fts_tables.specs.Counts.{Rose}
use Rattle.fts_tables.specs.Tables.{Tables}
use Rattle.fts_tables.specs.History.{tables_of}
use Rattle.fts_tables.specs.declared.commands.Entry.{Entry}
use Rattle.fts_tables.specs.declared.commands.Command.{Command}
use Rattle.fts_tables.specs.declared.commands.Command.TheVariants.{Restart, Submit, CancelJob, CancelFile, SetPriority, Claim, Report, Ban, Unban, Expire}
use Rattle.fts_tables.specs.declared.commands.Answer.{Answer}
use Rattle.fts_tables.specs.declared.commands.Answer.TheVariants.{Restarted, Submitted, Cancelled, PrioritySet, Claimed, Reported, Banned, Unbanned, Expired}
use Rattle.fts_tables.specs.declared.rows.FileState.{FileState}
use Rattle.fts_tables.specs.declared.rows.FileState.TheVariants as state
use Rattle.fts_record.specs.Spelling.{spelled}
use Rattle.fts_turnstile.specs.declared.turn.LoggedTurn.{LoggedTurn}
use Rattle.fts_turnstile.specs.History.{items_of, shown_after, AllNamed, NoneBy}
use Rattle.fts_turnstile.specs.Passes.{PassView, IsSame, numbers_of}
use Rattle.fts_keep.specs.Keeps.{KeepData}
use Rattle.fts_keep.specs.Applied.{Applies, entry_by}
use Rattle.fts_keep.specs.declared.fault.KeepFault.{KeepFault}
use Rattle.fts_keep.specs.declared.fault.KeepFault.TheVariants.{Rule, DiskFailed, JournalFull, Damaged, Memory}
use Rattle.fts_workers.specs.Rounds.{applied_over}
use Rattle.fts_workers.specs.ClaimSteps.{AnswersClaim, AnswersExpiry, HasNoneOverdue, goes_on}
use Rattle.fts_disk.specs.declared.disk.Disk as disk

-- what contracts see of a shop: a keep, and how many lanes are left
pub record ShopData (D : Type 0) : Type 0 where
  pub keep : KeepData D
  pub lanes : ℕ

-- a shop, by its parts
abbrev pub shop_of : {D : Type 0} → KeepData D → ℕ → ShopData D
shop_of keep lanes = record { keep = keep; lanes = lanes }

-- a shop with another keep
abbrev pub with_keep : {D : Type 0} → ShopData D → KeepData D → ShopData D
with_keep shop keep = record shop { keep = keep }

-- the list that a shop holds is its keep's
abbrev pub shop_entries : {D : Type 0} → ShopData D → List Entry
shop_entries shop = shop.keep.entries

-- an entry names its writer
abbrev pub writer_of : Entry → ℕ
writer_of entry = entry.writer

-- a test as a number
abbrev pub flag : Bool → ℕ
flag test = if test then 1 else 0

-- an entry in doubt by its writer's number and its spelling; none where there is none. A keep has one only over a disk that tells its contents.
abbrev pub doubt_bytes : Option Entry → List ℕ
doubt_bytes None = []
doubt_bytes (Some entry) = entry.writer ∷ spelled entry

-- what a shop shows besides: its disk's count of faults, the lanes left, whether its disk tells its contents, and the entry in doubt there
abbrev pub shop_shows : {D : Type 0} → disk.Ghosts D → ShopData D → List ℕ
shop_shows disks shop =
    disks.faults shop.keep.disk ∷ shop.lanes ∷ flag (disks.state shop.keep.disk).told ∷ doubt_bytes shop.keep.doubt

-- the count of faults that is shown
abbrev pub faults_shown : List ℕ → ℕ
faults_shown shown = slice_index shown 0

-- the lanes left that are shown
abbrev pub lanes_shown : List ℕ → ℕ
lanes_shown shown = slice_index shown 1

-- whether the disk tells its contents, as it is shown
abbrev pub telling_shown : List ℕ → ℕ
telling_shown shown = slice_index shown 2

-- the entry in doubt there, as it is shown
abbrev pub doubt_shown : List ℕ → List ℕ
doubt_shown shown = drop 3 shown

-- an entry in doubt is of this writer, by the entry and as it is shown
abbrev pub IsDoubtOf : ℕ → Option Entry → Type 0
IsDoubtOf writer None = ⊥
IsDoubtOf writer (Some entry) = entry.writer ≡ writer

abbrev pub IsShownOf : ℕ → List ℕ → Type 0
IsShownOf writer [] = ⊥
IsShownOf writer (number ∷ spelling) = number ≡ writer

-- What is shown behind a turn of a number: whether the disk tells its contents stays, its count of faults never falls, and the entry in doubt is none, or
-- the one from before, or one of that number as its writer, and then the count rose.
pub record ShowsOn (number : ℕ) (before after : List ℕ) : Type 0 where
  pub tells : telling_shown after ≡ telling_shown before
  pub counts : faults_shown before ≤ faults_shown after
  pub doubt : (doubt_shown after ≡ []) ⊎ ((doubt_shown after ≡ doubt_shown before)
      ⊎ (IsShownOf number (doubt_shown after) × Rose (faults_shown before) (faults_shown after)))

-- the same of a keep's disk, by what a writer tries
pub record KeepsDisk {D : Type 0} (disks : disk.Ghosts D) (writer : ℕ) (old new : KeepData D) : Type 0 where
  pub told : (disks.state new.disk).told ≡ (disks.state old.disk).told
  pub counts : disks.faults old.disk ≤ disks.faults new.disk
  pub doubt : (new.doubt ≡ None) ⊎ ((new.doubt ≡ old.doubt) ⊎ (IsDoubtOf writer new.doubt × Rose (disks.faults old.disk) (disks.faults new.disk)))

-- a pass took one turn, behind turns of others
pub record TakesTurn (old new : PassView Entry) : Type 0 where
  pub between : List (LoggedTurn Entry)
  pub turn : LoggedTurn Entry
  pub others : NoneBy (numbers_of old) between
  pub mine : turn.number ≡ old.number
  pub seen : new.seen ≡ (old.seen ++ between) ++ turn ∷ []
  pub same : IsSame old new
  -- each entry of a turn is of the turn's writer
  pub named : AllNamed writer_of new.seen
  pub on : ShowsOn old.number (shown_after old.opening_shows (old.seen ++ between)) turn.shows

-- the list before the turn: the point at which what is done in it is done
abbrev pub point : {old new : PassView Entry} → TakesTurn old new → List Entry
point {old} taken = old.opening ++ items_of (old.seen ++ taken.between)

-- what the value showed before the turn
abbrev pub shown_before : {old new : PassView Entry} → TakesTurn old new → List ℕ
shown_before {old} taken = shown_after old.opening_shows (old.seen ++ taken.between)

-- how many lanes were left in the turn
abbrev pub lanes_in : {old new : PassView Entry} → TakesTurn old new → ℕ
lanes_in taken = lanes_shown (shown_before taken)

-- the disk's count rose in the turn
abbrev pub HasFault : {old new : PassView Entry} → TakesTurn old new → Type 0
HasFault taken = Rose (faults_shown (shown_before taken)) (faults_shown taken.turn.shows)

-- the turn leaves the number of lanes
abbrev pub KeepsLanes : {old new : PassView Entry} → TakesTurn old new → Type 0
KeepsLanes taken = lanes_shown taken.turn.shows ≡ lanes_in taken

-- the entry in doubt that the turn shows is the one from before it
abbrev pub KeepsDoubt : {old new : PassView Entry} → TakesTurn old new → Type 0
KeepsDoubt taken = doubt_shown taken.turn.shows ≡ doubt_shown (shown_before taken)

-- what a command came to, by what it would come to: the disk may fail where it would be accepted, and want of memory is free
abbrev pub CameTo : Applies → Type 0 → Result Answer KeepFault → Type 0
CameTo would rose (Err Memory) = Unit {0}
CameTo would rose (Err DiskFailed) = IsOk would × rose
CameTo would rose (Ok answer) = (tables : Tables) × (would ≡ Ok (tables, answer))
CameTo would rose (Err (Rule refusal)) = would ≡ Err (Rule refusal)
CameTo would rose (Err (JournalFull used)) = would ≡ Err (JournalFull used)
CameTo would rose (Err (Damaged offset)) = ⊥

-- the entries that a turn adds: one, where the command was accepted
abbrev pub added_by : Entry → Result Answer KeepFault → List Entry
added_by entry (Ok answer) = entry ∷ []
added_by entry (Err fault) = []

-- the entry in doubt behind the try of an entry, as it is shown: as before, or none, or the tried one, and then the disk's count rose
abbrev pub DoubtMovesIn : Type 0 → List ℕ → List ℕ → Entry → Type 0
DoubtMovesIn rose before after entry = (after ≡ before) ⊎ ((after ≡ []) ⊎ ((after ≡ doubt_bytes (Some entry)) × rose))

-- the same by the answer: none behind an accepted entry, the one from before behind a refused one, and the tried one only where the disk failed
abbrev pub DoubtLeft : Type 0 → List ℕ → List ℕ → Entry → Result Answer KeepFault → Type 0
DoubtLeft rose before after entry (Ok answer) = after ≡ []
DoubtLeft rose before after entry (Err (Rule refusal)) = after ≡ before
DoubtLeft rose before after entry (Err (JournalFull used)) = after ≡ before
DoubtLeft rose before after entry (Err DiskFailed) = DoubtMovesIn rose before after entry
DoubtLeft rose before after entry (Err Memory) = (after ≡ before) ⊎ (after ≡ [])
DoubtLeft rose before after entry (Err (Damaged offset)) = ⊥

-- a state in which a report leaves its file
abbrev pub IsEndState : FileState → Type 0
IsEndState state.Submitted = Unit {0}
IsEndState state.Active = ⊥
IsEndState state.Finished = Unit {0}
IsEndState state.Failed = Unit {0}
IsEndState state.Canceled = Unit {0}
IsEndState state.NotUsed = ⊥

-- what a report of a file may be answered: its file with the state in which it is left, or a refusal, or a fault
abbrev pub AnswersReport : ℕ → Result Answer KeepFault → Type 0
AnswersReport file (Ok (Reported reported left)) = (reported ≡ file) × IsEndState left
AnswersReport file (Ok (Restarted released)) = ⊥
AnswersReport file (Ok (Submitted job id)) = ⊥
AnswersReport file (Ok (Cancelled job)) = ⊥
AnswersReport file (Ok (PrioritySet job)) = ⊥
AnswersReport file (Ok (Claimed claimed attempt)) = ⊥
AnswersReport file (Ok (Banned cancelled)) = ⊥
AnswersReport file (Ok Unbanned) = ⊥
AnswersReport file (Ok (Expired cancelled)) = ⊥
AnswersReport file (Err (Rule refusal)) = Unit {0}
AnswersReport file (Err DiskFailed) = Unit {0}
AnswersReport file (Err (JournalFull used)) = Unit {0}
AnswersReport file (Err (Damaged offset)) = ⊥
AnswersReport file (Err Memory) = Unit {0}

-- an answer is one to the command, where that is a worker's
abbrev pub AnswersTo : Command → Result Answer KeepFault → Type 0
AnswersTo (Claim now word) result = AnswersClaim result
AnswersTo (Report now file attempt outcome) result = AnswersReport file result
AnswersTo (Expire now) result = AnswersExpiry result
AnswersTo (Restart now settings) result = Unit {0}
AnswersTo (Submit now job) result = Unit {0}
AnswersTo (CancelJob now job) result = Unit {0}
AnswersTo (CancelFile now job file) result = Unit {0}
AnswersTo (SetPriority now job priority) result = Unit {0}
AnswersTo (Ban now storage cancel) result = Unit {0}
AnswersTo (Unban now storage) result = Unit {0}

-- a command was tried in one turn, over the list that the turn met, while so many lanes were left
pub record TriedInTurn (old new : PassView Entry) (command : Command) (result : Result Answer KeepFault) (lanes : ℕ) : Type 0 where
  pub taken : TakesTurn old new
  pub came : CameTo (applied_over (point taken) (entry_by old.number command)) (HasFault taken) result
  pub added : taken.turn.items ≡ added_by (entry_by old.number command) result
  pub answers : AnswersTo command result
  pub cause : result ≡ Err DiskFailed → HasFault taken
  pub left : lanes ≡ lanes_in taken
  pub stay : KeepsLanes taken
  pub doubt : DoubtLeft (HasFault taken) (doubt_shown (shown_before taken)) (doubt_shown taken.turn.shows) (entry_by old.number command) result

-- the entries that a step's claim adds: none where none was tried
abbrev pub added_by_claim : Entry → Option (Result Answer KeepFault) → List Entry
added_by_claim entry None = []
added_by_claim entry (Some result) = added_by entry result

-- a claim follows an expiry exactly where that was accepted or found no row overdue, and is answered as a claim
abbrev pub IsTriedBehind : Result Answer KeepFault → Option (Result Answer KeepFault) → Type 0
IsTriedBehind expiry None = goes_on expiry ≡ false
IsTriedBehind expiry (Some result) = (goes_on expiry ≡ true) × AnswersClaim result

-- a claim was tried over a list in whose tables no row was overdue at its moment
pub record ClaimsOver (entries : List Entry) (writer now word : ℕ) (rose : Type 0) (result : Result Answer KeepFault) : Type 0 where
  pub none_overdue : HasNoneOverdue (tables_of entries) now
  pub came : CameTo (applied_over entries (entry_by writer (Claim now word))) rose result

-- so it was, where one was tried
abbrev pub ClaimsIfTried : List Entry → ℕ → ℕ → ℕ → Type 0 → Option (Result Answer KeepFault) → Type 0
ClaimsIfTried entries writer now word rose None = Unit {0}
ClaimsIfTried entries writer now word rose (Some result) = ClaimsOver entries writer now word rose result

-- the entry in doubt behind a step's claim: as before it where none was tried
abbrev pub DoubtLeftIfTried : Type 0 → List ℕ → List ℕ → Entry → Option (Result Answer KeepFault) → Type 0
DoubtLeftIfTried rose before after entry None = after ≡ before
DoubtLeftIfTried rose before after entry (Some result) = DoubtLeft rose before after entry result

-- The entry in doubt behind a step, as it is shown, by the answers to its expiry and its claim; in between stands what the expiry left.
pub record DoubtStepped (rose : Type 0) (before after : List ℕ) (expires claims : Entry) (expiry : Result Answer KeepFault)
    (claim : Option (Result Answer KeepFault)) : Type 0 where
  pub between : List ℕ
  pub expired : DoubtLeft rose before between expires expiry
  pub claimed : DoubtLeftIfTried rose between after claims claim

-- An expiry and a claim were tried in one turn, at one moment, while so many lanes were left: the expiry over the list that the turn met, and the claim,
-- unless the expiry met a fault, over that list with what the expiry added.
pub record StepInTurn (old new : PassView Entry) (now word : ℕ) (expiry : Result Answer KeepFault) (claim : Option (Result Answer KeepFault)) (lanes : ℕ)
    : Type 0 where
  pub taken : TakesTurn old new
  pub expired : CameTo (applied_over (point taken) (entry_by old.number (Expire now))) (HasFault taken) expiry
  pub claimed : ClaimsIfTried (point taken ++ added_by (entry_by old.number (Expire now)) expiry) old.number now word (HasFault taken) claim
  pub added : taken.turn.items ≡ added_by (entry_by old.number (Expire now)) expiry ++ added_by_claim (entry_by old.number (Claim now word)) claim
  pub answers : AnswersExpiry expiry
  pub follows : IsTriedBehind expiry claim
  pub expiry_cause : expiry ≡ Err DiskFailed → HasFault taken
  pub claim_cause : claim ≡ Some (Err DiskFailed) → HasFault taken
  pub left : lanes ≡ lanes_in taken
  pub stay : KeepsLanes taken
  pub doubt : DoubtStepped (HasFault taken) (doubt_shown (shown_before taken)) (doubt_shown taken.turn.shows) (entry_by old.number (Expire now))
      (entry_by old.number (Claim now word)) expiry claim

-- what a step came to: what its claim was answered, or the fault of its expiry where no claim was tried
abbrev pub step_answer : Result Answer KeepFault → Option (Result Answer KeepFault) → Result Answer KeepFault
step_answer expiry None = expiry
step_answer expiry (Some result) = result

-- a look in one turn, which adds nothing
pub record Looks (old new : PassView Entry) : Type 0 where
  pub taken : TakesTurn old new
  pub nothing : taken.turn.items ≡ []
  pub lanes : KeepsLanes taken
  pub doubt : KeepsDoubt taken

-- the one turn in which a lane ends
pub record LaneEnds (old new : PassView Entry) : Type 0 where
  pub taken : TakesTurn old new
  pub nothing : taken.turn.items ≡ []
  pub one_less : lanes_shown taken.turn.shows ≡ lanes_in taken - 1
  pub doubt : KeepsDoubt taken
