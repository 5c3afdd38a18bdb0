-- What a worker tries of the keep before it copies: the files that are overdue are cancelled, and then a file is claimed. A step does both at one moment.
use Rattle.std.specs.Prelude.{◌≡◌, ℕ, max, Bool, true, false, Option, Some, None, Result, Ok, Err}
use Rattle.std.specs.List.{list_any}
use Rattle.fts_disk.specs.Disk.{DiskState}
use Rattle.fts_tables.specs.Tables.{Tables}
use Rattle.fts_tables.specs.Waits.{is_overdue}
use Rattle.fts_tables.specs.declared.commands.Command.{Command}
use Rattle.fts_tables.specs.declared.commands.Command.TheVariants.{Claim, Expire}
use Rattle.fts_tables.specs.declared.commands.Answer.{Answer}
use Rattle.fts_tables.specs.declared.commands.Answer.TheVariants.{Restarted, Submitted, Cancelled, PrioritySet, Claimed, Reported, Banned, Unbanned, Expired}
use Rattle.fts_tables.specs.declared.commands.Refusal.TheVariants.{Idle}
use Rattle.fts_keep.specs.Keeps.{KeepData, IsKeep, Grows, DoubtHasCause, KeepsImagesSinceAny}
use Rattle.fts_keep.specs.Applied.{Applied, entry_by}
use Rattle.fts_keep.specs.declared.fault.KeepFault.{KeepFault}
use Rattle.fts_keep.specs.declared.fault.KeepFault.TheVariants.{Rule, DiskFailed, JournalFull, Damaged, Memory}

-- no row is overdue at a moment, or at the last one of the tables where that is later
abbrev pub HasNoneOverdue : Tables → ℕ → Type 0
HasNoneOverdue tables now = list_any (is_overdue tables.jobs (max now tables.moment)) tables.rows ≡ false

-- what an expiry may be answered: that files were cancelled, or that no row is overdue, or a fault; and never that the journal is damaged
abbrev pub AnswersExpiry : Result Answer KeepFault → Type 0
AnswersExpiry (Ok (Expired cancelled)) = Unit {0}
AnswersExpiry (Ok (Restarted released)) = ⊥
AnswersExpiry (Ok (Submitted job id)) = ⊥
AnswersExpiry (Ok (Cancelled job)) = ⊥
AnswersExpiry (Ok (PrioritySet job)) = ⊥
AnswersExpiry (Ok (Claimed file attempt)) = ⊥
AnswersExpiry (Ok (Reported file state)) = ⊥
AnswersExpiry (Ok (Banned cancelled)) = ⊥
AnswersExpiry (Ok Unbanned) = ⊥
AnswersExpiry (Err (Rule refusal)) = refusal ≡ Idle
AnswersExpiry (Err DiskFailed) = Unit {0}
AnswersExpiry (Err (JournalFull used)) = Unit {0}
AnswersExpiry (Err (Damaged offset)) = ⊥
AnswersExpiry (Err Memory) = Unit {0}

-- what a claim may be answered: a file, or that no row is eligible, or a fault; and never that the journal is damaged
abbrev pub AnswersClaim : Result Answer KeepFault → Type 0
AnswersClaim (Ok (Claimed file attempt)) = Unit {0}
AnswersClaim (Ok (Restarted released)) = ⊥
AnswersClaim (Ok (Submitted job id)) = ⊥
AnswersClaim (Ok (Cancelled job)) = ⊥
AnswersClaim (Ok (PrioritySet job)) = ⊥
AnswersClaim (Ok (Reported file state)) = ⊥
AnswersClaim (Ok (Banned cancelled)) = ⊥
AnswersClaim (Ok Unbanned) = ⊥
AnswersClaim (Ok (Expired cancelled)) = ⊥
AnswersClaim (Err (Rule refusal)) = refusal ≡ Idle
AnswersClaim (Err DiskFailed) = Unit {0}
AnswersClaim (Err (JournalFull used)) = Unit {0}
AnswersClaim (Err (Damaged offset)) = ⊥
AnswersClaim (Err Memory) = Unit {0}

-- whether a worker goes on to claim behind an expiry that was answered so: files were cancelled, or none was overdue
abbrev pub goes_on : Result Answer KeepFault → Bool
goes_on (Ok answer) = true
goes_on (Err (Rule refusal)) = true
goes_on _ = false

module _ {D : Type 0} (state : D → DiskState) (faults : D → ℕ) (writer : ℕ) where
  -- what each call keeps: the list only grows, by entries of this writer, each image is one of it, and a doubt behind it has its cause
  pub record KeepsBy (old new : KeepData D) : Type 0 where
    pub grows : Grows state faults writer old new
    pub images : KeepsImagesSinceAny state old new
    pub doubt : DoubtHasCause state faults old new

  -- a command of the writer was tried: what it came to, by its answer, and what was kept
  pub record IsTried (old new : KeepData D) (command : Command) (answer : Result Answer KeepFault) : Type 0 where
    pub applied : Applied state faults old new (entry_by writer command) answer
    pub keeps : KeepsBy old new

  -- an expiry was tried: where files were cancelled, or none was overdue, no row is overdue any more
  pub record IsExpiry (old new : KeepData D) (now : ℕ) (answer : Result Answer KeepFault) : Type 0 where
    pub tried : IsTried old new (Expire now) answer
    pub answers : AnswersExpiry answer
    pub gone : goes_on answer ≡ true → HasNoneOverdue new.tables now

  -- a claim was tried
  pub record IsClaim (old new : KeepData D) (now word : ℕ) (answer : Result Answer KeepFault) : Type 0 where
    pub tried : IsTried old new (Claim now word) answer
    pub answers : AnswersClaim answer

  -- a claim behind an expiry at the same moment: it met tables in which no row was overdue
  pub record ClaimsBehind (between new : KeepData D) (now word : ℕ) (answer : Result Answer KeepFault) : Type 0 where
    pub none_overdue : HasNoneOverdue between.tables now
    pub claim : IsClaim between new now word answer

  -- what follows an expiry that was answered so: a claim exactly where a worker goes on, and else nothing
  abbrev pub FollowsExpiry : (between new : KeepData D) (now word : ℕ) (expiry : Result Answer KeepFault) (claim : Option (Result Answer KeepFault)) → Type 0
  FollowsExpiry between new now word expiry None = (goes_on expiry ≡ false) × (new ≡ between)
  FollowsExpiry between new now word expiry (Some answer) = (goes_on expiry ≡ true) × ClaimsBehind between new now word answer

  -- a step: an expiry, and what follows it
  pub record IsClaimStep (old new : KeepData D) (now word : ℕ) (expiry : Result Answer KeepFault) (claim : Option (Result Answer KeepFault)) : Type 0 where
    pub between : KeepData D
    pub expired : IsExpiry old between now expiry
    -- what a keep's type keeps
    pub kept : IsKeep state between
    pub follows : FollowsExpiry between new now word expiry claim
