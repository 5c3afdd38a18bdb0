-- What a keep answers to a claim and to a report, over every disk.
use Rattle.std.proofs.Common.{◌≡◌, refl, sym, ap, subst, ℕ, ◌+◌, max, Bool, true, false, cond, ◌&&◌, ◌==◌, Option, Some, None, Result, Ok, Err}
use Rattle.std.specs.Prelude.{if◌then◌else◌, nat_lt}
use Rattle.std.specs.List.{list_any}
use Rattle.fts_tables.specs.Tables.{Tables, is_active, row_at, job_at}
use Rattle.fts_tables.specs.Choice.{pick}
use Rattle.fts_tables.specs.Moves.{reported, reported_failure, reported_without_cancel, canceled, is_retryable}
use Rattle.fts_tables.specs.Waits.{is_overdue}
use Rattle.fts_tables.specs.Step.{Outcomes, step, claim, report, report_of}
use Rattle.fts_tables.specs.declared.rows.FileRow.{FileRow}
use Rattle.fts_tables.specs.declared.rows.JobRow.{JobRow}
use Rattle.fts_tables.specs.declared.rows.Outcome.{Outcome}
use Rattle.fts_tables.specs.declared.rows.Outcome.TheVariants.{Verified, SourceMissing, DestinationExists, SourceSize, SourceDigest, ReadBackDiffers, StoreFailed, Stopped}
use Rattle.fts_tables.specs.declared.commands.Entry.{Entry}
use Rattle.fts_tables.specs.declared.commands.Command.{Command}
use Rattle.fts_tables.specs.declared.commands.Command.TheVariants.{Restart, Submit, CancelJob, CancelFile, SetPriority, Claim, Report, Ban, Unban, Expire}
use Rattle.fts_tables.specs.declared.commands.Answer.{Answer}
use Rattle.fts_tables.specs.declared.commands.Answer.TheVariants.{Claimed, Reported, Expired}
use Rattle.fts_tables.specs.declared.commands.Refusal.{Refusal}
use Rattle.fts_tables.specs.declared.commands.Refusal.TheVariants.{Idle, Stale}
use Rattle.fts_keep.specs.Keeps.{KeepData}
use Rattle.fts_keep.specs.Applied.{Applied, applied_by, entry_by, fits}
use Rattle.fts_keep.specs.declared.fault.KeepFault.{KeepFault}
use Rattle.fts_keep.specs.declared.fault.KeepFault.TheVariants.{Rule, DiskFailed, JournalFull, Damaged, Memory}
use Rattle.fts_workers.specs.ClaimSteps.{AnswersClaim, AnswersExpiry}
use Rattle.fts_shop.specs.Shops.{AnswersReport, AnswersTo, IsEndState}
use Rattle.fts_shop.proofs.Rows.{row_at-id}
use Rattle.fts_disk.specs.declared.disk.Disk as disk

-- what fits comes to what it is
fit_of : (fit : Bool) (used : ℕ) (found done : Tables × Answer) → (if fit then Ok found else Err (JournalFull used)) ≡ Ok done → found ≡ done
fit_of true used found done is = cc
fit_of false used found done is = absurd cc

-- what came to something was the step's
pub step_of : (used : ℕ) (entry : Entry) (came : Outcomes) (done : Tables × Answer) → applied_by used entry came ≡ Ok done → came ≡ Ok done
step_of used entry (Err refusal) done is = absurd cc
step_of used entry (Ok found) done is = ap (λ (d : Tables × Answer). Ok d) (fit_of (fits used entry) used found done is)

unless_fit : (fit : Bool) (used : ℕ) (found : Tables × Answer) (refusal : Refusal) → (if fit then Ok found else Err (JournalFull used)) ≡ Err (Rule refusal) → ⊥
unless_fit true used found refusal is = absurd cc
unless_fit false used found refusal is = absurd cc

-- what was refused was refused by the machine
pub refused_of : (used : ℕ) (entry : Entry) (came : Outcomes) (refusal : Refusal) → applied_by used entry came ≡ Err (Rule refusal) → came ≡ Err refusal
refused_of used entry (Err other) refusal is = cc
refused_of used entry (Ok found) refusal is = absurd (unless_fit (fits used entry) used found refusal is)

-- two steps that are one made one thing
pub same_done : (one other : Tables × Answer) → ◌≡◌ {A = Outcomes} (Ok one) (Ok other) → one ≡ other
same_done one other is = cc

-- a claim that was accepted names a file
claim_answer : (tables : Tables) (now : ℕ) (found : Option FileRow) (after : Tables) (answer : Answer) → claim tables now found ≡ Ok (after, answer)
    → AnswersClaim (Ok answer)
claim_answer tables now None after answer is = absurd cc
claim_answer tables now (Some row) after answer is =
    let answered : answer ≡ Claimed row.id (row.attempt + 1) =
    sym (ap (λ (d : Tables × Answer). d.1) (same_done (_, Claimed row.id (row.attempt + 1)) (after, answer) is)) in
    subst (λ a. AnswersClaim (Ok a)) (sym answered) tt

-- and is refused as idle alone
claim_refused : (tables : Tables) (now : ℕ) (found : Option FileRow) (refusal : Refusal) → claim tables now found ≡ Err refusal → refusal ≡ Idle
claim_refused tables now None refusal is = cc
claim_refused tables now (Some row) refusal is = absurd cc

-- an expiry that was accepted says how many it cancelled, and is refused as idle alone
either_expiry : (some : Bool) (came after : Tables) (cancelled : ℕ) (answer : Answer)
    → cond {A = Outcomes} some (Ok (came, Expired cancelled)) (Err Idle) ≡ Ok (after, answer) → AnswersExpiry (Ok answer)
either_expiry true came after cancelled answer is =
    let answered : answer ≡ Expired cancelled = sym (ap (λ (d : Tables × Answer). d.1) (same_done (came, Expired cancelled) (after, answer) is)) in
    subst (λ a. AnswersExpiry (Ok a)) (sym answered) tt
either_expiry false came after cancelled answer is = absurd cc

either_refused : (some : Bool) (done : Tables × Answer) (refusal : Refusal) → cond {A = Outcomes} some (Ok done) (Err Idle) ≡ Err refusal → refusal ≡ Idle
either_refused true done refusal is = absurd cc
either_refused false done refusal is = cc

-- the states of a row after its report
either_state : (first : Bool) (one other : FileRow) → IsEndState one.state → IsEndState other.state → IsEndState (cond first one other).state
either_state true one other ok_one ok_other = ok_one
either_state false one other ok_one ok_other = ok_other

failure_state : (job : JobRow) (now : ℕ) (outcome : Outcome) (row : FileRow) → IsEndState (reported_failure job now outcome row).state
failure_state job now outcome row = either_state (is_retryable outcome && nat_lt row.retries job.retry) _ _ tt tt

ended_state : (job : JobRow) (now : ℕ) (outcome : Outcome) (row : FileRow) → IsEndState (reported_without_cancel job now outcome row).state
ended_state job now (Verified size digest) row = tt
ended_state job now other row = failure_state job now other row

reported_state : (job : JobRow) (now : ℕ) (outcome : Outcome) (row : FileRow) → IsEndState (reported job now outcome row).state
reported_state job now outcome row =
    either_state row.cancel_asked (canceled row) (reported_without_cancel job now outcome row) tt (ended_state job now outcome row)

-- a report that was accepted names the row's id, and the state in which it left it
chosen_report : (found : Bool) (tables after reports : Tables) (id : ℕ) (refusal : Refusal) (row : FileRow) (answer : Answer) → IsEndState row.state
    → cond {A = Outcomes} found (Ok (reports, Reported id row.state)) (Err refusal) ≡ Ok (after, answer) → AnswersReport id (Ok answer)
chosen_report true tables after reports id refusal row answer ends is =
    let answered : answer ≡ Reported id row.state = sym (ap (λ (d : Tables × Answer). d.1) (same_done (reports, Reported id row.state) (after, answer) is)) in
    subst (λ a. AnswersReport id (Ok a)) (sym answered) (refl, ends)
chosen_report false tables after reports id refusal row answer ends is = absurd cc

report_of_answer : (tables : Tables) (now : ℕ) (row : FileRow) (attempt : ℕ) (outcome : Outcome) (found : Option JobRow) (after : Tables) (answer : Answer)
    → report_of tables now row attempt outcome found ≡ Ok (after, answer) → AnswersReport row.id (Ok answer)
report_of_answer tables now row attempt outcome None after answer is = absurd cc
report_of_answer tables now row attempt outcome (Some job) after answer is =
    chosen_report (is_active row.state && (row.attempt == attempt)) tables after _ row.id (Stale row.state row.attempt) (reported job now outcome row) answer
    (reported_state job now outcome row) is

report_answer : (tables : Tables) (now file : ℕ) (found : Option FileRow) (attempt : ℕ) (outcome : Outcome) (after : Tables) (answer : Answer)
    → row_at tables.rows file ≡ found → report tables now found attempt outcome ≡ Ok (after, answer) → AnswersReport file (Ok answer)
report_answer tables now file None attempt outcome after answer at is = absurd cc
report_answer tables now file (Some row) attempt outcome after answer at is =
    subst (λ id. AnswersReport id (Ok answer)) (row_at-id tables.rows file row at)
    (report_of_answer tables now row attempt outcome (job_at tables.jobs row.job) after answer is)

module _ {D : Type 0} (disks : disk.Ghosts D) (old new : KeepData D) (writer : ℕ) where
  claim_answers : (now word : ℕ) (result : Result Answer KeepFault)
      → Applied disks.state disks.faults old new (entry_by writer (Claim now word)) result → AnswersClaim result
  claim_answers now word (Ok answer) applied =
      claim_answer old.tables (max now old.tables.moment) (pick old.tables (max now old.tables.moment) word) new.tables answer
      (step_of old.used (entry_by writer (Claim now word)) (step old.tables (Claim now word)) (new.tables, answer) applied.done)
  claim_answers now word (Err (Rule refusal)) applied =
      claim_refused old.tables (max now old.tables.moment) (pick old.tables (max now old.tables.moment) word) refusal
      (refused_of old.used (entry_by writer (Claim now word)) (step old.tables (Claim now word)) refusal applied.0)
  claim_answers now word (Err DiskFailed) applied = tt
  claim_answers now word (Err (JournalFull used)) applied = tt
  claim_answers now word (Err (Damaged offset)) applied = applied
  claim_answers now word (Err Memory) applied = tt

  expiry_answers : (now : ℕ) (result : Result Answer KeepFault)
      → Applied disks.state disks.faults old new (entry_by writer (Expire now)) result → AnswersExpiry result
  expiry_answers now (Ok answer) applied =
      either_expiry (list_any (is_overdue old.tables.jobs (max now old.tables.moment)) old.tables.rows) _ new.tables _ answer
      (step_of old.used (entry_by writer (Expire now)) (step old.tables (Expire now)) (new.tables, answer) applied.done)
  expiry_answers now (Err (Rule refusal)) applied =
      either_refused (list_any (is_overdue old.tables.jobs (max now old.tables.moment)) old.tables.rows) _ refusal
      (refused_of old.used (entry_by writer (Expire now)) (step old.tables (Expire now)) refusal applied.0)
  expiry_answers now (Err DiskFailed) applied = tt
  expiry_answers now (Err (JournalFull used)) applied = tt
  expiry_answers now (Err (Damaged offset)) applied = applied
  expiry_answers now (Err Memory) applied = tt

  report_answers : (now file attempt : ℕ) (outcome : Outcome) (result : Result Answer KeepFault)
      → Applied disks.state disks.faults old new (entry_by writer (Report now file attempt outcome)) result → AnswersReport file result
  report_answers now file attempt outcome (Ok answer) applied =
      report_answer old.tables (max now old.tables.moment) file (row_at old.tables.rows file) attempt outcome new.tables answer refl
      (step_of old.used (entry_by writer (Report now file attempt outcome)) (step old.tables (Report now file attempt outcome))
      (new.tables, answer) applied.done)
  report_answers now file attempt outcome (Err (Rule refusal)) applied = tt
  report_answers now file attempt outcome (Err DiskFailed) applied = tt
  report_answers now file attempt outcome (Err (JournalFull used)) applied = tt
  report_answers now file attempt outcome (Err (Damaged offset)) applied = applied
  report_answers now file attempt outcome (Err Memory) applied = tt

  -- what the keep answers is an answer to the command
  pub answers_to : (command : Command) (result : Result Answer KeepFault)
      → Applied disks.state disks.faults old new (entry_by writer command) result → AnswersTo command result
  answers_to (Claim now word) result applied = claim_answers now word result applied
  answers_to (Report now file attempt outcome) result applied = report_answers now file attempt outcome result applied
  answers_to (Expire now) result applied = expiry_answers now result applied
  answers_to (Restart now settings) result applied = tt
  answers_to (Submit now job) result applied = tt
  answers_to (CancelJob now job) result applied = tt
  answers_to (CancelFile now job file) result applied = tt
  answers_to (SetPriority now job priority) result applied = tt
  answers_to (Ban now storage cancel) result applied = tt
  answers_to (Unban now storage) result applied = tt
