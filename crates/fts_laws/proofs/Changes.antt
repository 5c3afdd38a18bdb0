-- Changes of rows that leave every attempt as it was, and the rows of a new job, which were never tried.
use Rattle.std.proofs.Common.{◌≡◌, ℕ, suc, ◌+◌, Bool, true, false, List, [], ◌∷◌, map, Option, Some, None, refl, ◌∙◌, arith}
use Rattle.std.specs.Prelude.{◌&&◌, ◌||◌, ◌==◌, nat_lt, min, if◌then◌else◌}
use Rattle.std.proofs.lemmas.List.Sums.{sum_by-cons}
use Rattle.fts_tables.specs.Tables.{is_active, is_submitted, is_not_used, is_finished, is_failed, rows_of_job}
use Rattle.fts_tables.specs.JobData.{JobData}
use Rattle.fts_tables.specs.Choice.{next_alternative}
use Rattle.fts_tables.specs.Moves.{submitted, canceled, canceled_for, cancelled_for, submit_if_not_used, submit_chosen, reported, reported_failure, reported_without_cancel, is_retryable, followed, followed_finish, followed_failure, new_row, new_rows, rows_of_kind}
use Rattle.fts_tables.specs.Step.{released}
use Rattle.fts_tables.specs.declared.limits.TheConstants.{LAST_MOMENT}
use Rattle.fts_tables.specs.declared.rows.NewFile.{NewFile}
use Rattle.fts_tables.specs.declared.rows.FileRow.{FileRow}
use Rattle.fts_tables.specs.declared.rows.JobRow.{JobRow}
use Rattle.fts_tables.specs.declared.rows.JobKind.{JobKind}
use Rattle.fts_tables.specs.declared.rows.JobKind.TheVariants.{Plain, Replica, Multihop}
use Rattle.fts_tables.specs.declared.rows.FileState.{FileState}
use Rattle.fts_tables.specs.declared.rows.FileState.TheVariants.{Submitted, Failed, NotUsed}
use Rattle.fts_tables.specs.declared.rows.Outcome.{Outcome}
use Rattle.fts_tables.specs.declared.rows.Outcome.TheVariants.{Verified, SourceMissing, DestinationExists, SourceSize, SourceDigest, ReadBackDiffers, StoreFailed, Stopped}
use Rattle.fts_tables.specs.declared.rows.Reason.{Reason}
use Rattle.fts_tables.specs.declared.rows.Reason.TheVariants.{Ended}
use Rattle.fts_laws.specs.Attempts.{attempts_in}

-- the attempt of the first row and those of the others
pub attempts_in-cons : (row : FileRow) (rows : List FileRow) → attempts_in (row ∷ rows) ≡ row.attempt + attempts_in rows
attempts_in-cons row rows = sum_by-cons (λ (other : FileRow). other.attempt) row rows

-- rows whose attempts are as they were have as many
pub attempts_in-map : (change : FileRow → FileRow) → ((row : FileRow) → (change row).attempt ≡ row.attempt) → (rows : List FileRow)
    → attempts_in (map change rows) ≡ attempts_in rows
attempts_in-map change keeps [] = refl
attempts_in-map change keeps (row ∷ rows) = omega (
  arith,
  attempts_in-cons (change row) (map change rows),
  attempts_in-cons row rows,
  keeps row,
  attempts_in-map change keeps rows,
)

-- one of two rows with one attempt
pub attempt_if : (is_chosen : Bool) (row other : FileRow) → other.attempt ≡ row.attempt → (if is_chosen then other else row).attempt ≡ row.attempt
attempt_if true row other same = same
attempt_if false row other same = refl

-- a row that may begin to wait
woken_attempt : (row : FileRow) (is_chosen is_unused : Bool)
    → (if is_chosen then (if is_unused then submitted row else row) else row).attempt ≡ row.attempt
woken_attempt row true true = refl
woken_attempt row true false = refl
woken_attempt row false is_unused = refl

-- a row after a cancellation for any reason
pub cancelled_attempt : (reason : Reason) (row : FileRow) → (cancelled_for reason row).attempt ≡ row.attempt
cancelled_attempt reason row = by_state (is_submitted row.state || is_not_used row.state) (is_active row.state)
  where
    by_state : (waits runs : Bool) → (if waits then canceled_for reason row else (if runs then record row { cancel_asked = true } else row)).attempt ≡ row.attempt
    by_state true runs = refl
    by_state false true = refl
    by_state false false = refl

-- a row after a restart
pub released_attempt : (row : FileRow) → (released row).attempt ≡ row.attempt
released_attempt row = by_state (is_active row.state) row.cancel_asked
  where
    by_state : (runs asked : Bool) → (if runs then (if asked then canceled row else submitted row) else row).attempt ≡ row.attempt
    by_state true true = refl
    by_state true false = refl
    by_state false asked = refl

module _ (job : JobRow) (now : ℕ) (row : FileRow) where
  -- a row after a failed copy
  failure_attempt : (outcome : Outcome) → (reported_failure job now outcome row).attempt ≡ row.attempt
  failure_attempt outcome = by_retries (is_retryable outcome && nat_lt row.retries job.retry)
    where
      by_retries : (again : Bool) → (if again
          then record row { state = Submitted; retries = row.retries + 1; not_before = min (now + job.delay) LAST_MOMENT; reason = Ended outcome }
          else record row { state = Failed; reason = Ended outcome }).attempt ≡ row.attempt
      by_retries true = refl
      by_retries false = refl

  -- a row after a copy of which no cancellation was asked
  outcome_attempt : (outcome : Outcome) → (reported_without_cancel job now outcome row).attempt ≡ row.attempt
  outcome_attempt (Verified size digest) = refl
  outcome_attempt SourceMissing = failure_attempt SourceMissing
  outcome_attempt DestinationExists = failure_attempt DestinationExists
  outcome_attempt (SourceSize seen) = failure_attempt (SourceSize seen)
  outcome_attempt (SourceDigest seen) = failure_attempt (SourceDigest seen)
  outcome_attempt (ReadBackDiffers at) = failure_attempt (ReadBackDiffers at)
  outcome_attempt StoreFailed = failure_attempt StoreFailed
  outcome_attempt Stopped = failure_attempt Stopped

  -- a row after a report
  pub reported_attempt : (outcome : Outcome) → (reported job now outcome row).attempt ≡ row.attempt
  reported_attempt outcome = by_asked row.cancel_asked
    where
      by_asked : (asked : Bool) → (if asked then canceled row else reported_without_cancel job now outcome row).attempt ≡ row.attempt
      by_asked true = refl
      by_asked false = outcome_attempt outcome

-- rows of which one may begin to wait
pub attempts_in-submit_if_not_used : (id : ℕ) (rows : List FileRow) → attempts_in (submit_if_not_used id rows) ≡ attempts_in rows
attempts_in-submit_if_not_used id rows = attempts_in-map
    (λ (row : FileRow). if row.id == id then (if is_not_used row.state then submitted row else row) else row)
    (λ row. woken_attempt row (row.id == id) (is_not_used row.state)) rows

-- rows of which a chosen one may begin to wait
pub attempts_in-submit_chosen : (chosen : Option FileRow) (rows : List FileRow) → attempts_in (submit_chosen chosen rows) ≡ attempts_in rows
attempts_in-submit_chosen None rows = refl
attempts_in-submit_chosen (Some row) rows = attempts_in-submit_if_not_used row.id rows

module _ (job : JobRow) (rows : List FileRow) where
  -- what follows a finish
  finish_attempts : (kind : JobKind) (row : FileRow) → attempts_in (followed_finish kind job row rows) ≡ attempts_in rows
  finish_attempts Plain row = refl
  finish_attempts Replica row = refl
  finish_attempts Multihop row = by_next (nat_lt (row.id + 1) (job.first + job.count))
    where
      by_next : (has_next : Bool) → attempts_in (if has_next then submit_if_not_used (row.id + 1) rows else rows) ≡ attempts_in rows
      by_next true = attempts_in-submit_if_not_used (row.id + 1) rows
      by_next false = refl

  -- what follows a failure
  failure_attempts : (kind : JobKind) → attempts_in (followed_failure kind job rows) ≡ attempts_in rows
  failure_attempts Plain = refl
  failure_attempts Multihop = refl
  failure_attempts Replica = attempts_in-submit_chosen (next_alternative job.strategy rows (rows_of_job rows job.number)) rows

  -- what follows a report
  pub attempts_in-followed : (row : FileRow) → attempts_in (followed job row rows) ≡ attempts_in rows
  attempts_in-followed row = by_state (is_finished row.state) (is_failed row.state)
    where
      by_state : (finished failed : Bool)
          → attempts_in (if finished then followed_finish job.kind job row rows else (if failed then followed_failure job.kind job rows else rows))
          ≡ attempts_in rows
      by_state true failed = finish_attempts job.kind row
      by_state false true = failure_attempts job.kind
      by_state false false = refl

-- new rows were never tried
new_attempts : (job id : ℕ) (state : FileState) (files : List NewFile) → attempts_in (new_rows job id state files) ≡ 0
new_attempts job id state [] = refl
new_attempts job id state (file ∷ files) =
    attempts_in-cons (new_row job id state file) (new_rows job (suc id) state files) ∙ omega (arith, new_attempts job (suc id) state files)

-- nor were those of a new job of any kind
pub kind_attempts : (kind : JobKind) (rows : List FileRow) (number id : ℕ) (new : JobData) → attempts_in (rows_of_kind kind rows number id new) ≡ 0
kind_attempts Plain rows number id new = new_attempts number id Submitted new.files
kind_attempts Multihop rows number id new =
    attempts_in-submit_if_not_used id (new_rows number id NotUsed new.files) ∙ new_attempts number id NotUsed new.files
kind_attempts Replica rows number id new =
    attempts_in-submit_chosen (next_alternative new.strategy rows (new_rows number id NotUsed new.files)) (new_rows number id NotUsed new.files)
    ∙ new_attempts number id NotUsed new.files
