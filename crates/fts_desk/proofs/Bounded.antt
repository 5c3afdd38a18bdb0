-- An accepted command keeps the bounds of the lists, with one command more.
use Rattle.std.proofs.Common.{◌≡◌, ℕ, suc, ◌+◌, ◌<◌, ◌≤◌, Bool, true, false, cond, List, [], ◌∷◌, ◌++◌, length, map, Option, Some, None, Ok, Err, refl, ◌∙◌, arith, subst, length-append}
use Rattle.std.specs.Prelude.{max, not, ◌&&◌, ◌||◌, ◌==◌, nat_lt, min, option_and_then, is_some, if◌then◌else◌}
use Rattle.std.specs.List.{list_any}
use Rattle.std.proofs.lemmas.Bool.{ltb-true, ltb-false}
use Rattle.std.proofs.lemmas.List.{length-map}
use Rattle.fts_tables.specs.JobData.{JobData}
use Rattle.fts_tables.specs.Tables.{Tables, is_submitted, is_active, is_finished, is_failed, is_not_used, job_at, row_at, rows_of_job, number_of_id}
use Rattle.fts_tables.specs.Choice.{pick, next_alternative}
use Rattle.fts_tables.specs.Moves.{change_row, submitted, canceled, claimed, is_retryable, reported_failure, reported_without_cancel, reported, submit_if_not_used, followed_finish, submit_chosen, followed_failure, followed, cancelled, cancelled_for, canceled_for, is_cancellable, is_settled_job, new_rows, rows_of_kind, job_of_new, rows_of_new}
use Rattle.fts_tables.specs.Limits.{endpoint_at, is_banned}
use Rattle.fts_tables.specs.Waits.{is_overdue, waits_at, goes_with, rows_cancelled, count_cancelled}
use Rattle.fts_tables.specs.Step.{Outcomes, step, released, submit_by, submit_within, add_job, with_rows, cancel_rows, cancel_row, cancel_one, cancel_file, with_priority, set_priority, claim, report_of, report, ban, ban_and_cancel, ban_only, unban, expire, without_ban}
use Rattle.fts_tables.specs.History.{IsAccepted, tables_after}
use Rattle.fts_tables.specs.declared.limits.TheConstants.{MAX_JOBS, MAX_ROWS, LAST_MOMENT}
use Rattle.fts_tables.specs.declared.rows.NewFile.{NewFile}
use Rattle.fts_tables.specs.declared.rows.FileRow.{FileRow}
use Rattle.fts_tables.specs.declared.rows.JobRow.{JobRow}
use Rattle.fts_tables.specs.declared.rows.JobKind.{JobKind}
use Rattle.fts_tables.specs.declared.rows.JobKind.TheVariants.{Plain, Replica, Multihop}
use Rattle.fts_tables.specs.declared.rows.FileState.{FileState}
use Rattle.fts_tables.specs.declared.rows.FileState.TheVariants.{Submitted, Failed, NotUsed}
use Rattle.fts_tables.specs.declared.rows.Reason.{Reason}
use Rattle.fts_tables.specs.declared.rows.Reason.TheVariants.{Ended, Cancelled as CancelledReason, Expired as ExpiredReason}
use Rattle.fts_tables.specs.declared.rows.Outcome.{Outcome}
use Rattle.fts_tables.specs.declared.rows.Outcome.TheVariants.{Verified, SourceMissing, DestinationExists, SourceSize, SourceDigest, ReadBackDiffers, StoreFailed, Stopped}
use Rattle.fts_tables.specs.declared.commands.Command.{Command}
use Rattle.fts_tables.specs.declared.commands.Command.TheVariants.{Restart, Submit, CancelJob, CancelFile, SetPriority, Claim, Report, Ban, Unban, Expire}
use Rattle.fts_tables.specs.declared.commands.Answer.TheVariants.{Cancelled, PrioritySet, Reported, Unbanned, Expired}
use Rattle.fts_tables.specs.declared.commands.Refusal.TheVariants.{NoJob, NoFile, JobsFull, RowsFull, Idle, Stale, Unchanged, NoStorage, NotBanned}
use Rattle.fts_desk.specs.Bounds.{IsFileCount, HaveFiles, AreCounted, AreBounded, BringsFiles}
use Rattle.fts_desk.specs.Cancels.{cancelled_of}
use Rattle.fts_desk.specs.Standing.{prioritized}
use Rattle.fts_desk.proofs.NewRows.{length-new_rows}

-- a change that counts no attempt
abbrev KeepsAttempt : (FileRow → FileRow) → Type 0
KeepsAttempt change = (row : FileRow) → (change row).attempt ≡ row.attempt

-- rows that were changed, each with at most one attempt more
counted_more : (commands : ℕ) (change : FileRow → FileRow) → ((row : FileRow) → (change row).attempt ≤ suc row.attempt) → (rows : List FileRow)
    → AreCounted commands rows → AreCounted (suc commands) (map change rows)
counted_more commands change keeps [] all = tt
counted_more commands change keeps (row ∷ rows) all = (omega (arith, keeps row, all.0), counted_more commands change keeps rows all.1)

-- rows that were changed, with the attempts that they had
counted_same : (commands : ℕ) (change : FileRow → FileRow) → KeepsAttempt change → (rows : List FileRow) → AreCounted commands rows
    → AreCounted commands (map change rows)
counted_same commands change keeps [] all = tt
counted_same commands change keeps (row ∷ rows) all = (omega (arith, keeps row, all.0), counted_same commands change keeps rows all.1)

-- with one command more
counted_later : (commands : ℕ) (rows : List FileRow) → AreCounted commands rows → AreCounted (suc commands) rows
counted_later commands [] all = tt
counted_later commands (row ∷ rows) all = (omega (arith, all.0), counted_later commands rows all.1)

-- two lists, one behind the other
counted_both : (commands : ℕ) (rows more : List FileRow) → AreCounted commands rows → AreCounted commands more → AreCounted commands (rows ++ more)
counted_both commands [] more all others = others
counted_both commands (row ∷ rows) more all others = (all.0, counted_both commands rows more all.1 others)

-- one job more
files_more : (jobs : List JobRow) (job : JobRow) → HaveFiles jobs → IsFileCount job.count → HaveFiles (jobs ++ job ∷ [])
files_more [] job all files = (files, tt)
files_more (head ∷ jobs) job all files = (all.0, files_more jobs job all.1 files)

-- a job with another priority has its files
files_kept : (number priority : ℕ) (jobs : List JobRow) → HaveFiles jobs → HaveFiles (map (prioritized number priority) jobs)
files_kept number priority [] all = tt
files_kept number priority (job ∷ jobs) all = (head (job.number == number), files_kept number priority jobs all.1)
  where
    head : (answer : Bool) → IsFileCount (cond answer (with_priority priority job) job).count
    head true = all.0
    head false = all.0

module _ (commands : ℕ) (jobs : List JobRow) where
  -- a change of each row that counts no attempt
  pub bounded_same : (change : FileRow → FileRow) → KeepsAttempt change → (rows : List FileRow) → AreBounded commands jobs rows
      → AreBounded commands jobs (map change rows)
  bounded_same change keeps rows bounds = record {
    few_jobs = bounds.few_jobs;
    few_rows = omega (arith, length-map rows change, bounds.few_rows);
    files = bounds.files;
    attempts = counted_same commands change keeps rows bounds.attempts;
  }

  -- a change of each row that counts one attempt at most
  pub bounded_more : (change : FileRow → FileRow) → ((row : FileRow) → (change row).attempt ≤ suc row.attempt) → (rows : List FileRow)
      → AreBounded commands jobs rows → AreBounded (suc commands) jobs (map change rows)
  bounded_more change keeps rows bounds = record {
    few_jobs = bounds.few_jobs;
    few_rows = omega (arith, length-map rows change, bounds.few_rows);
    files = bounds.files;
    attempts = counted_more commands change keeps rows bounds.attempts;
  }

  -- one command more
  pub bounded_later : (rows : List FileRow) → AreBounded commands jobs rows → AreBounded (suc commands) jobs rows
  bounded_later rows bounds = record {
    few_jobs = bounds.few_jobs;
    few_rows = bounds.few_rows;
    files = bounds.files;
    attempts =
        counted_later commands rows bounds.attempts;
  }

  -- a change of the row of an id that counts no attempt
  bounded_row : (id : ℕ) (change : FileRow → FileRow) → KeepsAttempt change → (rows : List FileRow) → AreBounded commands jobs rows
      → AreBounded commands jobs (change_row id change rows)
  bounded_row id change keeps rows bounds = bounded_same (λ row. if row.id == id then change row else row) (λ row. by_test row (row.id == id)) rows bounds
    where
      by_test : (row : FileRow) (answer : Bool) → (cond answer (change row) row).attempt ≡ row.attempt
      by_test row true = keeps row
      by_test row false = refl

  -- a row that begins to wait
  bounded_woken : (id : ℕ) (rows : List FileRow) → AreBounded commands jobs rows → AreBounded commands jobs (submit_if_not_used id rows)
  bounded_woken id rows bounds =
      bounded_row id (λ row. if is_not_used row.state then submitted row else row) (λ row. by_test row (is_not_used row.state)) rows bounds
    where
      by_test : (row : FileRow) (answer : Bool) → (cond answer (submitted row) row).attempt ≡ row.attempt
      by_test row true = refl
      by_test row false = refl

  -- the row that was chosen begins to wait
  bounded_chosen : (chosen : Option FileRow) (rows : List FileRow) → AreBounded commands jobs rows → AreBounded commands jobs (submit_chosen chosen rows)
  bounded_chosen None rows bounds = bounds
  bounded_chosen (Some row) rows bounds = bounded_woken row.id rows bounds

  -- what follows a finish
  bounded_finish : (kind : JobKind) (job : JobRow) (row : FileRow) (rows : List FileRow) → AreBounded commands jobs rows
      → AreBounded commands jobs (followed_finish kind job row rows)
  bounded_finish Plain job row rows bounds = bounds
  bounded_finish Replica job row rows bounds = bounds
  bounded_finish Multihop job row rows bounds = by_test (nat_lt (row.id + 1) (job.first + job.count))
    where
      by_test : (answer : Bool) → AreBounded commands jobs (cond answer (submit_if_not_used (row.id + 1) rows) rows)
      by_test true = bounded_woken (row.id + 1) rows bounds
      by_test false = bounds

  -- what follows a failure
  bounded_failure : (kind : JobKind) (job : JobRow) (rows : List FileRow) → AreBounded commands jobs rows
      → AreBounded commands jobs (followed_failure kind job rows)
  bounded_failure Plain job rows bounds = bounds
  bounded_failure Multihop job rows bounds = bounds
  bounded_failure Replica job rows bounds = bounded_chosen (next_alternative job.strategy rows (rows_of_job rows job.number)) rows bounds

  -- what follows a report
  pub bounded_followed : (job : JobRow) (row : FileRow) (rows : List FileRow) → AreBounded commands jobs rows → AreBounded commands jobs (followed job row rows)
  bounded_followed job row rows bounds = by_test (is_finished row.state) (is_failed row.state)
    where
      by_test : (finished failed : Bool)
          → AreBounded commands jobs (cond finished (followed_finish job.kind job row rows) (cond failed (followed_failure job.kind job rows) rows))
      by_test true failed = bounded_finish job.kind job row rows bounds
      by_test false true = bounded_failure job.kind job rows bounds
      by_test false false = bounds

-- a restart counts no attempt
released-attempt : KeepsAttempt released
released-attempt row = by_test (is_active row.state) row.cancel_asked
  where
    by_test : (active asked : Bool) → (cond active (cond asked (canceled row) (submitted row)) row).attempt ≡ row.attempt
    by_test true true = refl
    by_test true false = refl
    by_test false asked = refl

-- a cancellation counts no attempt, whatever its reason
cancelled_for-attempt : (reason : Reason) → KeepsAttempt (cancelled_for reason)
cancelled_for-attempt reason row = by_test (is_submitted row.state || is_not_used row.state) (is_active row.state)
  where
    by_test : (waits active : Bool) → (cond waits (canceled_for reason row) (cond active (record row { cancel_asked = true }) row)).attempt ≡ row.attempt
    by_test true active = refl
    by_test false true = refl
    by_test false false = refl

-- nor does it where it was asked
cancelled-attempt : KeepsAttempt cancelled
cancelled-attempt = cancelled_for-attempt CancelledReason

-- nor does it of a row of one job alone
cancelled_of-attempt : (number : ℕ) → KeepsAttempt (cancelled_of CancelledReason number)
cancelled_of-attempt number row = by_test (row.job == number)
  where
    by_test : (answer : Bool) → (cond answer (cancelled row) row).attempt ≡ row.attempt
    by_test true = cancelled-attempt row
    by_test false = refl

-- a failure counts no attempt
failure-attempt : (job : JobRow) (now : ℕ) (outcome : Outcome) (row : FileRow) → (reported_failure job now outcome row).attempt ≡ row.attempt
failure-attempt job now outcome row = by_test (is_retryable outcome && nat_lt row.retries job.retry)
  where
    by_test : (answer : Bool) → (cond answer
        (record row { state = Submitted; retries = row.retries + 1; not_before = min (now + job.delay) LAST_MOMENT; reason = Ended outcome })
        (record row { state = Failed; reason = Ended outcome })).attempt ≡ row.attempt
    by_test true = refl
    by_test false = refl

-- a report counts no attempt
reported-attempt : (job : JobRow) (now : ℕ) (outcome : Outcome) → KeepsAttempt (reported job now outcome)
reported-attempt job now outcome row = by_test row.cancel_asked
  where
    by_outcome : (outcome : Outcome) → (reported_without_cancel job now outcome row).attempt ≡ row.attempt
    by_outcome (Verified size digest) = refl
    by_outcome SourceMissing = failure-attempt job now SourceMissing row
    by_outcome DestinationExists = failure-attempt job now DestinationExists row
    by_outcome (SourceSize seen) = failure-attempt job now (SourceSize seen) row
    by_outcome (SourceDigest seen) = failure-attempt job now (SourceDigest seen) row
    by_outcome (ReadBackDiffers at) = failure-attempt job now (ReadBackDiffers at) row
    by_outcome StoreFailed = failure-attempt job now StoreFailed row
    by_outcome Stopped = failure-attempt job now Stopped row

    by_test : (answer : Bool) → (cond answer (canceled row) (reported_without_cancel job now outcome row)).attempt ≡ row.attempt
    by_test true = refl
    by_test false = by_outcome outcome

-- a claim counts one attempt, of one row
claimed-attempt : (id : ℕ) (row : FileRow) → (if row.id == id then claimed row else row).attempt ≤ suc row.attempt
claimed-attempt id row = by_test (row.id == id)
  where
    by_test : (answer : Bool) → (cond answer (claimed row) row).attempt ≤ suc row.attempt
    by_test true = omega arith
    by_test false = omega arith

-- new rows have no attempt
new_counted : (commands job id : ℕ) (state : FileState) (files : List NewFile) → AreCounted commands (new_rows job id state files)
new_counted commands job id state [] = tt
new_counted commands job id state (file ∷ files) = (omega arith, new_counted commands job (suc id) state files)

-- the bounds of new tables, where there are any
abbrev BoundedAfter : ℕ → Outcomes → Type 0
BoundedAfter commands (Ok done) = AreBounded commands done.0.jobs done.0.rows
BoundedAfter commands (Err refusal) = Unit {0}

-- a list of rows, all counted, of so many
record AreNew (commands count : ℕ) (rows : List FileRow) : Type 0 where
  counted : AreCounted commands rows
  number : length rows ≡ count

-- what wakes a row leaves the new rows new
woken_new : (commands count id : ℕ) (rows : List FileRow) → AreNew commands count rows → AreNew commands count (submit_if_not_used id rows)
woken_new commands count id rows fresh = record {
  counted = counted_same commands change keeps rows fresh.counted;
  number = length-map rows change ∙ fresh.number;
}
  where
    change : FileRow → FileRow
    change = λ row. if row.id == id then (if is_not_used row.state then submitted row else row) else row

    by_test : (row : FileRow) (answer unused : Bool) → (cond answer (cond unused (submitted row) row) row).attempt ≡ row.attempt
    by_test row true true = refl
    by_test row true false = refl
    by_test row false unused = refl

    keeps : KeepsAttempt (λ row. if row.id == id then (if is_not_used row.state then submitted row else row) else row)
    keeps row = by_test row (row.id == id) (is_not_used row.state)

-- the new rows of a job of a kind
kind_new : (commands number id : ℕ) (kind : JobKind) (rows : List FileRow) (job : JobData)
    → AreNew commands (length job.files) (rows_of_kind kind rows number id job)
kind_new commands number id Plain rows job =
    record { counted = new_counted commands number id Submitted job.files; number = length-new_rows number id Submitted job.files }
kind_new commands number id Multihop rows job =
    woken_new commands (length job.files) id (new_rows number id NotUsed job.files)
    (record { counted = new_counted commands number id NotUsed job.files; number = length-new_rows number id NotUsed job.files })
kind_new commands number id Replica rows job =
    by_chosen (next_alternative job.strategy rows (new_rows number id NotUsed job.files))
    (record { counted = new_counted commands number id NotUsed job.files; number = length-new_rows number id NotUsed job.files })
  where
    by_chosen : (chosen : Option FileRow) → AreNew commands (length job.files) (new_rows number id NotUsed job.files)
        → AreNew commands (length job.files) (submit_chosen chosen (new_rows number id NotUsed job.files))
    by_chosen None fresh = fresh
    by_chosen (Some row) fresh = woken_new commands (length job.files) row.id (new_rows number id NotUsed job.files) fresh

module _ (tables : Tables) (commands now : ℕ) (bounds : AreBounded commands tables.jobs tables.rows) where
  -- a submission within the limits
  bounded_within : (job : JobData) → IsFileCount (length job.files) → BoundedAfter (suc commands) (submit_within tables now job)
  bounded_within job files = by_jobs (nat_lt (length tables.jobs) MAX_JOBS) refl
    where
      added : length tables.jobs < MAX_JOBS → length tables.rows + length job.files ≤ MAX_ROWS → BoundedAfter (suc commands) (add_job tables now job)
      added few_jobs few_rows =
          let fresh = kind_new (suc commands) (length tables.jobs + 1) (length tables.rows + 1) job.kind tables.rows job in
          record {
            few_jobs = omega (arith, length-append tables.jobs (job_of_new tables now job ∷ []), few_jobs);
            few_rows = omega (arith, length-append tables.rows (rows_of_new tables.rows (length tables.jobs + 1) job), fresh.number, few_rows);
            files = files_more tables.jobs (job_of_new tables now job) bounds.files files;
            attempts = counted_both (suc commands) tables.rows _ (counted_later commands tables.rows bounds.attempts) fresh.counted;
          }

      by_rows : length tables.jobs < MAX_JOBS → (full : Bool) → nat_lt MAX_ROWS (length tables.rows + length job.files) ≡ full
          → BoundedAfter (suc commands) (cond full (Err (RowsFull (length tables.rows))) (add_job tables now job))
      by_rows few_jobs true is = tt
      by_rows few_jobs false is = added few_jobs (ltb-false _ _ is)

      by_jobs : (room : Bool) → nat_lt (length tables.jobs) MAX_JOBS ≡ room
          → BoundedAfter (suc commands) (cond room
          (cond (nat_lt MAX_ROWS (length tables.rows + length job.files)) (Err (RowsFull (length tables.rows))) (add_job tables now job))
          (Err (JobsFull (length tables.jobs))))
      by_jobs true is = by_rows (ltb-true _ _ is) (nat_lt MAX_ROWS (length tables.rows + length job.files)) refl
      by_jobs false is = tt

  -- a submission
  bounded_submit : (found : Option ℕ) (job : JobData) → IsFileCount (length job.files) → BoundedAfter (suc commands) (submit_by found tables now job)
  bounded_submit None job files = bounded_within job files
  bounded_submit (Some number) job files = tt

  -- a cancellation of the rows of a job
  bounded_cancel_rows : (job : JobRow) → BoundedAfter (suc commands) (cancel_rows tables now job)
  bounded_cancel_rows job = by_test (not (is_settled_job (rows_of_job tables.rows job.number)) && list_any is_cancellable (rows_of_job tables.rows job.number))
    where
      by_test : (answer : Bool) → BoundedAfter (suc commands)
          (cond {A = Outcomes} answer (Ok (with_rows tables now (map (cancelled_of CancelledReason job.number) tables.rows), Cancelled job.number))
          (Err (Unchanged job.number)))
      by_test true = bounded_same (suc commands) tables.jobs (cancelled_of CancelledReason job.number) (cancelled_of-attempt job.number) tables.rows
          (bounded_later commands tables.jobs tables.rows bounds)
      by_test false = tt

  -- a cancellation of one row
  bounded_cancel_row : (job : JobRow) (row : FileRow) → BoundedAfter (suc commands) (cancel_row tables now job row)
  bounded_cancel_row job row = by_test (is_cancellable row)
    where
      by_test : (answer : Bool) → BoundedAfter (suc commands)
          (cond {A = Outcomes} answer (Ok (with_rows tables now (change_row row.id cancelled tables.rows), Cancelled job.number)) (Err (Unchanged job.number)))
      by_test true = bounded_row (suc commands) tables.jobs row.id cancelled cancelled-attempt tables.rows
          (bounded_later commands tables.jobs tables.rows bounds)
      by_test false = tt

  -- a cancellation of a file, by the kind of its job
  bounded_cancel_one : (job : JobRow) (row : FileRow) (kind : JobKind) → BoundedAfter (suc commands) (cancel_one tables now job row kind)
  bounded_cancel_one job row Plain = bounded_cancel_row job row
  bounded_cancel_one job row Replica = bounded_cancel_rows job
  bounded_cancel_one job row Multihop = bounded_cancel_rows job

  -- a cancellation of a file that may be missing
  bounded_cancel_file : (job : JobRow) (found : Option FileRow) → BoundedAfter (suc commands) (cancel_file tables now job found)
  bounded_cancel_file job None = tt
  bounded_cancel_file job (Some row) = by_test (row.job == job.number)
    where
      by_test : (answer : Bool) → BoundedAfter (suc commands) (cond answer (cancel_one tables now job row job.kind) (Err NoFile))
      by_test true = bounded_cancel_one job row job.kind
      by_test false = tt

  -- another priority
  bounded_priority : (priority : ℕ) (job : JobRow) → BoundedAfter (suc commands) (set_priority tables now job priority)
  bounded_priority priority job = by_test (is_settled_job (rows_of_job tables.rows job.number))
    where
      later : AreBounded (suc commands) tables.jobs tables.rows
      later = bounded_later commands tables.jobs tables.rows bounds

      by_test : (answer : Bool)
          → BoundedAfter (suc commands) (cond {A = Outcomes} answer (Err (Unchanged job.number))
          (Ok (record tables { moment = now; jobs = map (prioritized job.number priority) tables.jobs }, PrioritySet job.number)))
      by_test true = tt
      by_test false = record {
        few_jobs = omega (arith, length-map tables.jobs (prioritized job.number priority), later.few_jobs);
        few_rows = later.few_rows;
        files = files_kept job.number priority tables.jobs later.files;
        attempts = later.attempts;
      }

  -- a claim
  bounded_claim : (picked : Option FileRow) → BoundedAfter (suc commands) (claim tables now picked)
  bounded_claim None = tt
  bounded_claim (Some row) = bounded_more commands tables.jobs (λ other. if other.id == row.id then claimed other else other)
      (claimed-attempt row.id) tables.rows bounds

  -- a report
  bounded_report : (found : Option FileRow) (attempt : ℕ) (outcome : Outcome) → BoundedAfter (suc commands) (report tables now found attempt outcome)
  bounded_report None attempt outcome = tt
  bounded_report (Some row) attempt outcome = by_job (job_at tables.jobs row.job)
    where
      by_test : (job : JobRow) (answer : Bool)
          → BoundedAfter (suc commands) (cond {A = Outcomes} answer
          (Ok (
            with_rows tables now (followed job (reported job now outcome row) (change_row row.id (reported job now outcome) tables.rows)),
            Reported row.id (reported job now outcome row).state,
          )) (Err (Stale row.state row.attempt)))
      by_test job true = bounded_followed (suc commands) tables.jobs job (reported job now outcome row)
          (change_row row.id (reported job now outcome) tables.rows)
          (bounded_row (suc commands) tables.jobs row.id (reported job now outcome) (reported-attempt job now outcome) tables.rows
          (bounded_later commands tables.jobs tables.rows bounds))
      by_test job false = tt

      by_job : (found : Option JobRow) → BoundedAfter (suc commands) (report_of tables now row attempt outcome found)
      by_job None = tt
      by_job (Some job) = by_test job (is_active row.state && (row.attempt == attempt))

  -- files that pass a test are cancelled
  bounded_some_cancelled : (reason : Reason) (test : FileRow → Bool)
      → AreBounded (suc commands) tables.jobs (rows_cancelled reason tables.jobs test tables.rows)
  bounded_some_cancelled reason test =
      bounded_same (suc commands) tables.jobs (λ row. if goes_with tables.jobs tables.rows test row then cancelled_for reason row else row)
      (λ row. by_test row (goes_with tables.jobs tables.rows test row)) tables.rows (bounded_later commands tables.jobs tables.rows bounds)
    where
      by_test : (row : FileRow) (answer : Bool) → (cond answer (cancelled_for reason row) row).attempt ≡ row.attempt
      by_test row true = cancelled_for-attempt reason row
      by_test row false = refl

  -- a ban
  bounded_ban : (storage : List ℕ) (cancel : Bool) → BoundedAfter (suc commands) (ban tables now storage cancel)
  bounded_ban storage cancel = by_test (is_some (endpoint_at tables.settings storage)) cancel
    where
      by_test : (answer cancel : Bool) → BoundedAfter (suc commands)
          (cond {A = Outcomes} answer (cond {A = Outcomes} cancel (ban_and_cancel tables now storage) (ban_only tables now storage)) (Err NoStorage))
      by_test true true = bounded_some_cancelled CancelledReason (waits_at storage)
      by_test true false = bounded_later commands tables.jobs tables.rows bounds
      by_test false cancel = tt

  -- the end of a ban
  bounded_unban : (storage : List ℕ) → BoundedAfter (suc commands) (unban tables now storage)
  bounded_unban storage = by_test (is_banned tables.banned storage)
    where
      by_test : (answer : Bool) → BoundedAfter (suc commands)
          (cond {A = Outcomes} answer (Ok (record tables { moment = now; banned = without_ban tables.banned storage }, Unbanned)) (Err NotBanned))
      by_test true = bounded_later commands tables.jobs tables.rows bounds
      by_test false = tt

  -- an expiry
  bounded_expire : BoundedAfter (suc commands) (expire tables now)
  bounded_expire = by_test (list_any (is_overdue tables.jobs now) tables.rows)
    where
      by_test : (answer : Bool) → BoundedAfter (suc commands)
          (cond {A = Outcomes} answer (Ok (
            with_rows tables now (rows_cancelled ExpiredReason tables.jobs (is_overdue tables.jobs now) tables.rows),
            Expired (count_cancelled tables.jobs (is_overdue tables.jobs now) tables.rows),
          )) (Err Idle))
      by_test true = bounded_some_cancelled ExpiredReason (is_overdue tables.jobs now)
      by_test false = tt

  -- what is done to a job that may be missing
  bounded_job : (act : JobRow → Outcomes) → ((job : JobRow) → BoundedAfter (suc commands) (act job)) → (found : Option JobRow)
      → BoundedAfter (suc commands) (elim found [ None ↦ Err NoJob | Some job ↦ act job ])
  bounded_job act keeps None = tt
  bounded_job act keeps (Some job) = keeps job

-- an accepted command keeps the bounds, with one command more
pub bounded_step : (tables : Tables) (commands : ℕ) (command : Command) → AreBounded commands tables.jobs tables.rows → BringsFiles command
    → BoundedAfter (suc commands) (step tables command)
bounded_step tables commands (Restart now settings) bounds files =
    bounded_same (suc commands) tables.jobs released released-attempt tables.rows (bounded_later commands tables.jobs tables.rows bounds)
bounded_step tables commands (Submit now job) bounds files =
    bounded_submit tables commands (max now tables.moment) bounds (option_and_then (number_of_id tables.jobs) job.id) job files
bounded_step tables commands (CancelJob now job) bounds files =
    bounded_job tables commands (max now tables.moment) bounds (cancel_rows tables (max now tables.moment))
    (bounded_cancel_rows tables commands (max now tables.moment) bounds) (job_at tables.jobs job)
bounded_step tables commands (CancelFile now job file) bounds files =
    bounded_job tables commands (max now tables.moment) bounds (λ found. cancel_file tables (max now tables.moment) found (row_at tables.rows file))
    (λ found. bounded_cancel_file tables commands (max now tables.moment) bounds found (row_at tables.rows file)) (job_at tables.jobs job)
bounded_step tables commands (SetPriority now job priority) bounds files =
    bounded_job tables commands (max now tables.moment) bounds (λ found. set_priority tables (max now tables.moment) found priority)
    (bounded_priority tables commands (max now tables.moment) bounds priority) (job_at tables.jobs job)
bounded_step tables commands (Claim now word) bounds files =
    bounded_claim tables commands (max now tables.moment) bounds (pick tables (max now tables.moment) word)
bounded_step tables commands (Report now file attempt outcome) bounds files =
    bounded_report tables commands (max now tables.moment) bounds (row_at tables.rows file) attempt outcome
bounded_step tables commands (Ban now storage cancel) bounds files = bounded_ban tables commands (max now tables.moment) bounds storage cancel
bounded_step tables commands (Unban now storage) bounds files = bounded_unban tables commands (max now tables.moment) bounds storage
bounded_step tables commands (Expire now) bounds files = bounded_expire tables commands (max now tables.moment) bounds

-- the tables after an accepted command keep the bounds
pub bounds_kept : (tables : Tables) (commands : ℕ) (command : Command) → AreBounded commands tables.jobs tables.rows → BringsFiles command
    → IsAccepted (step tables command)
    → AreBounded (commands + 1) (tables_after tables (step tables command)).jobs (tables_after tables (step tables command)).rows
bounds_kept tables commands command bounds files accepted = by_outcome (step tables command) accepted (bounded_step tables commands command bounds files)
  where
    by_outcome : (outcome : Outcomes) → IsAccepted outcome → BoundedAfter (suc commands) outcome
        → AreBounded (commands + 1) (tables_after tables outcome).jobs (tables_after tables outcome).rows
    by_outcome (Ok done) accepted bounded =
        let one_more : suc commands ≡ commands + 1 = omega arith in
        subst (λ number. AreBounded number done.0.jobs done.0.rows) one_more bounded
    by_outcome (Err refusal) accepted bounded = absurd accepted
