-- One accepted step: one attempt more where it is a claim, and as many otherwise.
use Rattle.std.proofs.Common.{◌≡◌, ℕ, ◌+◌, ◌-◌, ◌≤◌, Bool, true, false, cond, List, ◌++◌, length, map, Option, Some, None, Err, refl, ◌∙◌, arith}
use Rattle.std.specs.Prelude.{max, not, ◌&&◌, ◌==◌, nat_lt, option_and_then, slice_get, is_some, if◌then◌else◌}
use Rattle.std.specs.List.{list_any}
use Rattle.std.proofs.lemmas.List.Sums.{sum_by-append}
use Rattle.fts_tables.specs.JobData.{JobData}
use Rattle.fts_tables.specs.Tables.{Tables, AreWellFormed, is_active, job_at, row_at, rows_of_job, number_of_id}
use Rattle.fts_tables.specs.Limits.{endpoint_at, is_banned}
use Rattle.fts_tables.specs.Choice.{pick}
use Rattle.fts_tables.specs.Waits.{is_overdue, waits_at, goes_with}
use Rattle.fts_tables.specs.Moves.{change_row, cancelled_for, is_cancellable, is_settled_job, reported, followed, rows_of_new}
use Rattle.fts_tables.specs.Step.{Outcomes, released, submit_within, submit_by, cancel_rows, cancel_row, cancel_one, cancel_file, set_priority, claim, report_of, report, ban_only, ban_and_cancel, ban, unban, expire, step}
use Rattle.fts_tables.specs.History.{IsAccepted, tables_after}
use Rattle.fts_tables.specs.declared.limits.TheConstants.{MAX_JOBS, MAX_ROWS}
use Rattle.fts_tables.specs.declared.rows.FileRow.{FileRow}
use Rattle.fts_tables.specs.declared.rows.JobRow.{JobRow}
use Rattle.fts_tables.specs.declared.rows.JobKind.{JobKind}
use Rattle.fts_tables.specs.declared.rows.JobKind.TheVariants.{Plain, Replica, Multihop}
use Rattle.fts_tables.specs.declared.rows.Outcome.{Outcome}
use Rattle.fts_tables.specs.declared.rows.Reason.{Reason}
use Rattle.fts_tables.specs.declared.rows.Reason.TheVariants.{Cancelled, Expired}
use Rattle.fts_tables.specs.declared.commands.Command.{Command}
use Rattle.fts_tables.specs.declared.commands.Command.TheVariants.{Restart, Submit, CancelJob, CancelFile, SetPriority, Claim, Report, Ban, Unban, Expire}
use Rattle.fts_tables.specs.declared.commands.Refusal.TheVariants.{NoJob}
use Rattle.fts_laws.specs.Attempts.{attempts_in, is_claim}
use Rattle.fts_laws.proofs.Changes.{attempt_if, attempts_in-followed, attempts_in-map, cancelled_attempt, kind_attempts, released_attempt, reported_attempt}
use Rattle.fts_laws.proofs.Claimed.{attempts_in-claimed}

-- the row that a claim picks stands at the place before its id
abbrev pub PicksStand : Type 0
PicksStand = (tables : Tables) (now word : ℕ) (row : FileRow) → AreWellFormed tables → pick tables now word ≡ Some row
    → (1 ≤ row.id) × (slice_get tables.rows (row.id - 1) ≡ Some row)

module _ (tables : Tables) where
  -- where a step is accepted, there are so many attempts more
  abbrev Adds : ℕ → Outcomes → Type 0
  Adds more outcome = IsAccepted outcome → attempts_in (tables_after tables outcome).rows ≡ attempts_in tables.rows + more

  -- one of two steps, by a test
  by_if : (more : ℕ) (answer : Bool) (outcome other : Outcomes) → Adds more outcome → Adds more other → Adds more (cond answer outcome other)
  by_if more true outcome other adds adds_other = adds
  by_if more false outcome other adds adds_other = adds_other

  -- a step on a job that may be missing
  by_job : (more : ℕ) (found : Option JobRow) (act : JobRow → Outcomes) → ((job : JobRow) → Adds more (act job))
      → Adds more (elim found [ None ↦ Err NoJob | Some job ↦ act job ])
  by_job more None act each accepted = absurd accepted
  by_job more (Some job) act each accepted = each job accepted

  -- as many as before
  none_more : (rows : List FileRow) → attempts_in rows ≡ attempts_in tables.rows → attempts_in rows ≡ attempts_in tables.rows + 0
  none_more rows same = omega (arith, same)

  -- a submission within the limits
  by_submit_within : (now : ℕ) (new : JobData) → Adds 0 (submit_within tables now new)
  by_submit_within now new = by_if 0 (nat_lt (length tables.jobs) MAX_JOBS) _ _
      (by_if 0 (nat_lt MAX_ROWS (length tables.rows + length new.files)) _ _ (λ accepted. absurd accepted) (λ accepted. added))
      (λ accepted. absurd accepted)
    where
      added : attempts_in (tables.rows ++ rows_of_new tables.rows (length tables.jobs + 1) new) ≡ attempts_in tables.rows + 0
      added = sum_by-append (λ (row : FileRow). row.attempt) tables.rows (rows_of_new tables.rows (length tables.jobs + 1) new)
          ∙ omega (arith, kind_attempts new.kind tables.rows (length tables.jobs + 1) (length tables.rows + 1) new)

  -- a submission
  by_submit : (known : Option ℕ) (now : ℕ) (new : JobData) → Adds 0 (submit_by known tables now new)
  by_submit None now new accepted = by_submit_within now new accepted
  by_submit (Some number) now new accepted = absurd accepted

  -- some rows cancelled, for any reason
  by_cancel : (reason : Reason) (test : FileRow → Bool)
      → attempts_in (map (λ row. if test row then cancelled_for reason row else row) tables.rows) ≡ attempts_in tables.rows + 0
  by_cancel reason test = none_more (map (λ row. if test row then cancelled_for reason row else row) tables.rows)
      (attempts_in-map (λ row. if test row then cancelled_for reason row else row)
      (λ row. attempt_if (test row) row (cancelled_for reason row) (cancelled_attempt reason row)) tables.rows)

  -- a cancellation of a job
  by_cancel_job : (now : ℕ) (job : JobRow) → Adds 0 (cancel_rows tables now job)
  by_cancel_job now job = by_if 0
      (not (is_settled_job (rows_of_job tables.rows job.number)) && list_any is_cancellable (rows_of_job tables.rows job.number)) _ _
      (λ accepted. by_cancel Cancelled (λ row. row.job == job.number)) (λ accepted. absurd accepted)

  -- a cancellation of one row
  by_cancel_row : (now : ℕ) (job : JobRow) (row : FileRow) → Adds 0 (cancel_row tables now job row)
  by_cancel_row now job row = by_if 0 (is_cancellable row) _ _ (λ accepted. by_cancel Cancelled (λ other. other.id == row.id)) (λ accepted. absurd accepted)

  -- a cancellation of a file, by the kind of its job
  by_cancel_one : (now : ℕ) (job : JobRow) (row : FileRow) (kind : JobKind) → Adds 0 (cancel_one tables now job row kind)
  by_cancel_one now job row Plain accepted = by_cancel_row now job row accepted
  by_cancel_one now job row Replica accepted = by_cancel_job now job accepted
  by_cancel_one now job row Multihop accepted = by_cancel_job now job accepted

  -- a cancellation of a file that may be missing
  by_cancel_file : (now : ℕ) (job : JobRow) (found : Option FileRow) → Adds 0 (cancel_file tables now job found)
  by_cancel_file now job None accepted = absurd accepted
  by_cancel_file now job (Some row) accepted =
      by_if 0 (row.job == job.number) _ _ (by_cancel_one now job row job.kind) (λ accepted. absurd accepted) accepted

  -- another priority leaves the rows
  by_priority : (now priority : ℕ) (job : JobRow) → Adds 0 (set_priority tables now job priority)
  by_priority now priority job = by_if 0 (is_settled_job (rows_of_job tables.rows job.number)) _ _
      (λ accepted. absurd accepted) (λ accepted. none_more tables.rows refl)

  -- a report, of a row whose job may be missing
  by_report_of : (now attempt : ℕ) (outcome : Outcome) (row : FileRow) (job : Option JobRow) → Adds 0 (report_of tables now row attempt outcome job)
  by_report_of now attempt outcome row None accepted = absurd accepted
  by_report_of now attempt outcome row (Some job) accepted = by_if 0 (is_active row.state && (row.attempt == attempt)) _ _
      (λ accepted. none_more (followed job (reported job now outcome row) changed) (attempts_in-followed job changed (reported job now outcome row) ∙ same))
      (λ accepted. absurd accepted) accepted
    where
      changed : List FileRow
      changed = change_row row.id (reported job now outcome) tables.rows

      same : attempts_in changed ≡ attempts_in tables.rows
      same = attempts_in-map (λ (other : FileRow). if other.id == row.id then reported job now outcome other else other)
          (λ other. attempt_if (other.id == row.id) other (reported job now outcome other) (reported_attempt job now other outcome)) tables.rows

  -- a report, of a row that may be missing
  by_report : (now attempt : ℕ) (outcome : Outcome) (row : Option FileRow) → Adds 0 (report tables now row attempt outcome)
  by_report now attempt outcome None accepted = absurd accepted
  by_report now attempt outcome (Some row) accepted = by_report_of now attempt outcome row (job_at tables.jobs row.job) accepted

  -- a ban, with or without the files that wait there
  by_ban : (now : ℕ) (storage : List ℕ) (cancel : Bool) → Adds 0 (ban tables now storage cancel)
  by_ban now storage cancel = by_if 0 (is_some (endpoint_at tables.settings storage)) _ _
      (by_if 0 cancel (ban_and_cancel tables now storage) (ban_only tables now storage)
      (λ accepted. by_cancel Cancelled (goes_with tables.jobs tables.rows (waits_at storage))) (λ accepted. none_more tables.rows refl))
      (λ accepted. absurd accepted)

  -- the end of a ban leaves the rows
  by_unban : (now : ℕ) (storage : List ℕ) → Adds 0 (unban tables now storage)
  by_unban now storage = by_if 0 (is_banned tables.banned storage) _ _ (λ accepted. none_more tables.rows refl) (λ accepted. absurd accepted)

  -- the end of the files that are overdue
  by_expire : (now : ℕ) → Adds 0 (expire tables now)
  by_expire now = by_if 0 (list_any (is_overdue tables.jobs now) tables.rows) _ _
      (λ accepted. by_cancel Expired (goes_with tables.jobs tables.rows (is_overdue tables.jobs now))) (λ accepted. absurd accepted)

  module _ (picks_stand : PicksStand) (formed : AreWellFormed tables) where
    -- a claim
    by_claim : (now word : ℕ) (picked : Option FileRow) → pick tables now word ≡ picked → Adds 1 (claim tables now picked)
    by_claim now word None is accepted = absurd accepted
    by_claim now word (Some row) is accepted =
        let stands = picks_stand tables now word row formed is in
        attempts_in-claimed tables.rows row formed.rows stands.0 stands.1

    -- every command
    pub step_adds : (command : Command) → IsAccepted (step tables command)
        → attempts_in (tables_after tables (step tables command)).rows ≡ attempts_in tables.rows + (if is_claim command then 1 else 0)
    step_adds (Restart now settings) accepted =
        none_more (map released tables.rows) (attempts_in-map released released_attempt tables.rows)
    step_adds (Submit now new) accepted = by_submit (option_and_then (number_of_id tables.jobs) new.id) (max now tables.moment) new accepted
    step_adds (CancelJob now job) accepted =
        by_job 0 (job_at tables.jobs job) (cancel_rows tables (max now tables.moment)) (by_cancel_job (max now tables.moment)) accepted
    step_adds (CancelFile now job file) accepted =
        by_job 0 (job_at tables.jobs job) (λ found. cancel_file tables (max now tables.moment) found (row_at tables.rows file))
        (λ found. by_cancel_file (max now tables.moment) found (row_at tables.rows file)) accepted
    step_adds (SetPriority now job priority) accepted =
        by_job 0 (job_at tables.jobs job) (λ found. set_priority tables (max now tables.moment) found priority)
        (λ found. by_priority (max now tables.moment) priority found) accepted
    step_adds (Claim now word) accepted = by_claim (max now tables.moment) word (pick tables (max now tables.moment) word) refl accepted
    step_adds (Report now file attempt outcome) accepted =
        by_report (max now tables.moment) attempt outcome (row_at tables.rows file) accepted
    step_adds (Ban now storage cancel) accepted = by_ban (max now tables.moment) storage cancel accepted
    step_adds (Unban now storage) accepted = by_unban (max now tables.moment) storage accepted
    step_adds (Expire now) accepted = by_expire (max now tables.moment) accepted
