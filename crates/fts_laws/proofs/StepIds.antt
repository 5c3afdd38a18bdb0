-- What an accepted step does to the ids of jobs and to the VO's name.
use Rattle.std.proofs.Common.{◌≡◌, ℕ, ◌+◌, ◌<◌, ◌≤◌, Bool, true, false, cond, List, [], ◌∷◌, ◌++◌, length, map, Option, Some, None, Err, refl, ap, ap₂, sym, ◌∙◌, subst, arith, true≢false, not-suc-le-zero, lt-ltb, le-leb, ltb-true, eqb-true}
use Rattle.std.specs.Prelude.{max, not, ◌&&◌, ◌==◌, nat_lt, nat_le, find, option_map, option_and_then, unwrap_or, is_some, if◌then◌else◌}
use Rattle.std.specs.List.{list_any}
use Rattle.fts_tables.specs.JobData.{JobData}
use Rattle.fts_tables.specs.Tables.{Tables, is_active, job_at, row_at, rows_of_job, number_of_id}
use Rattle.fts_tables.specs.Choice.{pick}
use Rattle.fts_tables.specs.Limits.{endpoint_at, is_banned}
use Rattle.fts_tables.specs.Waits.{is_overdue}
use Rattle.fts_tables.specs.Moves.{standard_id, is_cancellable, is_settled_job, job_of_new}
use Rattle.fts_tables.specs.Step.{Outcomes, add_job, submit_within, submit_by, cancel_rows, cancel_row, cancel_one, cancel_file, with_priority, set_priority, claim, report_of, report, ban_only, ban_and_cancel, ban, unban, expire, step}
use Rattle.fts_tables.specs.History.{IsAccepted, tables_after}
use Rattle.fts_tables.specs.declared.limits.TheConstants.{MAX_JOBS, MAX_ROWS}
use Rattle.fts_tables.specs.declared.rows.FileRow.{FileRow}
use Rattle.fts_tables.specs.declared.rows.JobRow.{JobRow}
use Rattle.fts_tables.specs.declared.rows.JobKind.{JobKind}
use Rattle.fts_tables.specs.declared.rows.JobKind.TheVariants.{Plain, Replica, Multihop}
use Rattle.fts_tables.specs.declared.rows.Outcome.{Outcome}
use Rattle.fts_tables.specs.declared.commands.Command.{Command}
use Rattle.fts_tables.specs.declared.commands.Command.TheVariants.{Restart, Submit, CancelJob, CancelFile, SetPriority, Claim, Report, Ban, Unban, Expire}
use Rattle.fts_tables.specs.declared.commands.Refusal.TheVariants.{NoJob, JobsFull, RowsFull}
use Rattle.fts_laws.specs.Submissions.{one_if, is_given, submits, jobs_with, is_standard_id}

-- jobs with an id, in two lists
pub jobs_with-append : (id : ℕ) (jobs more : List JobRow) → jobs_with id (jobs ++ more) ≡ jobs_with id jobs + jobs_with id more
jobs_with-append id [] more = omega arith
jobs_with-append id (job ∷ jobs) more = let behind = jobs_with-append id jobs more in omega (arith, behind)

-- another priority leaves the id
same_id : (priority id : ℕ) (job : JobRow) (is_chosen : Bool) → ((if is_chosen then with_priority priority job else job).id == id) ≡ (job.id == id)
same_id priority id job true = refl
same_id priority id job false = refl

-- another priority of some jobs leaves all ids
pub jobs_with-priority : (priority id number : ℕ) (jobs : List JobRow)
    → jobs_with id (map (λ job. if job.number == number then with_priority priority job else job) jobs) ≡ jobs_with id jobs
jobs_with-priority priority id number [] = refl
jobs_with-priority priority id number (job ∷ jobs) =
    let behind = jobs_with-priority priority id number jobs in
    let head = ap one_if (same_id priority id job (job.number == number)) in
    omega (arith, behind, head)

-- an id that a number gave is standard
standard : (number id : ℕ) → number < MAX_JOBS → is_standard_id id ≡ false → (standard_id (number + 1) == id) ≡ false
standard number id within other = by_test (standard_id (number + 1) == id) refl
  where
    by_test : (answer : Bool) → (standard_id (number + 1) == id) ≡ answer → answer ≡ false
    by_test false is = refl
    by_test true is =
        let same : standard_id (number + 1) ≡ id = eqb-true (standard_id (number + 1)) id is in
        let above : nat_lt (standard_id 0) id ≡ true = lt-ltb (standard_id 0) id (omega (arith, same)) in
        let below : nat_le id (standard_id MAX_JOBS) ≡ true = le-leb id (standard_id MAX_JOBS) (omega (arith, same, within)) in
        absurd (true≢false (sym (ap₂ (λ one two. one && two) above below) ∙ other))

-- no number
abbrev IsNotKnown : Option ℕ → Type 0
IsNotKnown None = Unit {0}
IsNotKnown (Some number) = ⊥

module _ (id : ℕ) (tables : Tables) where
  -- where a step is accepted, so many jobs more have the id
  abbrev Adds : ℕ → Outcomes → Type 0
  Adds new outcome = IsAccepted outcome → jobs_with id (tables_after tables outcome).jobs ≡ jobs_with id tables.jobs + new

  -- one of two steps, by a test
  by_if : (new : ℕ) (answer : Bool) (outcome other : Outcomes) → (answer ≡ true → Adds new outcome) → (answer ≡ false → Adds new other)
      → Adds new (cond answer outcome other)
  by_if new true outcome other where_true where_false = where_true refl
  by_if new false outcome other where_true where_false = where_false refl

  -- a step on a job that may be missing
  by_job : (found : Option JobRow) (act : JobRow → Outcomes) → ((job : JobRow) → Adds 0 (act job))
      → Adds 0 (elim found [ None ↦ Err NoJob | Some job ↦ act job ])
  by_job None act each accepted = absurd accepted
  by_job (Some job) act each accepted = each job accepted

  -- the same jobs
  same_jobs : jobs_with id tables.jobs ≡ jobs_with id tables.jobs + 0
  same_jobs = omega arith

  by_cancel_job : (now : ℕ) (job : JobRow) → Adds 0 (cancel_rows tables now job)
  by_cancel_job now job = by_if 0 (not (is_settled_job (rows_of_job tables.rows job.number)) && list_any is_cancellable (rows_of_job tables.rows job.number)) _ _
      (λ is accepted. same_jobs) (λ is accepted. absurd accepted)

  by_cancel_row : (now : ℕ) (job : JobRow) (row : FileRow) → Adds 0 (cancel_row tables now job row)
  by_cancel_row now job row = by_if 0 (is_cancellable row) _ _ (λ is accepted. same_jobs) (λ is accepted. absurd accepted)

  by_cancel_one : (now : ℕ) (job : JobRow) (row : FileRow) (kind : JobKind) → Adds 0 (cancel_one tables now job row kind)
  by_cancel_one now job row Plain accepted = by_cancel_row now job row accepted
  by_cancel_one now job row Replica accepted = by_cancel_job now job accepted
  by_cancel_one now job row Multihop accepted = by_cancel_job now job accepted

  by_cancel_file : (now : ℕ) (job : JobRow) (found : Option FileRow) → Adds 0 (cancel_file tables now job found)
  by_cancel_file now job None accepted = absurd accepted
  by_cancel_file now job (Some row) accepted =
      by_if 0 (row.job == job.number) _ _ (λ is. by_cancel_one now job row job.kind) (λ is accepted. absurd accepted) accepted

  by_priority : (now priority : ℕ) (job : JobRow) → Adds 0 (set_priority tables now job priority)
  by_priority now priority job = by_if 0 (is_settled_job (rows_of_job tables.rows job.number)) _ _
      (λ is accepted. absurd accepted)
      (λ is accepted. let same = jobs_with-priority priority id job.number tables.jobs in omega (arith, same))

  by_claim : (now : ℕ) (picked : Option FileRow) → Adds 0 (claim tables now picked)
  by_claim now None accepted = absurd accepted
  by_claim now (Some row) accepted = same_jobs

  by_report_of : (now attempt : ℕ) (outcome : Outcome) (row : FileRow) (job : Option JobRow) → Adds 0 (report_of tables now row attempt outcome job)
  by_report_of now attempt outcome row None accepted = absurd accepted
  by_report_of now attempt outcome row (Some job) accepted =
      by_if 0 (is_active row.state && (row.attempt == attempt)) _ _ (λ is accepted. same_jobs) (λ is accepted. absurd accepted) accepted

  by_report : (now attempt : ℕ) (outcome : Outcome) (row : Option FileRow) → Adds 0 (report tables now row attempt outcome)
  by_report now attempt outcome None accepted = absurd accepted
  by_report now attempt outcome (Some row) accepted = by_report_of now attempt outcome row (job_at tables.jobs row.job) accepted

  by_ban : (now : ℕ) (storage : List ℕ) (cancel : Bool) → Adds 0 (ban tables now storage cancel)
  by_ban now storage cancel = by_if 0 (is_some (endpoint_at tables.settings storage)) _ _
      (λ is. by_if 0 cancel (ban_and_cancel tables now storage) (ban_only tables now storage) (λ all accepted. same_jobs) (λ all accepted. same_jobs))
      (λ is accepted. absurd accepted)

  by_unban : (now : ℕ) (storage : List ℕ) → Adds 0 (unban tables now storage)
  by_unban now storage = by_if 0 (is_banned tables.banned storage) _ _ (λ is accepted. same_jobs) (λ is accepted. absurd accepted)

  by_expire : (now : ℕ) → Adds 0 (expire tables now)
  by_expire now = by_if 0 (list_any (is_overdue tables.jobs now) tables.rows) _ _ (λ is accepted. same_jobs) (λ is accepted. absurd accepted)

  -- how many jobs with the id a submission adds
  abbrev added_by : JobData → ℕ
  added_by job = one_if (unwrap_or job.id (standard_id (length tables.jobs + 1)) == id)

  -- how many a command adds
  abbrev adds : Command → ℕ
  adds (Restart now settings) = 0
  adds (Submit now job) = added_by job
  adds (CancelJob now job) = 0
  adds (CancelFile now job file) = 0
  adds (SetPriority now job priority) = 0
  adds (Claim now word) = 0
  adds (Report now file attempt outcome) = 0
  adds (Ban now storage cancel) = 0
  adds (Unban now storage) = 0
  adds (Expire now) = 0

  -- a submission within the limits
  by_submit_within : (now : ℕ) (job : JobData) → Adds (added_by job) (submit_within tables now job)
  by_submit_within now job = by_if (added_by job) (nat_lt (length tables.jobs) MAX_JOBS) _ _
      (λ below. by_if (added_by job) (nat_lt MAX_ROWS (length tables.rows + length job.files)) _ _
      (λ is accepted. absurd accepted)
      (λ is accepted. let parts = jobs_with-append id tables.jobs (job_of_new tables now job ∷ []) in omega (arith, parts)))
      (λ is accepted. absurd accepted)

  -- a submission, of a known id or not
  by_submit : (known : Option ℕ) (now : ℕ) (job : JobData) → Adds (added_by job) (submit_by known tables now job)
  by_submit None now job accepted = by_submit_within now job accepted
  by_submit (Some number) now job accepted = absurd accepted

  -- every command
  by_command : (command : Command) → Adds (adds command) (step tables command)
  by_command (Restart now settings) accepted = same_jobs
  by_command (Submit now job) accepted = by_submit (option_and_then (number_of_id tables.jobs) job.id) (max now tables.moment) job accepted
  by_command (CancelJob now job) accepted =
      by_job (job_at tables.jobs job) (cancel_rows tables (max now tables.moment)) (by_cancel_job (max now tables.moment)) accepted
  by_command (CancelFile now job file) accepted =
      by_job (job_at tables.jobs job) (λ found. cancel_file tables (max now tables.moment) found (row_at tables.rows file))
      (λ found. by_cancel_file (max now tables.moment) found (row_at tables.rows file)) accepted
  by_command (SetPriority now job priority) accepted =
      by_job (job_at tables.jobs job) (λ found. set_priority tables (max now tables.moment) found priority)
      (λ found. by_priority (max now tables.moment) priority found) accepted
  by_command (Claim now word) accepted = by_claim (max now tables.moment) (pick tables (max now tables.moment) word) accepted
  by_command (Report now file attempt outcome) accepted = by_report (max now tables.moment) attempt outcome (row_at tables.rows file) accepted
  by_command (Ban now storage cancel) accepted = by_ban (max now tables.moment) storage cancel accepted
  by_command (Unban now storage) accepted = by_unban (max now tables.moment) storage accepted
  by_command (Expire now) accepted = by_expire (max now tables.moment) accepted

  -- a submission is accepted only where there is room for its job, and no job has its id
  below_most : (known : Option ℕ) (now : ℕ) (job : JobData) → IsAccepted (submit_by known tables now job)
      → (length tables.jobs < MAX_JOBS) × IsNotKnown known
  below_most (Some number) now job accepted = absurd accepted
  below_most None now job accepted = by_room (nat_lt (length tables.jobs) MAX_JOBS) refl accepted
    where
      by_room : (answer : Bool) → nat_lt (length tables.jobs) MAX_JOBS ≡ answer
          → IsAccepted (cond answer
          (cond (nat_lt MAX_ROWS (length tables.rows + length job.files)) (Err (RowsFull (length tables.rows))) (add_job tables now job))
          (Err (JobsFull (length tables.jobs))))
          → (length tables.jobs < MAX_JOBS) × Unit {0}
      by_room true is accepted = (ltb-true (length tables.jobs) MAX_JOBS is, tt)
      by_room false is accepted = absurd accepted

  -- a submission adds a job with the id where it was given, unless the machine gives it by itself
  exact_given : (given : Option ℕ) → length tables.jobs < MAX_JOBS → is_standard_id id ≡ false
      → one_if (unwrap_or given (standard_id (length tables.jobs + 1)) == id) ≡ one_if (is_given id given)
  exact_given None below other = ap one_if (standard (length tables.jobs) id below other)
  exact_given (Some one) below other = refl

  least_given : (given : Option ℕ) → one_if (is_given id given) ≤ one_if (unwrap_or given (standard_id (length tables.jobs + 1)) == id)
  least_given None = omega arith
  least_given (Some one) = omega arith

  exact : (command : Command) → is_standard_id id ≡ false → IsAccepted (step tables command) → adds command ≡ one_if (submits id command)
  exact (Restart now settings) other accepted = refl
  exact (Submit now job) other accepted =
      exact_given job.id (below_most (option_and_then (number_of_id tables.jobs) job.id) (max now tables.moment) job accepted).0 other
  exact (CancelJob now job) other accepted = refl
  exact (CancelFile now job file) other accepted = refl
  exact (SetPriority now job priority) other accepted = refl
  exact (Claim now word) other accepted = refl
  exact (Report now file attempt outcome) other accepted = refl
  exact (Ban now storage cancel) other accepted = refl
  exact (Unban now storage) other accepted = refl
  exact (Expire now) other accepted = refl

  least : (command : Command) → one_if (submits id command) ≤ adds command
  least (Restart now settings) = omega arith
  least (Submit now job) = least_given job.id
  least (CancelJob now job) = omega arith
  least (CancelFile now job file) = omega arith
  least (SetPriority now job priority) = omega arith
  least (Claim now word) = omega arith
  least (Report now file attempt outcome) = omega arith
  least (Ban now storage cancel) = omega arith
  least (Unban now storage) = omega arith
  least (Expire now) = omega arith

  -- where a job has the id, it is found
  known_given : (jobs : List JobRow) → 1 ≤ jobs_with id jobs → IsNotKnown (number_of_id jobs id) → ⊥
  known_given [] some none = elim (not-suc-le-zero some) [ ]
  known_given (job ∷ jobs) some none = by_head (λ more. known_given jobs more) (job.id == id) some none
    where
      by_head : (1 ≤ jobs_with id jobs → IsNotKnown (number_of_id jobs id) → ⊥) → (answer : Bool) → 1 ≤ one_if answer + jobs_with id jobs
          → IsNotKnown (option_map (λ (found : JobRow). found.number) (cond answer (Some job) (find (λ (found : JobRow). found.id == id) jobs))) → ⊥
      by_head behind true some none = none
      by_head behind false some none = behind (omega (arith, some)) none

-- the jobs with an id that isn't standard are one more exactly where it was submitted
pub step_adds : (tables : Tables) (command : Command) (id : ℕ) → is_standard_id id ≡ false → IsAccepted (step tables command)
    → jobs_with id (tables_after tables (step tables command)).jobs ≡ jobs_with id tables.jobs + one_if (submits id command)
step_adds tables command id other accepted =
    by_command id tables command accepted ∙ ap (λ more. jobs_with id tables.jobs + more) (exact id tables command other accepted)

-- they are at least one more where it was submitted, whatever the id
pub step_adds_least : (tables : Tables) (command : Command) (id : ℕ) → IsAccepted (step tables command)
    → jobs_with id tables.jobs + one_if (submits id command) ≤ jobs_with id (tables_after tables (step tables command)).jobs
step_adds_least tables command id accepted =
    let all = by_command id tables command accepted in
    let more = least id tables command in
    omega (arith, all, more)

-- a submission under an id that a job has is refused
pub refused : (tables : Tables) (command : Command) (id : ℕ) → 1 ≤ jobs_with id tables.jobs → submits id command ≡ true
    → IsAccepted (step tables command) → ⊥
refused tables (Restart now settings) id some is accepted = absurd (true≢false (sym is))
refused tables (Submit now job) id some is accepted = by_given job.id is (below_most id tables (option_and_then (number_of_id tables.jobs) job.id) (max now tables.moment) job accepted).1
  where
    by_given : (given : Option ℕ) → is_given id given ≡ true → IsNotKnown (option_and_then (number_of_id tables.jobs) given) → ⊥
    by_given None is none = absurd (true≢false (sym is))
    by_given (Some one) is none = known_given id tables tables.jobs some (subst (λ other. IsNotKnown (number_of_id tables.jobs other)) (eqb-true one id is) none)
refused tables (CancelJob now job) id some is accepted = absurd (true≢false (sym is))
refused tables (CancelFile now job file) id some is accepted = absurd (true≢false (sym is))
refused tables (SetPriority now job priority) id some is accepted = absurd (true≢false (sym is))
refused tables (Claim now word) id some is accepted = absurd (true≢false (sym is))
refused tables (Report now file attempt outcome) id some is accepted = absurd (true≢false (sym is))
refused tables (Ban now storage cancel) id some is accepted = absurd (true≢false (sym is))
refused tables (Unban now storage) id some is accepted = absurd (true≢false (sym is))
refused tables (Expire now) id some is accepted = absurd (true≢false (sym is))
