-- Submissions under an id, and the VO's name, over lists.
use Rattle.std.proofs.Common.{◌≡◌, ℕ, ◌+◌, ◌≤◌, Bool, true, false, cond, List, [], ◌∷◌, ◌++◌, length, Option, Some, None, Err, refl, ap, ◌∙◌, subst, arith}
use Rattle.std.specs.Prelude.{max, not, ◌&&◌, ◌==◌, nat_lt, is_some, option_map, option_and_then}
use Rattle.std.specs.List.{list_any}
use Rattle.fts_tables.specs.JobData.{JobData}
use Rattle.fts_tables.specs.Choice.{pick}
use Rattle.fts_tables.specs.Limits.{endpoint_at, is_banned}
use Rattle.fts_tables.specs.Waits.{is_overdue}
use Rattle.fts_tables.specs.Moves.{is_cancellable, is_settled_job}
use Rattle.fts_tables.specs.declared.limits.TheConstants.{MAX_JOBS, MAX_ROWS}
use Rattle.fts_tables.specs.declared.commands.Refusal.TheVariants.{NoJob}
use Rattle.fts_tables.specs.SettingsData.{SettingsData}
use Rattle.fts_tables.specs.Tables.{Tables, is_active, job_at, row_at, rows_of_job, number_of_id}
use Rattle.fts_tables.specs.Step.{Outcomes, submit_by, cancel_rows, cancel_one, cancel_file, set_priority, claim, report_of, report, ban_only, ban_and_cancel, ban, unban, expire, step}
use Rattle.fts_tables.specs.History.{tables_after, tables_from, IsLegalFrom}
use Rattle.fts_laws.specs.Submissions.{one_if, submits, submissions, jobs_with, is_standard_id, vo_after, vo_from}
use Rattle.fts_tables.specs.declared.rows.FileRow.{FileRow}
use Rattle.fts_tables.specs.declared.rows.JobRow.{JobRow}
use Rattle.fts_tables.specs.declared.rows.JobKind.{JobKind}
use Rattle.fts_tables.specs.declared.rows.JobKind.TheVariants.{Plain, Replica, Multihop}
use Rattle.fts_tables.specs.declared.rows.Outcome.{Outcome}
use Rattle.fts_tables.specs.declared.commands.Command.{Command}
use Rattle.fts_tables.specs.declared.commands.Command.TheVariants.{Restart, Submit, CancelJob, CancelFile, SetPriority, Claim, Report, Ban, Unban, Expire}
use Rattle.fts_tables.specs.declared.commands.Entry.{Entry}
use Rattle.fts_laws.proofs.StepIds.{step_adds, step_adds_least, refused}

-- where a job has the id, no later entry submits it
none_later : (entries : List Entry) (tables : Tables) (id : ℕ) → 1 ≤ jobs_with id tables.jobs → IsLegalFrom tables entries → submissions id entries ≡ 0
none_later [] tables id some legal = refl
none_later (entry ∷ entries) tables id some legal =
    let more = step_adds_least tables entry.command id legal.0 in
    by_head (none_later entries (tables_after tables (step tables entry.command)) id (omega (arith, some, more)) legal.1) (submits id entry.command) refl
  where
    by_head : submissions id entries ≡ 0 → (answer : Bool) → submits id entry.command ≡ answer → one_if answer + submissions id entries ≡ 0
    by_head behind true is = absurd (refused tables entry.command id some is legal.0)
    by_head behind false is = omega (arith, behind)

-- at most one entry submits an id
pub one_at_most : (entries : List Entry) (tables : Tables) (id : ℕ) → IsLegalFrom tables entries → submissions id entries ≤ 1
one_at_most [] tables id legal = omega arith
one_at_most (entry ∷ entries) tables id legal =
    by_head (one_at_most entries (tables_after tables (step tables entry.command)) id legal.1) (submits id entry.command) refl
  where
    by_head : submissions id entries ≤ 1 → (answer : Bool) → submits id entry.command ≡ answer → one_if answer + submissions id entries ≤ 1
    by_head behind true is =
        let more = subst (λ answer. jobs_with id tables.jobs + one_if answer ≤ jobs_with id (tables_after tables (step tables entry.command)).jobs) is
        (step_adds_least tables entry.command id legal.0) in
        let none = none_later entries (tables_after tables (step tables entry.command)) id (omega (arith, more)) legal.1 in
        omega (arith, none)
    by_head behind false is = omega (arith, behind)

-- the jobs with an id that isn't standard are those before and those submitted
pub jobs_submitted : (entries : List Entry) (tables : Tables) (id : ℕ) → is_standard_id id ≡ false → IsLegalFrom tables entries
    → jobs_with id (tables_from tables entries).jobs ≡ jobs_with id tables.jobs + submissions id entries
jobs_submitted [] tables id other legal = omega arith
jobs_submitted (entry ∷ entries) tables id other legal =
    let head = step_adds tables entry.command id other legal.0 in
    let behind = jobs_submitted entries (tables_after tables (step tables entry.command)) id other legal.1 in
    omega (arith, head, behind)

-- and at least so many, whatever the id
pub jobs_submitted_least : (entries : List Entry) (tables : Tables) (id : ℕ) → IsLegalFrom tables entries
    → jobs_with id tables.jobs + submissions id entries ≤ jobs_with id (tables_from tables entries).jobs
jobs_submitted_least [] tables id legal = omega arith
jobs_submitted_least (entry ∷ entries) tables id legal =
    let head = step_adds_least tables entry.command id legal.0 in
    let behind = jobs_submitted_least entries (tables_after tables (step tables entry.command)) id legal.1 in
    omega (arith, head, behind)

-- submissions of two lists add up
pub submissions-append : (entries more : List Entry) (id : ℕ) → submissions id (entries ++ more) ≡ submissions id entries + submissions id more
submissions-append [] more id = omega arith
submissions-append (entry ∷ entries) more id = let behind = submissions-append entries more id in omega (arith, behind)

-- the VO's name of some settings
abbrev vo_in : Option SettingsData → Option (List ℕ)
vo_in settings = option_map (λ (some : SettingsData). some.vo) settings

module _ (tables : Tables) where
  -- where a step is no restart, it leaves the settings
  abbrev Leaves : Outcomes → Type 0
  Leaves outcome = (tables_after tables outcome).settings ≡ tables.settings

  by_if : (answer : Bool) (outcome other : Outcomes) → Leaves outcome → Leaves other → Leaves (cond answer outcome other)
  by_if true outcome other one two = one
  by_if false outcome other one two = two

  by_job : (found : Option JobRow) (act : JobRow → Outcomes) → ((job : JobRow) → Leaves (act job))
      → Leaves (elim found [ None ↦ Err NoJob | Some job ↦ act job ])
  by_job None act each = refl
  by_job (Some job) act each = each job

  by_submit : (known : Option ℕ) (now : ℕ) (job : JobData) → Leaves (submit_by known tables now job)
  by_submit None now job = by_if (nat_lt (length tables.jobs) MAX_JOBS) _ _ (by_if (nat_lt MAX_ROWS (length tables.rows + length job.files)) _ _ refl refl) refl
  by_submit (Some number) now job = refl

  by_cancel_one : (now : ℕ) (job : JobRow) (row : FileRow) (kind : JobKind) → Leaves (cancel_one tables now job row kind)
  by_cancel_one now job row Plain = by_if (is_cancellable row) _ _ refl refl
  by_cancel_one now job row Replica =
      by_if (not (is_settled_job (rows_of_job tables.rows job.number)) && list_any is_cancellable (rows_of_job tables.rows job.number)) _ _ refl refl
  by_cancel_one now job row Multihop =
      by_if (not (is_settled_job (rows_of_job tables.rows job.number)) && list_any is_cancellable (rows_of_job tables.rows job.number)) _ _ refl refl

  by_cancel_file : (now : ℕ) (job : JobRow) (found : Option FileRow) → Leaves (cancel_file tables now job found)
  by_cancel_file now job None = refl
  by_cancel_file now job (Some row) = by_if (row.job == job.number) _ _ (by_cancel_one now job row job.kind) refl

  by_claim : (now : ℕ) (picked : Option FileRow) → Leaves (claim tables now picked)
  by_claim now None = refl
  by_claim now (Some row) = refl

  by_report_of : (now attempt : ℕ) (outcome : Outcome) (row : FileRow) (job : Option JobRow) → Leaves (report_of tables now row attempt outcome job)
  by_report_of now attempt outcome row None = refl
  by_report_of now attempt outcome row (Some job) = by_if (is_active row.state && (row.attempt == attempt)) _ _ refl refl

  by_report : (now attempt : ℕ) (outcome : Outcome) (row : Option FileRow) → Leaves (report tables now row attempt outcome)
  by_report now attempt outcome None = refl
  by_report now attempt outcome (Some row) = by_report_of now attempt outcome row (job_at tables.jobs row.job)

  by_ban : (now : ℕ) (storage : List ℕ) (cancel : Bool) → Leaves (ban tables now storage cancel)
  by_ban now storage cancel = by_if (is_some (endpoint_at tables.settings storage)) _ _
      (by_if cancel (ban_and_cancel tables now storage) (ban_only tables now storage) refl refl) refl

  by_unban : (now : ℕ) (storage : List ℕ) → Leaves (unban tables now storage)
  by_unban now storage = by_if (is_banned tables.banned storage) _ _ refl refl

  by_expire : (now : ℕ) → Leaves (expire tables now)
  by_expire now = by_if (list_any (is_overdue tables.jobs now) tables.rows) _ _ refl refl

  -- the VO's name of the settings after a step
  vo_step : (command : Command) → vo_in (tables_after tables (step tables command)).settings ≡ vo_after (vo_in tables.settings) command
  vo_step (Restart now settings) = refl
  vo_step (Submit now job) = ap vo_in (by_submit (option_and_then (number_of_id tables.jobs) job.id) (max now tables.moment) job)
  vo_step (CancelJob now job) = ap vo_in (by_job (job_at tables.jobs job) (cancel_rows tables (max now tables.moment)) (λ found.
      by_if (not (is_settled_job (rows_of_job tables.rows found.number)) && list_any is_cancellable (rows_of_job tables.rows found.number)) _ _ refl refl))
  vo_step (CancelFile now job file) = ap vo_in (by_job (job_at tables.jobs job)
      (λ found. cancel_file tables (max now tables.moment) found (row_at tables.rows file))
      (λ found. by_cancel_file (max now tables.moment) found (row_at tables.rows file)))
  vo_step (SetPriority now job priority) = ap vo_in (by_job (job_at tables.jobs job)
      (λ found. set_priority tables (max now tables.moment) found priority)
      (λ found. by_if (is_settled_job (rows_of_job tables.rows found.number)) _ _ refl refl))
  vo_step (Claim now word) = ap vo_in (by_claim (max now tables.moment) (pick tables (max now tables.moment) word))
  vo_step (Report now file attempt outcome) = ap vo_in (by_report (max now tables.moment) attempt outcome (row_at tables.rows file))
  vo_step (Ban now storage cancel) = ap vo_in (by_ban (max now tables.moment) storage cancel)
  vo_step (Unban now storage) = ap vo_in (by_unban (max now tables.moment) storage)
  vo_step (Expire now) = ap vo_in (by_expire (max now tables.moment))

-- the VO's name of the settings after entries
pub vo_stands : (entries : List Entry) (tables : Tables) → vo_in (tables_from tables entries).settings ≡ vo_from (vo_in tables.settings) entries
vo_stands [] tables = refl
vo_stands (entry ∷ entries) tables =
    vo_stands entries (tables_after tables (step tables entry.command))
    ∙ ap (λ vo. vo_from vo entries) (vo_step tables entry.command)
