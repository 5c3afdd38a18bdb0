-- What a command that a request may ask for is refused for: never that no file is eligible or overdue, nor that a report is stale.
use Rattle.std.proofs.Common.{◌≡◌, ℕ, Bool, true, false, List, Option, Some, None, Ok, Err, subst}
use Rattle.std.specs.Prelude.{if◌then◌else◌, not, ◌==◌, ◌&&◌, ◌+◌, nat_lt, length, is_some, option_and_then}
use Rattle.std.specs.List.{list_any}
use Rattle.fts_tables.specs.JobData.{JobData}
use Rattle.fts_tables.specs.Tables.{Tables, number_of_id, job_at, row_at, rows_of_job}
use Rattle.fts_tables.specs.Limits.{endpoint_at, is_banned}
use Rattle.fts_tables.specs.Moves.{is_cancellable, is_settled_job}
use Rattle.fts_tables.specs.Step.{Outcomes, step, submit_by, cancel_rows, cancel_one, cancel_file, set_priority, ban}
use Rattle.fts_tables.specs.declared.limits.TheConstants.{MAX_JOBS, MAX_ROWS}
use Rattle.fts_tables.specs.declared.rows.FileRow.{FileRow}
use Rattle.fts_tables.specs.declared.rows.JobRow.{JobRow}
use Rattle.fts_tables.specs.declared.rows.JobKind.{JobKind}
use Rattle.fts_tables.specs.declared.rows.JobKind.TheVariants.{Plain, Replica, Multihop}
use Rattle.fts_tables.specs.declared.commands.Command.{Command}
use Rattle.fts_tables.specs.declared.commands.Command.TheVariants.{Restart, Submit, CancelJob, CancelFile, SetPriority, Claim, Report, Ban, Unban, Expire}
use Rattle.fts_tables.specs.declared.commands.Refusal.{Refusal}
use Rattle.fts_tables.specs.declared.commands.Refusal.TheVariants.{NoJob}
use Rattle.fts_routes.specs.Planned.{IsAsked, IsOfRequests}

-- what comes of a request's command: it is accepted, or refused as such commands are
abbrev pub IsOfRequest : Outcomes → Type 0
IsOfRequest (Ok done) = Unit {0}
IsOfRequest (Err refusal) = IsOfRequests refusal

either : (test : Bool) (one other : Outcomes) → IsOfRequest one → IsOfRequest other → IsOfRequest (if test then one else other)
either true one other first second = first
either false one other first second = second

of_job : (found : Option JobRow) (act : JobRow → Outcomes) → ((job : JobRow) → IsOfRequest (act job))
    → IsOfRequest (elim found [ None ↦ Err NoJob | Some job ↦ act job ])
of_job None act each = tt
of_job (Some job) act each = each job

of_rows : (tables : Tables) (now : ℕ) (job : JobRow) → IsOfRequest (cancel_rows tables now job)
of_rows tables now job = either (not (is_settled_job (rows_of_job tables.rows job.number)) && list_any is_cancellable (rows_of_job tables.rows job.number)) _ _ tt tt

of_one : (tables : Tables) (now : ℕ) (job : JobRow) (row : FileRow) (kind : JobKind) → IsOfRequest (cancel_one tables now job row kind)
of_one tables now job row Plain = either (is_cancellable row) _ _ tt tt
of_one tables now job row Replica = of_rows tables now job
of_one tables now job row Multihop = of_rows tables now job

of_file : (tables : Tables) (now : ℕ) (job : JobRow) (found : Option FileRow) → IsOfRequest (cancel_file tables now job found)
of_file tables now job None = tt
of_file tables now job (Some row) = either (row.job == job.number) _ _ (of_one tables now job row job.kind) tt

of_submission : (tables : Tables) (now : ℕ) (new : JobData) (found : Option ℕ) → IsOfRequest (submit_by found tables now new)
of_submission tables now new (Some number) = tt
of_submission tables now new None =
    either (nat_lt (length tables.jobs) MAX_JOBS) _ _ (either (nat_lt MAX_ROWS (length tables.rows + length new.files)) _ _ tt tt) tt

of_ban : (tables : Tables) (now : ℕ) (storage : List ℕ) (cancel : Bool) → IsOfRequest (ban tables now storage cancel)
of_ban tables now storage cancel = either (is_some (endpoint_at tables.settings storage)) _ _ (either cancel _ _ tt tt) tt

-- whatever comes of a command that a request may ask for
pub asked-outcomes : (tables : Tables) (command : Command) → IsAsked command → IsOfRequest (step tables command)
asked-outcomes tables (Submit now job) asked = of_submission tables _ job (option_and_then (number_of_id tables.jobs) job.id)
asked-outcomes tables (CancelJob now job) asked = of_job (job_at tables.jobs job) (cancel_rows tables _) (λ found. of_rows tables _ found)
asked-outcomes tables (CancelFile now job file) asked =
    of_job (job_at tables.jobs job) (λ found. cancel_file tables _ found (row_at tables.rows file)) (λ found. of_file tables _ found (row_at tables.rows file))
asked-outcomes tables (SetPriority now job priority) asked =
    of_job (job_at tables.jobs job) (λ found. set_priority tables _ found priority) (λ found. either (is_settled_job (rows_of_job tables.rows found.number)) _ _ tt tt)
asked-outcomes tables (Ban now storage cancel) asked = of_ban tables _ storage cancel
asked-outcomes tables (Unban now storage) asked = either (is_banned tables.banned storage) _ _ tt tt
asked-outcomes tables _ asked = absurd asked

-- so its refusal, where it is refused
pub asked-refusals : (tables : Tables) (command : Command) (refusal : Refusal) → IsAsked command → step tables command ≡ Err refusal → IsOfRequests refusal
asked-refusals tables command refusal asked is = subst (λ (outcome : Outcomes). IsOfRequest outcome) is (asked-outcomes tables command asked)
