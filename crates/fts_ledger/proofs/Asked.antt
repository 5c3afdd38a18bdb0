-- What clients' commands leave alone: they claim nothing, report nothing and restart nothing. And settings stay in force where nothing restarts.
use Rattle.std.proofs.Common.{◌≡◌, refl, ap, ◌∙◌, subst, inl, inr, ⊎_elim, ℕ, ◌+◌, Bool, true, false, cond, max, List, [], ◌∷◌, ◌++◌, length, Option, Some, None, Ok, Err}
use Rattle.std.specs.Prelude.{◌⊎◌, ◌==◌, ◌&&◌, not, nat_lt, is_some, option_and_then}
use Rattle.std.specs.List.{list_any}
use Rattle.fts_tables.specs.SettingsData.{SettingsData}
use Rattle.fts_tables.specs.JobData.{JobData}
use Rattle.fts_tables.specs.Tables.{Tables, empty_tables, is_active, job_at, number_of_id, row_at, rows_of_job}
use Rattle.fts_tables.specs.Limits.{endpoint_at, is_banned}
use Rattle.fts_tables.specs.Choice.{pick}
use Rattle.fts_tables.specs.Moves.{is_cancellable, is_settled_job}
use Rattle.fts_tables.specs.Waits.{is_overdue}
use Rattle.fts_tables.specs.Step.{Outcomes, step, submit_by, cancel_rows, cancel_one, cancel_file, set_priority, claim, report, report_of, ban, ban_only, ban_and_cancel, unban, expire}
use Rattle.fts_tables.specs.History.{tables_after, tables_from, tables_of}
use Rattle.fts_tables.specs.declared.limits.TheConstants.{MAX_JOBS, MAX_ROWS}
use Rattle.fts_tables.specs.declared.rows.FileRow.{FileRow}
use Rattle.fts_tables.specs.declared.rows.JobRow.{JobRow}
use Rattle.fts_tables.specs.declared.rows.JobKind.{JobKind}
use Rattle.fts_tables.specs.declared.rows.JobKind.TheVariants.{Plain, Replica, Multihop}
use Rattle.fts_tables.specs.declared.rows.Outcome.{Outcome}
use Rattle.fts_tables.specs.declared.commands.Entry.{Entry}
use Rattle.fts_tables.specs.declared.commands.Refusal.TheVariants.{NoJob}
use Rattle.fts_tables.specs.declared.commands.Command.{Command}
use Rattle.fts_tables.specs.declared.commands.Command.TheVariants.{Restart, Submit, CancelJob, CancelFile, SetPriority, Claim, Report, Ban, Unban, Expire}
use Rattle.fts_tables.specs.declared.commands.Answer.{Answer}
use Rattle.fts_tables.specs.declared.commands.Answer.TheVariants.{Restarted, Submitted, Cancelled, PrioritySet, Claimed, Reported, Banned, Unbanned, Expired}
use Rattle.fts_keep.specs.Applied.{entry_by}
use Rattle.fts_workers.proofs.Copied.{tables_from-append}
use Rattle.fts_ledger.specs.Claims.{Claimant, IsOwn, claim_after, claim_step, last_claim, last_claim_from}
use Rattle.fts_ledger.specs.Reports.{AddsAsked, AddsWork, HasNoRestart, IsAsked, IsRestart, IsWork, ReportsOwn}
use Rattle.fts_ledger.proofs.Sound.{IsQuiet, Keeps, asked_keeps}

-- an answer that is no claim where it is a writer's makes no last claim the writer's
answer_unclaimed : (file number writer : ℕ) (last : Option Claimant) (answer : Answer) → (writer ≡ number → IsQuiet answer) → (IsOwn number last → ⊥)
    → IsOwn number (claim_after file last writer answer) → ⊥
answer_unclaimed file number writer last (Restarted count) quiet unlike own = unlike own
answer_unclaimed file number writer last (Submitted job id) quiet unlike own = unlike own
answer_unclaimed file number writer last (Cancelled job) quiet unlike own = unlike own
answer_unclaimed file number writer last (PrioritySet job) quiet unlike own = unlike own
answer_unclaimed file number writer last (Claimed claimed attempt) quiet unlike own = by (claimed == file) own
  where
    by : (same : Bool) → IsOwn number (cond same (Some (record { writer = writer; attempt = attempt })) last) → ⊥
    by true is = quiet is
    by false is = unlike is
answer_unclaimed file number writer last (Reported reported state) quiet unlike own = unlike own
answer_unclaimed file number writer last (Banned count) quiet unlike own = unlike own
answer_unclaimed file number writer last Unbanned quiet unlike own = unlike own
answer_unclaimed file number writer last (Expired count) quiet unlike own = unlike own

step_unclaimed : (file number writer : ℕ) (tables : Tables) (last : Option Claimant) (came : Outcomes) → (writer ≡ number → Keeps IsQuiet tables came)
    → (IsOwn number last → ⊥) → IsOwn number (claim_step file last writer came) → ⊥
step_unclaimed file number writer tables last (Ok done) quiet unlike own =
    answer_unclaimed file number writer last done.1 (λ is. (quiet is).0) unlike own
step_unclaimed file number writer tables last (Err refusal) quiet unlike own = unlike own

-- where a writer's entries are clients' commands, no last claim is the writer's
unclaimed_from : (file number : ℕ) (tables : Tables) (last : Option Claimant) (entries : List Entry) → AddsAsked number entries
    → (IsOwn number last → ⊥) → IsOwn number (last_claim_from file tables last entries) → ⊥
unclaimed_from file number tables last [] asked unlike own = unlike own
unclaimed_from file number tables last (entry ∷ entries) asked unlike own =
    let came = step tables entry.command in
    unclaimed_from file number (tables_after tables came) (claim_step file last entry.writer came) entries asked.1
    (λ is. step_unclaimed file number entry.writer tables last came (λ same. asked_keeps tables entry.command (asked.0 same)) unlike is) own

pub asked_unclaimed : (writer file : ℕ) (opening entries : List Entry) → AddsAsked writer entries → IsOwn writer (last_claim file opening entries) → ⊥
asked_unclaimed writer file opening entries asked own = unclaimed_from file writer (tables_of opening) None entries asked (λ is. is) own

-- one of a writer's entries is a client's command, where all are
asked_at : (writer : ℕ) (earlier : List Entry) (entry : Entry) (later : List Entry) → AddsAsked writer (earlier ++ entry ∷ later)
    → entry.writer ≡ writer → IsAsked entry.command
asked_at writer [] entry later asked is = asked.0 is
asked_at writer (one ∷ earlier) entry later asked is = asked_at writer earlier entry later asked.1 is

-- so none is a report
pub asked_reports : (writer : ℕ) (opening entries : List Entry) → AddsAsked writer entries → ReportsOwn writer opening [] entries
asked_reports writer opening entries asked earlier later now file attempt outcome is =
    absurd (asked_at writer earlier (entry_by writer (Report now file attempt outcome)) later (subst (AddsAsked writer) is asked) refl)

-- neither a worker's command nor a client's is a restart
no_restart : (command : Command) → IsWork command ⊎ IsAsked command → IsRestart command → ⊥
no_restart (Restart now settings) either restart = ⊎_elim (λ work. work) (λ asked. asked) either
no_restart (Submit now job) either restart = absurd restart
no_restart (CancelJob now job) either restart = absurd restart
no_restart (CancelFile now job file) either restart = absurd restart
no_restart (SetPriority now job priority) either restart = absurd restart
no_restart (Claim now word) either restart = absurd restart
no_restart (Report now file attempt outcome) either restart = absurd restart
no_restart (Ban now storage cancel) either restart = absurd restart
no_restart (Unban now storage) either restart = absurd restart
no_restart (Expire now) either restart = absurd restart

pub no_restarts : (entries : List Entry) → ((writer : ℕ) → AddsWork writer entries ⊎ AddsAsked writer entries) → HasNoRestart entries
no_restarts [] each = tt
no_restarts (entry ∷ entries) each = (
  no_restart entry.command (⊎_elim (λ work. inl (work.0 refl)) (λ asked. inr (asked.0 refl)) (each entry.writer)),
  no_restarts entries (λ writer. ⊎_elim (λ work. inl work.1) (λ asked. inr asked.1) (each writer)),
)

-- the settings in force are as before
abbrev pub KeepsSettings : Tables → Outcomes → Type 0
KeepsSettings tables came = (tables_after tables came).settings ≡ tables.settings

-- one of two
either : (tables : Tables) (first : Bool) (one other : Outcomes) → KeepsSettings tables one → KeepsSettings tables other
    → KeepsSettings tables (cond first one other)
either tables true one other keeps_one keeps_other = keeps_one
either tables false one other keeps_one keeps_other = keeps_other

-- a job that may be missing
on_found : (tables : Tables) (found : Option JobRow) (act : JobRow → Outcomes) → ((job : JobRow) → KeepsSettings tables (act job))
    → KeepsSettings tables (elim found [ None ↦ Err NoJob | Some job ↦ act job ])
on_found tables None act each = refl
on_found tables (Some job) act each = each job

submit_settings : (found : Option ℕ) (tables : Tables) (now : ℕ) (job : JobData) → KeepsSettings tables (submit_by found tables now job)
submit_settings (Some number) tables now job = refl
submit_settings None tables now job =
    either tables (nat_lt (length tables.jobs) MAX_JOBS) _ _ (either tables (nat_lt MAX_ROWS (length tables.rows + length job.files)) _ _ refl refl) refl

cancel_rows_settings : (tables : Tables) (now : ℕ) (job : JobRow) → KeepsSettings tables (cancel_rows tables now job)
cancel_rows_settings tables now job =
    let of_job = rows_of_job tables.rows job.number in
    either tables (not (is_settled_job of_job) && list_any is_cancellable of_job) _ _ refl refl

cancel_one_settings : (tables : Tables) (now : ℕ) (job : JobRow) (row : FileRow) (kind : JobKind)
    → KeepsSettings tables (cancel_one tables now job row kind)
cancel_one_settings tables now job row Plain = either tables (is_cancellable row) _ _ refl refl
cancel_one_settings tables now job row Replica = cancel_rows_settings tables now job
cancel_one_settings tables now job row Multihop = cancel_rows_settings tables now job

cancel_file_settings : (tables : Tables) (now : ℕ) (job : JobRow) (found : Option FileRow) → KeepsSettings tables (cancel_file tables now job found)
cancel_file_settings tables now job None = refl
cancel_file_settings tables now job (Some row) = either tables (row.job == job.number) _ _ (cancel_one_settings tables now job row job.kind) refl

priority_settings : (tables : Tables) (now : ℕ) (job : JobRow) (priority : ℕ) → KeepsSettings tables (set_priority tables now job priority)
priority_settings tables now job priority = either tables (is_settled_job (rows_of_job tables.rows job.number)) _ _ refl refl

claim_settings : (tables : Tables) (now : ℕ) (found : Option FileRow) → KeepsSettings tables (claim tables now found)
claim_settings tables now None = refl
claim_settings tables now (Some row) = refl

report_of_settings : (tables : Tables) (now : ℕ) (row : FileRow) (attempt : ℕ) (outcome : Outcome) (found : Option JobRow)
    → KeepsSettings tables (report_of tables now row attempt outcome found)
report_of_settings tables now row attempt outcome None = refl
report_of_settings tables now row attempt outcome (Some job) = either tables (is_active row.state && (row.attempt == attempt)) _ _ refl refl

report_settings : (tables : Tables) (now : ℕ) (found : Option FileRow) (attempt : ℕ) (outcome : Outcome)
    → KeepsSettings tables (report tables now found attempt outcome)
report_settings tables now None attempt outcome = refl
report_settings tables now (Some row) attempt outcome = report_of_settings tables now row attempt outcome (job_at tables.jobs row.job)

ban_settings : (tables : Tables) (now : ℕ) (storage : List ℕ) (cancel : Bool) → KeepsSettings tables (ban tables now storage cancel)
ban_settings tables now storage cancel =
    either tables (is_some (endpoint_at tables.settings storage)) _ _
    (either tables cancel (ban_and_cancel tables now storage) (ban_only tables now storage) refl refl) refl

unban_settings : (tables : Tables) (now : ℕ) (storage : List ℕ) → KeepsSettings tables (unban tables now storage)
unban_settings tables now storage = either tables (is_banned tables.banned storage) _ _ refl refl

expire_settings : (tables : Tables) (now : ℕ) → KeepsSettings tables (expire tables now)
expire_settings tables now = either tables (list_any (is_overdue tables.jobs now) tables.rows) _ _ refl refl

-- each step but a restart keeps them
step_settings : (tables : Tables) (command : Command) → (IsRestart command → ⊥) → KeepsSettings tables (step tables command)
step_settings tables (Restart now settings) none = absurd (none tt)
step_settings tables (Submit now job) none = submit_settings (option_and_then (number_of_id tables.jobs) job.id) tables (max now tables.moment) job
step_settings tables (CancelJob now job) none =
    on_found tables (job_at tables.jobs job) (cancel_rows tables (max now tables.moment)) (cancel_rows_settings tables (max now tables.moment))
step_settings tables (CancelFile now job file) none =
    on_found tables (job_at tables.jobs job) (λ found. cancel_file tables (max now tables.moment) found (row_at tables.rows file))
    (λ found. cancel_file_settings tables (max now tables.moment) found (row_at tables.rows file))
step_settings tables (SetPriority now job priority) none =
    on_found tables (job_at tables.jobs job) (λ found. set_priority tables (max now tables.moment) found priority)
    (λ found. priority_settings tables (max now tables.moment) found priority)
step_settings tables (Claim now word) none = claim_settings tables (max now tables.moment) (pick tables (max now tables.moment) word)
step_settings tables (Report now file attempt outcome) none =
    report_settings tables (max now tables.moment) (row_at tables.rows file) attempt outcome
step_settings tables (Ban now storage cancel) none = ban_settings tables (max now tables.moment) storage cancel
step_settings tables (Unban now storage) none = unban_settings tables (max now tables.moment) storage
step_settings tables (Expire now) none = expire_settings tables (max now tables.moment)

-- so do entries of which none is a restart
settings_from : (tables : Tables) (entries : List Entry) → HasNoRestart entries → (tables_from tables entries).settings ≡ tables.settings
settings_from tables [] none = refl
settings_from tables (entry ∷ entries) none =
    settings_from (tables_after tables (step tables entry.command)) entries none.1 ∙ step_settings tables entry.command none.0

-- those of a restart stay in force until the next one
pub settings_stay : (entries : List Entry) (writer now : ℕ) (settings : SettingsData) (more : List Entry) → HasNoRestart more
    → (tables_of ((entries ++ entry_by writer (Restart now settings) ∷ []) ++ more)).settings ≡ Some settings
settings_stay entries writer now settings more none =
    let restarted = entries ++ entry_by writer (Restart now settings) ∷ [] in
    ap (λ (t : Tables). t.settings) (tables_from-append empty_tables restarted more)
    ∙ settings_from (tables_of restarted) more none
    ∙ ap (λ (t : Tables). t.settings) (tables_from-append empty_tables entries (entry_by writer (Restart now settings) ∷ []))
