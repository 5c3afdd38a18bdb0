-- What one accepted step leaves of the attempts at which files stand, and which command an answer comes from.
use Rattle.std.proofs.Common.{◌≡◌, ◌≢◌, refl, sym, ap, subst, ℕ, ◌+◌, ◌-◌, Bool, true, false, cond, List, [], ◌∷◌, ◌++◌, length, max, Option, Some, None, IsSome, Ok, Err, arith}
use Rattle.std.specs.Prelude.{◌==◌, ◌&&◌, ◌||◌, not, nat_lt, is_some, option_and_then}
use Rattle.std.specs.Option.{option_map_or}
use Rattle.std.specs.List.{list_any}
use Rattle.fts_tables.specs.SettingsData.{SettingsData}
use Rattle.fts_tables.specs.JobData.{JobData}
use Rattle.fts_tables.specs.Tables.{Tables, AreWellFormed, is_active, is_submitted, is_not_used, job_at, number_of_id, row_at, rows_of_job}
use Rattle.fts_tables.specs.Limits.{endpoint_at, is_banned}
use Rattle.fts_tables.specs.Choice.{pick}
use Rattle.fts_tables.specs.Moves.{canceled, canceled_for, cancelled, cancelled_for, change_row, claimed, is_cancellable, is_settled_job, reported, rows_of_new, submitted}
use Rattle.fts_tables.specs.Waits.{is_overdue, waits_at, goes_with, rows_cancelled}
use Rattle.fts_tables.specs.Step.{Outcomes, step, restart, released, submit_by, cancel_rows, cancel_row, cancel_one, cancel_file, set_priority, claim, report, report_of, ban, ban_only, ban_and_cancel, unban, expire, with_rows}
use Rattle.fts_tables.specs.declared.limits.TheConstants.{MAX_JOBS, MAX_ROWS}
use Rattle.fts_tables.specs.declared.rows.FileRow.{FileRow}
use Rattle.fts_tables.specs.declared.rows.JobRow.{JobRow}
use Rattle.fts_tables.specs.declared.rows.JobKind.{JobKind}
use Rattle.fts_tables.specs.declared.rows.JobKind.TheVariants.{Plain, Replica, Multihop}
use Rattle.fts_tables.specs.declared.rows.Reason.{Reason}
use Rattle.fts_tables.specs.declared.rows.Reason.TheVariants as reason
use Rattle.fts_tables.specs.declared.rows.Outcome.{Outcome}
use Rattle.fts_tables.specs.declared.commands.Refusal.TheVariants.{NoJob}
use Rattle.fts_tables.specs.declared.commands.Answer.{Answer}
use Rattle.fts_tables.specs.declared.commands.Answer.TheVariants.{Restarted, Submitted, Cancelled, PrioritySet, Claimed, Reported, Banned, Unbanned, Expired}
use Rattle.fts_tables.specs.declared.commands.Command.{Command}
use Rattle.fts_tables.specs.declared.commands.Command.TheVariants.{Restart, Submit, CancelJob, CancelFile, SetPriority, Claim, Report, Ban, Unban, Expire}
use Rattle.fts_workers.specs.Benches.{attempt_of}
use Rattle.fts_workers.proofs.Attempts.{IsSameAttempt, attempt_among, attempts_map, attempts_one, either_attempt, same_attempt, report_attempts, claim_others, claim_own}
use Rattle.fts_workers.proofs.Numbered.{found_at, row_at-id}
use Rattle.fts_ledger.specs.Reports.{IsAsked, IsRestart, IsReportOf}
use Rattle.fts_ledger.specs.Machine.{PicksStand}

-- each row that is there stays at its attempt
abbrev pub KeepsAttempts : Tables → Tables → Type 0
KeepsAttempts before after = (file : ℕ) → IsSome (row_at before.rows file) → attempt_of after file ≡ attempt_of before file

-- an answer is to a request's command or to an expiry: nothing was claimed, reported or restarted
abbrev pub IsQuiet : Answer → Type 0
IsQuiet (Restarted count) = ⊥
IsQuiet (Submitted job id) = Unit {0}
IsQuiet (Cancelled job) = Unit {0}
IsQuiet (PrioritySet job) = Unit {0}
IsQuiet (Claimed file attempt) = ⊥
IsQuiet (Reported file state) = ⊥
IsQuiet (Banned count) = Unit {0}
IsQuiet Unbanned = Unit {0}
IsQuiet (Expired count) = Unit {0}

-- to a restart
abbrev pub IsRestarted : Answer → Type 0
IsRestarted (Restarted count) = Unit {0}
IsRestarted (Submitted job id) = ⊥
IsRestarted (Cancelled job) = ⊥
IsRestarted (PrioritySet job) = ⊥
IsRestarted (Claimed file attempt) = ⊥
IsRestarted (Reported file state) = ⊥
IsRestarted (Banned count) = ⊥
IsRestarted Unbanned = ⊥
IsRestarted (Expired count) = ⊥

-- to a report of this file
abbrev pub IsReported : ℕ → Answer → Type 0
IsReported file (Restarted count) = ⊥
IsReported file (Submitted job id) = ⊥
IsReported file (Cancelled job) = ⊥
IsReported file (PrioritySet job) = ⊥
IsReported file (Claimed claimed attempt) = ⊥
IsReported file (Reported reported state) = file ≡ reported
IsReported file (Banned count) = ⊥
IsReported file Unbanned = ⊥
IsReported file (Expired count) = ⊥

-- where a step is accepted, its answer is such a one, and it keeps attempts
abbrev pub Keeps : (Answer → Type 0) → Tables → Outcomes → Type 0
Keeps Fine tables (Ok done) = Fine done.1 × KeepsAttempts tables done.0
Keeps Fine tables (Err refusal) = Unit {0}

-- one of two
either : (Fine : Answer → Type 0) (tables : Tables) (first : Bool) (one other : Outcomes) → Keeps Fine tables one → Keeps Fine tables other
    → Keeps Fine tables (cond first one other)
either Fine tables true one other keeps_one keeps_other = keeps_one
either Fine tables false one other keeps_one keeps_other = keeps_other

-- a job that may be missing
on_found : (Fine : Answer → Type 0) (tables : Tables) (found : Option JobRow) (act : JobRow → Outcomes) → ((job : JobRow) → Keeps Fine tables (act job))
    → Keeps Fine tables (elim found [ None ↦ Err NoJob | Some job ↦ act job ])
on_found Fine tables None act each = tt
on_found Fine tables (Some job) act each = each job

-- rows behind those that are there
attempts_more : (rows more : List FileRow) (file : ℕ) → IsSome (row_at rows file) → attempt_among (rows ++ more) file ≡ attempt_among rows file
attempts_more [] more file there = absurd cc
attempts_more (row ∷ rows) more file there = by_head (attempts_more rows more file) (row.id == file) there
  where
    by_head : (IsSome (row_at rows file) → attempt_among (rows ++ more) file ≡ attempt_among rows file) → (same : Bool)
        → IsSome (cond same (Some row) (row_at rows file))
        → option_map_or (λ (r : FileRow). r.attempt) (cond same (Some row) (row_at (rows ++ more) file)) 0
        ≡ option_map_or (λ (r : FileRow). r.attempt) (cond same (Some row) (row_at rows file)) 0
    by_head behind true there = refl
    by_head behind false there = behind there

-- a cancellation and a restart leave a row's attempt
cancelled_attempt : (why : Reason) (row : FileRow) → IsSameAttempt row (cancelled_for why row)
cancelled_attempt why row = either_attempt (is_submitted row.state || is_not_used row.state) row (canceled_for why row) _ (record { id = refl; attempt = refl })
    (either_attempt (is_active row.state) row (record row { cancel_asked = true }) row (record { id = refl; attempt = refl }) (same_attempt row))

released_attempt : (row : FileRow) → IsSameAttempt row (released row)
released_attempt row = either_attempt (is_active row.state) row (cond row.cancel_asked (canceled row) (submitted row)) row
    (either_attempt row.cancel_asked row (canceled row) (submitted row) (record { id = refl; attempt = refl }) (record { id = refl; attempt = refl }))
    (same_attempt row)

restart_keeps : (tables : Tables) (now : ℕ) (settings : SettingsData) → Keeps IsRestarted tables (restart tables now settings)
restart_keeps tables now settings = (tt, λ file there. attempts_map released released_attempt tables.rows file)

submit_keeps : (found : Option ℕ) (tables : Tables) (now : ℕ) (job : JobData) → Keeps IsQuiet tables (submit_by found tables now job)
submit_keeps (Some number) tables now job = tt
submit_keeps None tables now job =
    either IsQuiet tables (nat_lt (length tables.jobs) MAX_JOBS) _ _
    (either IsQuiet tables (nat_lt MAX_ROWS (length tables.rows + length job.files)) _ _ tt
    (tt, λ file there. attempts_more tables.rows (rows_of_new tables.rows (length tables.jobs + 1) job) file there)) tt

cancel_rows_keeps : (tables : Tables) (now : ℕ) (job : JobRow) → Keeps IsQuiet tables (cancel_rows tables now job)
cancel_rows_keeps tables now job =
    let of_job = rows_of_job tables.rows job.number in
    either IsQuiet tables (not (is_settled_job of_job) && list_any is_cancellable of_job) _ _ (
      tt,
      λ file there. attempts_map (λ row. cond (row.job == job.number) (cancelled row) row)
          (λ row. either_attempt (row.job == job.number) row (cancelled row) row (cancelled_attempt reason.Cancelled row) (same_attempt row)) tables.rows file,
    ) tt

cancel_row_keeps : (tables : Tables) (now : ℕ) (job : JobRow) (row : FileRow) → Keeps IsQuiet tables (cancel_row tables now job row)
cancel_row_keeps tables now job row =
    either IsQuiet tables (is_cancellable row) _ _ (tt, λ file there. attempts_one row.id cancelled (cancelled_attempt reason.Cancelled) tables.rows file) tt

cancel_one_keeps : (tables : Tables) (now : ℕ) (job : JobRow) (row : FileRow) (kind : JobKind) → Keeps IsQuiet tables (cancel_one tables now job row kind)
cancel_one_keeps tables now job row Plain = cancel_row_keeps tables now job row
cancel_one_keeps tables now job row Replica = cancel_rows_keeps tables now job
cancel_one_keeps tables now job row Multihop = cancel_rows_keeps tables now job

cancel_file_keeps : (tables : Tables) (now : ℕ) (job : JobRow) (found : Option FileRow) → Keeps IsQuiet tables (cancel_file tables now job found)
cancel_file_keeps tables now job None = tt
cancel_file_keeps tables now job (Some row) =
    either IsQuiet tables (row.job == job.number) _ _ (cancel_one_keeps tables now job row job.kind) tt

priority_keeps : (tables : Tables) (now : ℕ) (job : JobRow) (priority : ℕ) → Keeps IsQuiet tables (set_priority tables now job priority)
priority_keeps tables now job priority =
    either IsQuiet tables (is_settled_job (rows_of_job tables.rows job.number)) _ _ tt (tt, λ file there. refl)

report_of_keeps : (tables : Tables) (now : ℕ) (row : FileRow) (attempt : ℕ) (outcome : Outcome) (found : Option JobRow)
    → Keeps (IsReported row.id) tables (report_of tables now row attempt outcome found)
report_of_keeps tables now row attempt outcome None = tt
report_of_keeps tables now row attempt outcome (Some job) =
    either (IsReported row.id) tables (is_active row.state && (row.attempt == attempt)) _ _
    (refl, λ file there. report_attempts job (reported job now outcome row) now outcome row.id tables.rows file) tt

report_keeps : (tables : Tables) (now file : ℕ) (found : Option FileRow) (attempt : ℕ) (outcome : Outcome) → row_at tables.rows file ≡ found
    → Keeps (IsReported file) tables (report tables now found attempt outcome)
report_keeps tables now file None attempt outcome at = tt
report_keeps tables now file (Some row) attempt outcome at =
    subst (λ id. Keeps (IsReported id) tables (report_of tables now row attempt outcome (job_at tables.jobs row.job))) (row_at-id tables.rows file row at)
    (report_of_keeps tables now row attempt outcome (job_at tables.jobs row.job))

-- so do those that pass a test, cancelled for whatever reason
some_cancelled : (why : Reason) (tables : Tables) (test : FileRow → Bool) (file : ℕ)
    → attempt_among (rows_cancelled why tables.jobs test tables.rows) file ≡ attempt_among tables.rows file
some_cancelled why tables test file =
    attempts_map (λ row. cond (goes_with tables.jobs tables.rows test row) (cancelled_for why row) row)
    (λ row. either_attempt (goes_with tables.jobs tables.rows test row) row (cancelled_for why row) row (cancelled_attempt why row) (same_attempt row))
    tables.rows file

ban_keeps : (tables : Tables) (now : ℕ) (storage : List ℕ) (cancel : Bool) → Keeps IsQuiet tables (ban tables now storage cancel)
ban_keeps tables now storage cancel =
    either IsQuiet tables (is_some (endpoint_at tables.settings storage)) _ _
    (either IsQuiet tables cancel (ban_and_cancel tables now storage) (ban_only tables now storage)
    (tt, λ file there. some_cancelled reason.Cancelled tables (waits_at storage) file) (tt, λ file there. refl)) tt

unban_keeps : (tables : Tables) (now : ℕ) (storage : List ℕ) → Keeps IsQuiet tables (unban tables now storage)
unban_keeps tables now storage = either IsQuiet tables (is_banned tables.banned storage) _ _ (tt, λ file there. refl) tt

expire_keeps : (tables : Tables) (now : ℕ) → Keeps IsQuiet tables (expire tables now)
expire_keeps tables now =
    either IsQuiet tables (list_any (is_overdue tables.jobs now) tables.rows) _ _
    (tt, λ file there. some_cancelled reason.Expired tables (is_overdue tables.jobs now) file) tt

-- a client's command claims nothing and reports nothing
pub asked_keeps : (tables : Tables) (command : Command) → IsAsked command → Keeps IsQuiet tables (step tables command)
asked_keeps tables (Restart now settings) asked = absurd asked
asked_keeps tables (Submit now job) asked =
    submit_keeps (option_and_then (number_of_id tables.jobs) job.id) tables (max now tables.moment) job
asked_keeps tables (CancelJob now job) asked =
    on_found IsQuiet tables (job_at tables.jobs job) (cancel_rows tables (max now tables.moment)) (cancel_rows_keeps tables (max now tables.moment))
asked_keeps tables (CancelFile now job file) asked =
    on_found IsQuiet tables (job_at tables.jobs job) (λ found. cancel_file tables (max now tables.moment) found (row_at tables.rows file))
    (λ found. cancel_file_keeps tables (max now tables.moment) found (row_at tables.rows file))
asked_keeps tables (SetPriority now job priority) asked =
    on_found IsQuiet tables (job_at tables.jobs job) (λ found. set_priority tables (max now tables.moment) found priority)
    (λ found. priority_keeps tables (max now tables.moment) found priority)
asked_keeps tables (Ban now storage cancel) asked = ban_keeps tables (max now tables.moment) storage cancel
asked_keeps tables (Unban now storage) asked = unban_keeps tables (max now tables.moment) storage
asked_keeps tables _ asked = absurd asked

-- a claim raises the attempt of its file, which is there, by one, and leaves the others'
pub record Claims (before : Tables) (command : Command) (after : Tables) (file attempt : ℕ) : Type 0 where
  pub now : ℕ
  pub word : ℕ
  pub is : command ≡ Claim now word
  pub there : IsSome (row_at before.rows file)
  pub raised : attempt ≡ attempt_of before file + 1
  pub own : attempt_of after file ≡ attempt
  pub others : (other : ℕ) → other ≢ file → attempt_of after other ≡ attempt_of before other

-- what an accepted step does, by its answer
abbrev pub Behaves : Tables → Command → Tables → Answer → Type 0
Behaves before command after (Restarted count) = IsRestart command × KeepsAttempts before after
Behaves before command after (Submitted job id) = KeepsAttempts before after
Behaves before command after (Cancelled job) = KeepsAttempts before after
Behaves before command after (PrioritySet job) = KeepsAttempts before after
Behaves before command after (Claimed file attempt) = Claims before command after file attempt
Behaves before command after (Reported file state) = IsReportOf file command × KeepsAttempts before after
Behaves before command after (Banned count) = KeepsAttempts before after
Behaves before command after Unbanned = KeepsAttempts before after
Behaves before command after (Expired count) = KeepsAttempts before after

quiet_behaves : (before : Tables) (command : Command) (after : Tables) (answer : Answer) → IsQuiet answer → KeepsAttempts before after
    → Behaves before command after answer
quiet_behaves before command after (Restarted count) quiet keeps = absurd quiet
quiet_behaves before command after (Claimed file attempt) quiet keeps = absurd quiet
quiet_behaves before command after (Reported file state) quiet keeps = absurd quiet
quiet_behaves before command after _ quiet keeps = keeps

restart_behaves : (before : Tables) (command : Command) (after : Tables) (answer : Answer) → IsRestart command → IsRestarted answer
    → KeepsAttempts before after → Behaves before command after answer
restart_behaves before command after (Restarted count) is fine keeps = (is, keeps)
restart_behaves before command after _ is fine keeps = absurd fine

report_behaves : (before : Tables) (now file attempt : ℕ) (outcome : Outcome) (after : Tables) (answer : Answer) → IsReported file answer
    → KeepsAttempts before after → Behaves before (Report now file attempt outcome) after answer
report_behaves before now file attempt outcome after (Reported reported state) fine keeps = (fine, keeps)
report_behaves before now file attempt outcome after _ fine keeps = absurd fine

module _ (picks_stand : PicksStand) (tables : Tables) (formed : AreWellFormed tables) where
  -- so it is found by it
  picked_found : (now word : ℕ) (row : FileRow) → pick tables now word ≡ Some row → row_at tables.rows row.id ≡ Some row
  picked_found now word row picked =
      let there = picks_stand tables now word row formed picked in
      let number : 1 + (row.id - 1) ≡ row.id = omega (arith, there.0) in
      subst (λ id. row_at tables.rows id ≡ Some row) number
      (found_at (λ (other : FileRow). other.id) 1 tables.rows (row.id - 1) row formed.rows there.1)

  -- two steps that are one made one thing
  same_done : (one other : Tables × Answer) → ◌≡◌ {A = Outcomes} (Ok one) (Ok other) → one ≡ other
  same_done one other is = cc

  claim_behaves : (now word later : ℕ) (found : Option FileRow) → pick tables later word ≡ found → (done : Tables × Answer)
      → claim tables later found ≡ Ok done → Behaves tables (Claim now word) done.0 done.1
  claim_behaves now word later None picked done is = absurd cc
  claim_behaves now word later (Some row) picked done is =
      let at = picked_found later word row picked in
      subst (λ (d : Tables × Answer). Behaves tables (Claim now word) d.0 d.1)
      (same_done (with_rows tables later (change_row row.id claimed tables.rows), Claimed row.id (row.attempt + 1)) done is)
      (record {
        now = now;
        word = word;
        is = refl;
        there = subst (λ found. IsSome found) (sym at) refl;
        raised = sym (ap (λ (found : Option FileRow). option_map_or (λ (r : FileRow). r.attempt) found 0 + 1) at);
        own = claim_own row.id tables.rows row at;
        others = λ other unlike. claim_others row.id tables.rows other unlike;
      })

  -- a step that keeps attempts behaves by its answer
  by_keeps : (Fine : Answer → Type 0) (command : Command)
      → ((after : Tables) (answer : Answer) → Fine answer → KeepsAttempts tables after → Behaves tables command after answer)
      → (came : Outcomes) → Keeps Fine tables came → (done : Tables × Answer) → came ≡ Ok done → Behaves tables command done.0 done.1
  by_keeps Fine command behaves (Err refusal) keeps done is = absurd cc
  by_keeps Fine command behaves (Ok found) keeps done is =
      subst (λ (d : Tables × Answer). Behaves tables command d.0 d.1) (same_done found done is) (behaves found.0 found.1 keeps.0 keeps.1)

  -- each accepted step
  pub step_behaves : (command : Command) (done : Tables × Answer) → step tables command ≡ Ok done → Behaves tables command done.0 done.1
  step_behaves (Restart now settings) done is = by_keeps IsRestarted (Restart now settings)
      (λ after answer fine keeps. restart_behaves tables (Restart now settings) after answer tt fine keeps) _
      (restart_keeps tables (max now tables.moment) settings) done is
  step_behaves (Submit now job) done is = by_keeps IsQuiet (Submit now job) (quiet_behaves tables (Submit now job)) _
      (asked_keeps tables (Submit now job) tt) done is
  step_behaves (CancelJob now job) done is = by_keeps IsQuiet (CancelJob now job) (quiet_behaves tables (CancelJob now job)) _
      (asked_keeps tables (CancelJob now job) tt) done is
  step_behaves (CancelFile now job file) done is = by_keeps IsQuiet (CancelFile now job file) (quiet_behaves tables (CancelFile now job file)) _
      (asked_keeps tables (CancelFile now job file) tt) done is
  step_behaves (SetPriority now job priority) done is = by_keeps IsQuiet (SetPriority now job priority) (quiet_behaves tables (SetPriority now job priority)) _
      (asked_keeps tables (SetPriority now job priority) tt) done is
  step_behaves (Claim now word) done is =
      claim_behaves now word (max now tables.moment) (pick tables (max now tables.moment) word) refl done is
  step_behaves (Report now file attempt outcome) done is = by_keeps (IsReported file) (Report now file attempt outcome)
      (report_behaves tables now file attempt outcome) _
      (report_keeps tables (max now tables.moment) file (row_at tables.rows file) attempt outcome refl) done is
  step_behaves (Ban now storage cancel) done is = by_keeps IsQuiet (Ban now storage cancel) (quiet_behaves tables (Ban now storage cancel)) _
      (asked_keeps tables (Ban now storage cancel) tt) done is
  step_behaves (Unban now storage) done is = by_keeps IsQuiet (Unban now storage) (quiet_behaves tables (Unban now storage)) _
      (asked_keeps tables (Unban now storage) tt) done is
  step_behaves (Expire now) done is = by_keeps IsQuiet (Expire now) (quiet_behaves tables (Expire now)) _
      (expire_keeps tables (max now tables.moment)) done is
