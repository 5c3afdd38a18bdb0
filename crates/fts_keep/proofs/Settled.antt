-- Settings, once they are in force, stay so: a Restart puts others in their place, and no other command touches them.
use Rattle.std.proofs.Common.{◌≡◌, refl, subst, ℕ, List, Bool, true, false, if◌then◌else◌, Option, Some, None, IsSome, rules, arith, option_and_then, max, Ok, Err}
use Rattle.fts_tables.specs.JobData.{JobData}
use Rattle.fts_tables.specs.Tables.{Tables, job_at, row_at, number_of_id}
use Rattle.fts_tables.specs.Step.{Outcomes, step, submit_by, cancel_rows, cancel_row, cancel_one, cancel_file, set_priority, claim, report, report_of, ban, unban, expire}
use Rattle.fts_tables.specs.declared.rows.FileRow.{FileRow}
use Rattle.fts_tables.specs.declared.rows.JobRow.{JobRow}
use Rattle.fts_tables.specs.declared.rows.JobKind.{JobKind}
use Rattle.fts_tables.specs.declared.rows.JobKind.TheVariants.{Plain, Replica, Multihop}
use Rattle.fts_tables.specs.declared.rows.Outcome.{Outcome}
use Rattle.fts_tables.specs.declared.commands.Command.{Command}
use Rattle.fts_tables.specs.declared.commands.Command.TheVariants.{Restart, Submit, CancelJob, CancelFile, SetPriority, Claim, Report, Ban, Unban, Expire}
use Rattle.fts_tables.specs.declared.commands.Answer.{Answer}
use Rattle.fts_tables.specs.declared.commands.Refusal.TheVariants.{NoJob}
use Rattle.fts_tables.specs.Choice.{pick}

-- settings are in force after what comes of a command
HasSettings : Outcomes → Type 0
HasSettings (Ok done) = IsSome done.0.settings
HasSettings (Err refusal) = Unit {0}

-- of either
either : (b : Bool) (one other : Outcomes) → HasSettings one → HasSettings other → HasSettings (if b then one else other)
either true one other first second = first
either false one other first second = second

module _ (tables : Tables) (some : IsSome tables.settings) (now : ℕ) where
  of_rows : (job : JobRow) → HasSettings (cancel_rows tables now job)
  unfolding HasSettings
  of_rows job = search (rules, either, some)

  of_row : (job : JobRow) (row : FileRow) → HasSettings (cancel_row tables now job row)
  unfolding HasSettings
  of_row job row = grind (arith, some)

  of_one : (job : JobRow) (row : FileRow) (kind : JobKind) → HasSettings (cancel_one tables now job row kind)
  of_one job row Plain = of_row job row
  of_one job row Replica = of_rows job
  of_one job row Multihop = of_rows job

  of_file : (job : JobRow) (found : Option FileRow) → HasSettings (cancel_file tables now job found)
  unfolding HasSettings
  of_file job None = tt
  of_file job (Some row) = let one = of_one job row job.kind in search (rules, either, one)

  of_priority : (job : JobRow) (priority : ℕ) → HasSettings (set_priority tables now job priority)
  unfolding HasSettings
  of_priority job priority = search (rules, either, some)

  of_submission : (found : Option ℕ) (new : JobData) → HasSettings (submit_by found tables now new)
  unfolding HasSettings
  of_submission (Some number) new = tt
  of_submission None new = search (rules, either, some)

  of_claim : (picked : Option FileRow) → HasSettings (claim tables now picked)
  unfolding HasSettings
  of_claim None = tt
  of_claim (Some row) = some

  of_report_of : (row : FileRow) (attempt : ℕ) (outcome : Outcome) (job : Option JobRow) → HasSettings (report_of tables now row attempt outcome job)
  unfolding HasSettings
  of_report_of row attempt outcome None = tt
  of_report_of row attempt outcome (Some job) = search (rules, either, some)

  of_report : (row : Option FileRow) (attempt : ℕ) (outcome : Outcome) → HasSettings (report tables now row attempt outcome)
  unfolding HasSettings
  of_report None attempt outcome = tt
  of_report (Some row) attempt outcome = of_report_of row attempt outcome (job_at tables.jobs row.job)

  of_ban : (storage : List ℕ) (cancel : Bool) → HasSettings (ban tables now storage cancel)
  unfolding HasSettings
  of_ban storage true = search (rules, either, some)
  of_ban storage false = search (rules, either, some)

  of_unban : (storage : List ℕ) → HasSettings (unban tables now storage)
  unfolding HasSettings
  of_unban storage = search (rules, either, some)

  of_expiry : HasSettings (expire tables now)
  unfolding HasSettings
  of_expiry = search (rules, either, some)

  of_job : (found : Option JobRow) (act : JobRow → Outcomes) → ((job : JobRow) → HasSettings (act job))
      → HasSettings (elim found [ None ↦ Err NoJob | Some job ↦ act job ])
  unfolding HasSettings
  of_job None act each = tt
  of_job (Some job) act each = each job

-- after each command
of_step : (tables : Tables) → IsSome tables.settings → (command : Command) → HasSettings (step tables command)
unfolding HasSettings
of_step tables some (Restart now settings) = refl
of_step tables some (Submit now job) = of_submission tables some (max now tables.moment) (option_and_then (number_of_id tables.jobs) job.id) job
of_step tables some (CancelJob now job) = of_job tables some (max now tables.moment) (job_at tables.jobs job) (cancel_rows tables (max now tables.moment))
    (of_rows tables some (max now tables.moment))
of_step tables some (CancelFile now job file) =
    of_job tables some (max now tables.moment) (job_at tables.jobs job) (λ found. cancel_file tables (max now tables.moment) found (row_at tables.rows file))
    (λ found. of_file tables some (max now tables.moment) found (row_at tables.rows file))
of_step tables some (SetPriority now job priority) =
    of_job tables some (max now tables.moment) (job_at tables.jobs job) (λ found. set_priority tables (max now tables.moment) found priority)
    (λ found. of_priority tables some (max now tables.moment) found priority)
of_step tables some (Claim now word) = of_claim tables some (max now tables.moment) (pick tables (max now tables.moment) word)
of_step tables some (Report now file attempt outcome) = of_report tables some (max now tables.moment) (row_at tables.rows file) attempt outcome
of_step tables some (Ban now storage cancel) = of_ban tables some (max now tables.moment) storage cancel
of_step tables some (Unban now storage) = of_unban tables some (max now tables.moment) storage
of_step tables some (Expire now) = of_expiry tables some (max now tables.moment)

-- settings in force stay so
pub settings_stay : (tables after : Tables) (command : Command) (answer : Answer) → IsSome tables.settings → step tables command ≡ Ok (after, answer)
    → IsSome after.settings
unfolding HasSettings
settings_stay tables after command answer some is = subst HasSettings is (of_step tables some command)
