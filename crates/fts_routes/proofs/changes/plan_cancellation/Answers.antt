-- The reply shows the job as the cancellation leaves it.
use Rattle.std.proofs.Common.{ap, ◌∙◌, refl, max}
use Rattle.fts_tables.specs.Step.{Outcomes, cancel_rows, with_priority}
use Rattle.fts_tables.specs.declared.rows.JobState.{JobState}
use Rattle.fts_routes.specs.Objects.{job_shown, job_in_state, settings_in}
use Rattle.fts_routes.specs.Refusals.{shows}
use Rattle.fts_routes.specs.Changes.{state_once_cancelled}
use Rattle.fts_routes.specs.Planned.{ShowsOutcome}
use Rattle.fts_routes.proofs.Changed.{on-job, job-cancelled}
use Rattle.fts_routes.proofs.changes.plan_cancellation.Goals as goal

pub returns : goal.returns
returns c = record {
  same = refl;
  outcome = on-job c.args.desk.now.tables c.args.job.now (cancel_rows c.args.desk.now.tables (max c.args.now c.args.desk.now.tables.moment))
      (λ (outcome : Outcomes). ShowsOutcome (job_shown c.args.job.now.number) c.args.desk.now.tables c.in_ok-reply.reply outcome) c.requires.number
      (job-cancelled c.args.desk.now.tables (max c.args.now c.args.desk.now.tables.moment) c.args.job.now c.state_of.result c.in_ok-reply.reply c.requires.number
      c.state_of.ensures
      (c.in_ok-reply.ensures ∙ ap (λ (state : JobState). shows (job_in_state (settings_in c.args.desk.now.tables).vo state (with_priority c.args.job.now.priority c.args.job.now)))
      (c.state_once_cancelled-state.ensures ∙ ap (state_once_cancelled c.state_of.result) c.job_rows-rows.ensures.rows)));
  in_range = refl;
}
