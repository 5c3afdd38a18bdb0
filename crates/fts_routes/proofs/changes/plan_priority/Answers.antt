-- The reply shows the job as the priority leaves it.
use Rattle.std.proofs.Common.{ap, ◌∙◌, refl, max, ℕ}
use Rattle.fts_tables.specs.Step.{Outcomes, set_priority, with_priority}
use Rattle.fts_tables.specs.declared.rows.JobState.{JobState}
use Rattle.fts_tables.specs.declared.rows.JobRow.{JobRow}
use Rattle.fts_routes.specs.Objects.{job_shown, job_in_state, settings_in, state_in}
use Rattle.fts_routes.specs.Refusals.{shows}
use Rattle.fts_routes.specs.Changes.{priority_once_set}
use Rattle.fts_routes.specs.Planned.{ShowsOutcome}
use Rattle.fts_routes.proofs.Changed.{on-job, job-prioritized}
use Rattle.fts_routes.proofs.changes.plan_priority.Goals as goal

pub returns : goal.returns
returns c = record {
  same = refl;
  outcome = on-job c.args.desk.now.tables c.args.job.now (λ (found : JobRow). set_priority c.args.desk.now.tables (max c.args.now c.args.desk.now.tables.moment) found c.args.priority)
      (λ (outcome : Outcomes). ShowsOutcome (job_shown c.args.job.now.number) c.args.desk.now.tables c.in_ok-reply.reply outcome) c.requires.number
      (job-prioritized c.args.desk.now.tables (max c.args.now c.args.desk.now.tables.moment) c.args.job.now c.args.priority c.in_ok-reply.reply c.requires.number
      (c.in_ok-reply.ensures
      ∙ (ap (λ (state : JobState). shows (job_in_state (settings_in c.args.desk.now.tables).vo state (with_priority c.priority_once_set-shown.result c.args.job.now))) c.state_of.ensures
      ∙ ap (λ (priority : ℕ). shows (job_in_state (settings_in c.args.desk.now.tables).vo (state_in c.args.desk.now.tables c.args.job.now) (with_priority priority c.args.job.now)))
      (c.priority_once_set-shown.ensures ∙ ap (priority_once_set c.args.job.now.priority c.args.priority) c.job_rows-rows.ensures.rows))));
  in_range = c.requires.priority;
}
