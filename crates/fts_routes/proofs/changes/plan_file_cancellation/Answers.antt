-- The reply shows the file as the cancellation leaves it.
use Rattle.std.proofs.Common.{ap, ◌∙◌, refl, max, List}
use Rattle.fts_tables.specs.Tables.{row_at}
use Rattle.fts_tables.specs.Step.{Outcomes, cancel_file}
use Rattle.fts_tables.specs.declared.rows.FileRow.{FileRow}
use Rattle.fts_tables.specs.declared.rows.JobRow.{JobRow}
use Rattle.fts_routes.specs.Objects.{file_shown, file_object}
use Rattle.fts_routes.specs.Refusals.{shows}
use Rattle.fts_routes.specs.Changes.{file_once_cancelled}
use Rattle.fts_routes.specs.Planned.{ShowsOutcome}
use Rattle.fts_routes.proofs.Changed.{on-job, file-cancelled}
use Rattle.fts_routes.proofs.changes.plan_file_cancellation.Goals as goal

pub returns : goal.returns
returns c = record {
  same = refl;
  outcome = on-job c.args.desk.now.tables c.args.job.now
      (λ (found : JobRow). cancel_file c.args.desk.now.tables (max c.args.now c.args.desk.now.tables.moment) found (row_at c.args.desk.now.tables.rows c.args.row.now.id))
      (λ (outcome : Outcomes). ShowsOutcome (file_shown c.args.row.now.id) c.args.desk.now.tables c.in_ok-reply.reply outcome) c.requires.number
      (file-cancelled c.args.desk.now.tables (max c.args.now c.args.desk.now.tables.moment) c.args.job.now c.args.row.now c.in_ok-reply.reply c.requires.id c.requires.own
      (c.in_ok-reply.ensures ∙ ap (λ (row : FileRow). shows (file_object row))
      (c.cancel_step-step.ensures ∙ ap (λ (rows : List FileRow). file_once_cancelled c.args.job.now.kind rows c.args.row.now) c.job_rows.ensures.rows)));
  in_range = refl;
}
