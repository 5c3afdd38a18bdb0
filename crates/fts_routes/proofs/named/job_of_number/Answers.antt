-- The job of a number has that number.
use Rattle.std.proofs.Common.{◌∙◌}
use Rattle.fts_tables.specs.declared.rows.JobRow.{JobRow}
use Rattle.fts_routes.proofs.Numbered.{number-again}
use Rattle.fts_routes.proofs.named.job_of_number.Goals as goal

pub returns-clause-job : goal.returns-clause-job
returns-clause-job c = c.copied.ensures ∙ c.job.ensures.job

pub returns-clause-again : goal.returns-clause-again
returns-clause-again c = number-again (λ (job : JobRow). job.number) c.args.desk.now.tables.jobs c.args.number c.copied.result
    c.standing.ensures.standing.formed.jobs (returns-clause-job c)
