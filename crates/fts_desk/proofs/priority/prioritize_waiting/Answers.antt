-- The rows of the job whose files wait anew stand together.
use Rattle.fts_desk.proofs.Hops.{stands_inside}
use Rattle.fts_desk.proofs.priority.prioritize_waiting.Goals as goal

pub prioritize-requires-clause-of_job : goal.prioritize-requires-clause-of_job
prioritize-requires-clause-of_job c = record {
  first = c.requires.together.first;
  inside = c.requires.together.inside;
  others = λ place row at of_job. stands_inside c.args.rows.now c.args.job.now place row c.requires.rows_numbered c.requires.together at of_job;
}
