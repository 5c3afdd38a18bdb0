use Rattle.std.proofs.Common.{arith}
use Rattle.fts_tables.specs.Tables.{empty_tables}
use Rattle.fts_laws.proofs.SubmissionLists.{jobs_submitted, jobs_submitted_least}
use Rattle.fts_laws.proofs.submissions.jobs_are_those_submitted.Goals as goal

pub returns : goal.returns
returns c = record {
  jobs = λ entries id legal other. let sum = jobs_submitted entries empty_tables id other legal in omega (arith, sum);
  some = λ entries id legal. let sum = jobs_submitted_least entries empty_tables id legal in omega (arith, sum);
}
