use Rattle.fts_tables.specs.Tables.{empty_tables}
use Rattle.fts_laws.proofs.SubmissionLists.{one_at_most}
use Rattle.fts_laws.proofs.submissions.one_submission_an_id.Goals as goal

pub returns : goal.returns
returns c = record { one = λ entries id legal. one_at_most entries empty_tables id legal }
