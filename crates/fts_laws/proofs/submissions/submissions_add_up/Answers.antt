use Rattle.fts_laws.proofs.SubmissionLists.{submissions-append}
use Rattle.fts_laws.proofs.submissions.submissions_add_up.Goals as goal

pub returns : goal.returns
returns c = record { sum = λ entries more id. submissions-append entries more id }
