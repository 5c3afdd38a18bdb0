use Rattle.fts_index.proofs.DueRows.{same_done, more_done, alike_done}
use Rattle.fts_index.proofs.laws.dues_of_other_jobs.Goals as goal

pub returns : goal.returns
returns c = record { same = same_done; more = more_done; alike = alike_done }
