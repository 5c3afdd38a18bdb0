use Rattle.fts_delete.proofs.Leaving.{pass_leaves_files}
use Rattle.fts_delete.proofs.laws.a_pass_leaves_files.Goals as goal

pub returns : goal.returns
returns c start = pass_leaves_files _ _
