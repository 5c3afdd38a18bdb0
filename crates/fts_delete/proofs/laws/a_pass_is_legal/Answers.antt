use Rattle.fts_delete.proofs.Passing.{pass_is_legal}
use Rattle.fts_delete.proofs.laws.a_pass_is_legal.Goals as goal

pub returns : goal.returns
returns c = pass_is_legal
