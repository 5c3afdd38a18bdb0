use Rattle.fts_delete.proofs.Passing.{pass_names_each_once}
use Rattle.fts_delete.proofs.laws.a_pass_names_each_once.Goals as goal

pub returns : goal.returns
returns c = pass_names_each_once
