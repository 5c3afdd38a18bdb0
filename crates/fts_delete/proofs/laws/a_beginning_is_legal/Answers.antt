use Rattle.fts_delete.proofs.Beginnings.{beginning_is_legal}
use Rattle.fts_delete.proofs.laws.a_beginning_is_legal.Goals as goal

pub returns : goal.returns
returns c = beginning_is_legal
