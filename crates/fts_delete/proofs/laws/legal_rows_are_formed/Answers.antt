use Rattle.fts_delete.proofs.Forming.{legal_rows_are_formed}
use Rattle.fts_delete.proofs.laws.legal_rows_are_formed.Goals as goal

pub returns : goal.returns
returns c = legal_rows_are_formed
