use Rattle.fts_delete.proofs.Moving.{rows_move_on}
use Rattle.fts_delete.proofs.laws.rows_move_on.Goals as goal

pub returns : goal.returns
returns c = rows_move_on
