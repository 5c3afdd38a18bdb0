use Rattle.fts_desk.proofs.Numbered.{stand_together}
use Rattle.fts_desk.proofs.lookups.rows_stand_together.Goals as goal

pub returns : goal.returns
returns c = record { together = stand_together }
