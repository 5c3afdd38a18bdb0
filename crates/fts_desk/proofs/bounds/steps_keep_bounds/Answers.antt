use Rattle.fts_desk.proofs.Bounded.{bounds_kept}
use Rattle.fts_desk.proofs.bounds.steps_keep_bounds.Goals as goal

pub returns : goal.returns
returns c = record { bounds = bounds_kept }
