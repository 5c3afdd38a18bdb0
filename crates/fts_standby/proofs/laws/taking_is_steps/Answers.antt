use Rattle.fts_standby.proofs.Taking.{taking_is_steps}
use Rattle.fts_standby.proofs.laws.taking_is_steps.Goals as goal

pub returns : goal.returns
returns c = taking_is_steps
