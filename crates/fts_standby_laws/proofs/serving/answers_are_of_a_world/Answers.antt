use Rattle.fts_standby_laws.proofs.ServedWorlds.{world_with}
use Rattle.fts_standby_laws.proofs.FollowedService.{world_of}
use Rattle.fts_standby_laws.proofs.serving.answers_are_of_a_world.Goals as goal

pub returns : goal.returns
returns c = λ early primary standby requests served begins short answered. (
  world_with primary standby,
  world_of c.what_is_spelled_is_read.ensures.read c.taking_is_steps.ensures early primary standby requests served begins short answered,
)
