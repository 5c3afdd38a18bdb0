use Rattle.fts_turnstile.proofs.Ends.{starts_as}
use Rattle.fts_turnstile.proofs.turnstile.Turnstile.new.Goals as goal

pub new-requires : goal.new-requires
new-requires g c = starts_as _ _ _ _ _ c.args.value c.in-Ok.ensures.ok c.of-key.ensures
