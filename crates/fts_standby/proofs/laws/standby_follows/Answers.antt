use Rattle.fts_standby.proofs.Prefixes.{follows_always}
use Rattle.fts_standby.proofs.laws.standby_follows.Goals as goal

pub returns : goal.returns
returns c = follows_always
