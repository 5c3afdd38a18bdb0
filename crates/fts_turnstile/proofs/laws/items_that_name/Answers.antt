use Rattle.fts_turnstile.proofs.CallersLaws.{named_law}
use Rattle.fts_turnstile.proofs.laws.items_that_name.Goals as goal

pub returns : goal.returns
returns g c = λ turns n named. named_law g.T.Logged.names turns n named
