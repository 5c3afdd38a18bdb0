-- By the events, one after the other.
use Rattle.fts_client.proofs.HeardRuns.{knows}
use Rattle.fts_client.proofs.worlds.the_client_knows_what_it_heard.Goals as goal

pub returns : goal.returns
returns g c = λ protocol world events. knows protocol events world
