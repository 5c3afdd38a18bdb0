use Rattle.fts_laws.proofs.Picks.{idle_where_none, none_earlier, none_where_idle}
use Rattle.fts_laws.proofs.idle.idle_claims_find_none.Goals as goal

pub returns : goal.returns
returns c = record { none = none_where_idle; earlier = none_earlier; idle = idle_where_none }
