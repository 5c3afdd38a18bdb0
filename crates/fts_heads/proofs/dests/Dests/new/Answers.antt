use Rattle.std.proofs.Common.{ap}
use Rattle.fts_heads.proofs.Numbers.{no_numbers}
use Rattle.fts_heads.proofs.dests.Dests.new.Goals as goal

pub returns-clause-numbers : goal.returns-clause-numbers
returns-clause-numbers c = no_numbers _ (ap (λ set. set.keys) c.new.ensures.keys)
