-- The loop that puts keys into the set.
use Rattle.std.proofs.Common.{take}
use Rattle.fts_config.specs.Distinct.{IsDistinct}
use Rattle.fts_config.proofs.distinct.distinct_keys.Given as goal

-- the items so far are distinct, and the set has their keys
abbrev pub invariant-loop-item : goal.invariant-loop-item
invariant-loop-item g l = IsDistinct g.T.Keyed.key g.T.Keyed.proper (take l.item-index l.items) l.keys
