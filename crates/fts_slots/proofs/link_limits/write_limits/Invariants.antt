use Rattle.std.proofs.Common.{◌-◌, drop, length}
use Rattle.fts_slots.specs.LinkLimits.{AreLimits}
use Rattle.fts_slots.proofs.link_limits.write_limits.Given as goal

abbrev pub invariant-loop-behind : goal.invariant-loop-behind
invariant-loop-behind l = record {
  limits : AreLimits (record l.settings { links = drop (length l.settings.links - l.behind) l.settings.links }) l.limits;
}
