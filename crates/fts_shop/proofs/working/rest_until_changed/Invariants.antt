-- The rests so far.
use Rattle.fts_tables.specs.Coming.{HasRested}
use Rattle.fts_shop.proofs.working.rest_until_changed.Given as goal

abbrev pub invariant-loop : goal.invariant-loop
invariant-loop g l = HasRested (g.C.Clock.moments l.initial.clock) (g.C.Clock.moments l.clock)
