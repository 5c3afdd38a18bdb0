use Rattle.std.proofs.Common.{◌<◌, ap, sym, ◌∙◌, arith}
use Rattle.std.specs.Prelude.{find, ◌==◌}
use Rattle.ordered.specs.Orders.{KeySet}
use Rattle.fts_heads.specs.declared.ripe_file.RipeFile.{RipeFile}
use Rattle.fts_heads.specs.declared.heads.TheConstants.{MOST_DESTS}
use Rattle.fts_heads.proofs.Leasts.{first_without, none_without, empty_without}
use Rattle.fts_heads.proofs.crowd.Crowd.first_without_dest.Goals as goal

pub returns-then-found : goal.returns-then-found
returns-then-found c = record {
  first = first_without c.self.inside.own.items c.self.inside.rest.keys c.self.invariant.0.few c.len.ensures.order c.self.invariant.0.apart c.in-Some.found
      (sym c.first.ensures.key ∙ c.in-Some.is) c.if-found.true
      ∙ ap (λ (set : KeySet RipeFile). find (λ file. file.dest == MOST_DESTS) set.keys) c.self.view_is;
}

pub returns-else-found : goal.returns-else-found
returns-else-found c = record {
  first = none_without c.self.inside.own.items c.self.inside.rest.keys c.self.invariant.0.few c.len.ensures.order c.self.invariant.0.apart c.in-Some.found
      (sym c.first.ensures.key ∙ c.in-Some.is) less
      ∙ ap (λ (set : KeySet RipeFile). find (λ file. file.dest == MOST_DESTS) set.keys) c.self.view_is;
}
  where
    less : c.in-Some.found.dest < MOST_DESTS
    less = omega (arith, c.if-found.false)

pub returns-in-None : goal.returns-in-None
returns-in-None c = record {
  first = empty_without c.self.inside.own.items c.self.inside.rest.keys c.self.invariant.0.few c.len.ensures.order c.self.invariant.0.apart
      (sym c.first.ensures.key ∙ c.in-None.is)
      ∙ ap (λ (set : KeySet RipeFile). find (λ file. file.dest == MOST_DESTS) set.keys) c.self.view_is;
}
