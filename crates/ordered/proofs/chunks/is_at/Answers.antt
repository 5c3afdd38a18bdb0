use Rattle.std.proofs.Common.{ap, sym, ◌∙◌}
use Rattle.std.specs.Prelude.{not}
use Rattle.ordered.specs.Chunks.{joined}
use Rattle.ordered.proofs.Lists.{has_found, has_not_found}
use Rattle.ordered.proofs.Places.{found_at}
use Rattle.ordered.proofs.chunks.is_at.Goals as goal

pub returns-in-Some : goal.returns-in-Some
returns-in-Some g c = record {
  answer = ap not c.is_before.ensures.answer
      ∙ sym (has_found g.K.Key.before g.met.K.Key.order c.args.key.now c.in-Some.found (joined c.args.chunks.now) c.requires.order
      (found_at g.K.Key.before g.met.K.Key.order c.args.key.now c.args.chunks.now c.args.spot.chunk c.args.spot.at c.requires.chunk c.requires.gap
      ∙ (sym c.key_at.ensures.key ∙ c.in-Some.is)));
}

pub returns-in-None : goal.returns-in-None
returns-in-None g c = record {
  answer = sym (has_not_found g.K.Key.before g.met.K.Key.order c.args.key.now (joined c.args.chunks.now)
      (found_at g.K.Key.before g.met.K.Key.order c.args.key.now c.args.chunks.now c.args.spot.chunk c.args.spot.at c.requires.chunk c.requires.gap
      ∙ (sym c.key_at.ensures.key ∙ c.in-None.is)));
}
