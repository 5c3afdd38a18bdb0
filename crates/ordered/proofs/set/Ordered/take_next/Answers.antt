use Rattle.std.proofs.Common.{◌≡◌, true, ap, ◌∙◌}
use Rattle.ordered.specs.Orders.{KeySet, has_key}
use Rattle.ordered.specs.Chunks.{joined}
use Rattle.ordered.proofs.Kept.{kept_without}
use Rattle.ordered.proofs.set.Ordered.take_next.Goals as goal

pub invariant_of-self : goal.invariant_of-self
invariant_of-self g c =
    let there : has_key g.K.Key.before c.args.key.now (joined c.self.inside.chunks.items) ≡ true =
    ap (λ (set : KeySet g.row.K.Denot). has_key g.K.Key.before c.args.key.now set.keys) c.self.view_is ∙ c.requires.there in
    kept_without g.K.Key.before g.met.K.Key.order c.args.key.now _ _ _ _ _ _ _ _ _ _ c.self.invariant there c.take_out-next.ensures.keys c.take_out-next.ensures.fit
    c.take_out-next.ensures.whole c.take_out-next.ensures.capacity c.take_out-next.ensures.spare_capacity
