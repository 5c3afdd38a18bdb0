use Rattle.std.proofs.Common.{refl, sym}
use Rattle.ordered.proofs.Kept.{kept_without}
use Rattle.ordered.proofs.set.Ordered.take.Goals as goal

pub invariant_of-self : goal.invariant_of-self
invariant_of-self g c =
    kept_without g.K.Key.before g.met.K.Key.order c.args.key.now _ _ _ _ _ _ _ _ _ _ c.self.invariant (sym c.if-is_there.ensures.answer)
    (c.if-is_there.ensures.keys refl) c.take_if_there-is_there.ensures.fit c.take_if_there-is_there.ensures.whole c.take_if_there-is_there.ensures.capacity
    c.take_if_there-is_there.ensures.spare_capacity
