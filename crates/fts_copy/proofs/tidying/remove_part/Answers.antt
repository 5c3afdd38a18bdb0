-- The part's place is that of the order in the room.
use Rattle.std.proofs.Common.{rules, ◌≡◌, true, sym, subst, Option, Some}
use Rattle.std.specs.Prelude.{IfSome}
use Rattle.fts_store.specs.Store.{place_at}
use Rattle.fts_copy.specs.Copy.{Order}
use Rattle.fts_copy.specs.Tidying.{IsTidied, leaves_part}
use Rattle.fts_copy.proofs.Removed.{part_removed}
use Rattle.fts_copy.proofs.tidying.remove_part.Goals as goal

pub returns-then-may_leave_part-clause-tidied : goal.returns-then-may_leave_part-clause-tidied
returns-then-may_leave_part-clause-tidied g c =
    let loaded : c.args.room.now ≡ Some c.in-Some.order = search rules in
    let leaves : leaves_part c.args.outcome ≡ true = search rules in
    subst (λ (room : Option Order). IfSome room (λ order. IsTidied order c.args.outcome (g.E.Store.state c.args.store.now)
    (g.E.Store.state c.remove-counted.new.self) (g.E.Store.calls c.args.store.now) (g.E.Store.calls c.remove-counted.new.self)
    (g.E.Store.faults c.args.store.now) (g.E.Store.faults c.remove-counted.new.self))) (sym loaded)
    (part_removed c.in-Some.order c.args.outcome (g.E.Store.state c.args.store.now) (g.E.Store.state c.remove-counted.new.self)
    (g.E.Store.calls c.args.store.now) (g.E.Store.calls c.remove-counted.new.self) (g.E.Store.faults c.args.store.now)
    (g.E.Store.faults c.remove-counted.new.self) (place_at c.part.result) c.remove-counted.result c.part.ensures leaves
    c.remove-counted.ensures.stays c.remove-counted.ensures.removed
    c.remove-counted.ensures.others c.remove-counted.ensures.called c.remove-counted.ensures.cause)
