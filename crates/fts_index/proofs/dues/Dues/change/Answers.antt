use Rattle.std.proofs.Common.{true, sym, subst, arith}
use Rattle.fts_index.specs.DueLists.{MayChange}
use Rattle.fts_index.proofs.CountedDues.{in_order, room_after, few_after}
use Rattle.fts_index.specs.Dues.{due_list}
use Rattle.fts_index.proofs.dues.Dues.change.Goals as goal

pub put_in-requires-clause-room : goal.put_in-requires-clause-room
put_in-requires-clause-room c =
    room_after c.args.file c.args.was c.args.is (due_list c.self.inside) c.take_out.new.dues.keys c.take_out.new.dues.room
    (subst (MayChange c.args.file c.args.was c.args.is) (sym c.self.view_is) c.requires.may)
    (omega (arith, c.self.invariant.inside, c.take_out.ensures.room))
    (c.take_out.ensures.counts (λ due. true))

pub invariant_of-self : goal.invariant_of-self
invariant_of-self c = record {
  order = in_order c.put_in.new.dues.keys c.put_in.ensures.order;
  few = few_after c.args.file c.args.was c.args.is (due_list c.self.inside) c.take_out.new.dues.keys c.put_in.new.dues.keys
      (subst (MayChange c.args.file c.args.was c.args.is) (sym c.self.view_is) c.requires.may) c.self.invariant.few
      (c.take_out.ensures.counts (λ due. true)) (c.put_in.ensures.counts (λ due. true));
  inside = omega (arith, c.self.invariant.inside, c.take_out.ensures.room, c.put_in.ensures.room);
  small = omega (arith, c.self.invariant.small, c.take_out.ensures.room, c.put_in.ensures.room);
}
