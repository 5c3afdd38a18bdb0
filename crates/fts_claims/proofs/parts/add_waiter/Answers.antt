use Rattle.std.proofs.Common.{Ok, ap, arith}
use Rattle.fts_tables.specs.declared.names.Memory.{Memory}
use Rattle.fts_line.specs.LineData.{LineData}
use Rattle.fts_claims.proofs.RaisedRooms.{room_there}
use Rattle.fts_claims.proofs.parts.add_waiter.Goals as goal

pub insert-requires-clause-queue : goal.insert-requires-clause-queue
insert-requires-clause-queue c =
    omega (
      arith,
      room_there c.rooms_are_raised.ensures.raised c.rooms_are_raised.ensures.others {Error = Memory} (Ok c.in_ok-make_room.field-0) c.args.line.now.waiting
          c.make_room.new.self.waiting c.args.waiter.link c.args.waiter.activity 1 c.files_wait_in_order.ensures.waiting
          (ap (λ (line : LineData). line.waiting) c.in_ok-make_room.ensures.ok),
    )
