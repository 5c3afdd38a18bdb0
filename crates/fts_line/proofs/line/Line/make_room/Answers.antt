use Rattle.std.proofs.Common.{◌≡◌, ◌+◌, List, length, ap, sym, ◌∙◌, subst, arith}
use Rattle.fts_queue.specs.declared.rooms.QueueRoom.{QueueRoom}
use Rattle.fts_queue.specs.WaitingData.{AreWaiting, with_room}
use Rattle.fts_queue.proofs.QueueRooms.{waiting_raised}
use Rattle.fts_line.specs.LineData.{LineData}
use Rattle.fts_line.specs.Keys.{waiters_of}
use Rattle.fts_line.specs.Line.{waiting_of}
use Rattle.fts_line.specs.contracts.line.Line.{the_view}
use Rattle.fts_line.proofs.Lines.{as_many}
use Rattle.fts_line.proofs.line.Line.make_room.Goals as goal

pub invariant_of-self-2 : goal.invariant_of-self-2
invariant_of-self-2 c =
    let inside = c.self.inside in
    let line = c.self.invariant in
    let rooms : c.raise.new.rooms.items ≡ with_room c.args.link c.args.activity c.in-Some.wanted inside.rooms.items =
    c.raise.ensures.rooms ∙ ap (with_room c.args.link c.args.activity c.in-Some.wanted) c.in_ok-reserve.ensures.items in
    record {
      keys = line.keys;
      due = line.due;
      waiting = subst (λ (some : List QueueRoom). AreWaiting (waiting_of inside.heads inside.rests.items some inside.moment)) (sym rooms)
          (waiting_raised (waiting_of inside.heads inside.rests.items inside.rooms.items inside.moment) c.args.link c.args.activity c.in-Some.wanted line.waiting);
      rows = line.rows;
    }

pub returns-clause-ok : goal.returns-clause-ok
returns-clause-ok c =
    let inside = c.self.inside in
    let wanted : c.in-Some.wanted ≡ length (waiters_of inside.rests.items inside.heads.files) + c.args.more =
    omega (arith, c.in-Some.ensures, c.len.ensures.len, as_many inside.rests.items inside.heads.files) in
    ap (λ (rooms : List QueueRoom). record (the_view inside) { waiting = waiting_of inside.heads inside.rests.items rooms inside.moment })
    (c.raise.ensures.rooms
    ∙ (ap (with_room c.args.link c.args.activity c.in-Some.wanted) c.in_ok-reserve.ensures.items
    ∙ ap (λ n. with_room c.args.link c.args.activity n inside.rooms.items) wanted))
    ∙ ap (λ (view : LineData). record view {
      waiting = record view.waiting { rooms = with_room c.args.link c.args.activity (length view.waiting.waiters + c.args.more) view.waiting.rooms };
    }) c.self.view_is
