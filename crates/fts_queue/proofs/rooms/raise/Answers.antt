use Rattle.std.proofs.Common.{◌≡◌, ◌<◌, ◌∙◌, sym, ap, length, arith, cond, set, Bool, List}
use Rattle.std.specs.Prelude.{insert}
use Rattle.std.specs.List.{prefix_len}
use Rattle.fts_queue.specs.declared.rooms.QueueRoom.{QueueRoom}
use Rattle.fts_queue.specs.WaitingData.{is_queue_before, is_room_of}
use Rattle.fts_queue.proofs.QueueRooms.{new_room}
use Rattle.fts_queue.proofs.Places.{raised_here, comes_in_here, get_or_any}
use Rattle.fts_queue.proofs.rooms.raise.Goals as goal
use Rattle.fts_queue.proofs.rooms.raise.Goals.{else-place-len-via-then-place-len+else-is_room_of, else-place-len-via-else-place-len}

pub returns-then-is_room_of : goal.returns-then-is_room_of
returns-then-is_room_of c =
    let here : QueueRoom = c.index_mut-room.result.now in
    let rooms : List QueueRoom = c.args.rooms.now.items in
    let at = c.place_of-place.ensures.place
    ∙ ap (prefix_len (λ (room : QueueRoom). is_queue_before room.link room.activity c.args.link c.args.activity)) c.as_slice.ensures.value in
    let inside : c.place_of-place.result < length rooms = omega (arith, c.as_slice.ensures.len, ap length c.as_slice.ensures.value) in
    let same : c.index.result.now ≡ here =
    c.index.ensures ∙ (get_or_any rooms c.place_of-place.result c.index.result.now here inside ∙ sym c.index_mut-room.ensures.value) in
    record {
      rooms =
          ap (λ room. set rooms c.place_of-place.result (record here { room = room })) c.max-room.ensures
          ∙ raised_here c.args.link c.args.activity c.args.wanted rooms c.place_of-place.result here at c.index_mut-room.ensures.value inside
          (ap (is_room_of c.args.link c.args.activity) (sym same) ∙ (sym c.is_room_of.ensures.answer ∙ c.if-is_room_of.true));
    }

pub returns-else-place-len : goal.returns-else-place-len
returns-else-place-len c =
    let rooms : List QueueRoom = c.args.rooms.now.items in
    let at = c.place_of-place.ensures.place
    ∙ ap (prefix_len (λ (room : QueueRoom). is_queue_before room.link room.activity c.args.link c.args.activity)) c.as_slice.ensures.value in
    let ok = c.insert.ensures.succeeds c.requires.memory in
    record {
      rooms =
          c.insert.ensures.items
          ∙ (ap (λ (test : Bool). cond test (insert rooms c.place_of-place.result (new_room c.args.link c.args.activity c.args.wanted)) rooms) ok
          ∙ comes_in_here c.args.link c.args.activity c.args.wanted rooms c.place_of-place.result (new_room c.args.link c.args.activity 0) at
          (elim c.else-place-len.branch [
            | else-place-len-via-then-place-len+else-is_room_of w ↦ λ inside.
                ap (is_room_of c.args.link c.args.activity)
                (get_or_any rooms c.place_of-place.result (new_room c.args.link c.args.activity 0) w.index.result.now inside ∙ sym w.index.ensures)
                ∙ (sym w.is_room_of.ensures.answer ∙ w.if-is_room_of.false)
            | else-place-len-via-else-place-len w ↦ λ inside.
                absurd (omega (arith, c.as_slice.ensures.len, ap length c.as_slice.ensures.value, c.len.ensures, w.if-place-len.false))
          ]));
    }
