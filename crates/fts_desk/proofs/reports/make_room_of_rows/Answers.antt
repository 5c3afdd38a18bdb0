-- One row more has room, and the others have it still.
use Rattle.std.proofs.Common.{◌≡◌, Some, ◌∙◌, subst, arith, below_more}
use Rattle.std.specs.Prelude.{slice_get}
use Rattle.std.proofs.lemmas.Option.{slice_get_within, get_or_from_slice_get}
use Rattle.fts_tables.specs.declared.rows.FileRow.{FileRow}
use Rattle.fts_desk.specs.Parts.{HasRoomToWait}
use Rattle.fts_desk.proofs.RowsBeside.{risen_twice, risen_room}
use Rattle.fts_desk.proofs.reports.make_room_of_rows.Goals as goal

pub loop-row-preserved : goal.loop-row-preserved
loop-row-preserved c =
    let rows = c.args.rows.now in
    let index = c.loop-row.row-index in
    let old = c.loop-row.parts in
    let new = c.make_room_to_wait.new.parts in
    let risen = c.make_room_to_wait.ensures.risen in
    record {
      risen = risen_twice c.args.parts.now old new c.loop-row.invariant.risen risen;
      room = below_more (λ place. (row : FileRow) → slice_get rows place ≡ Some row → HasRoomToWait 2 row new) index
          (λ place below row at. risen_room 2 row old new risen (c.loop-row.invariant.room place below row at))
          (λ row at. subst (λ (other : FileRow). HasRoomToWait 2 other new)
          (c.row-item.is ∙ get_or_from_slice_get rows index row c.row-item.result at) c.in_ok-make_room_to_wait.ensures.room);
    }

pub returns-clause-room : goal.returns-clause-room
returns-clause-room c = λ place row at.
    c.loop-row.invariant.room place (omega (arith, slice_get_within c.args.rows.now place row at, c.loop-row-test.false)) row at
