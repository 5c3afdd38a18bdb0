-- One row more has room where it is ACTIVE, and the others have it still.
use Rattle.std.proofs.Common.{◌≡◌, Some, true, ◌∙◌, subst, arith, below_more}
use Rattle.std.specs.Prelude.{slice_get}
use Rattle.std.proofs.lemmas.Option.{slice_get_within, get_or_from_slice_get}
use Rattle.fts_tables.specs.Tables.{is_active}
use Rattle.fts_tables.specs.declared.rows.FileRow.{FileRow}
use Rattle.fts_desk.specs.Parts.{HasRoomToWait}
use Rattle.fts_desk.proofs.RowsBeside.{risen_twice, risen_room}
use Rattle.fts_desk.proofs.restart.make_room_to_release.Goals as goal

pub loop-row-preserved : goal.loop-row-preserved
loop-row-preserved c =
    let rows = c.args.rows.now in
    let index = c.loop-row.row-index in
    let count = c.count_active-count.result in
    let old = c.loop-row.parts in
    let new = c.make_room_if_active.new.parts in
    let risen = c.make_room_if_active.ensures.risen in
    record {
      risen = risen_twice c.args.parts.now old new c.loop-row.invariant.risen risen;
      room = below_more (λ place. (row : FileRow) → slice_get rows place ≡ Some row → is_active row.state ≡ true → HasRoomToWait count row new) index
          (λ place below row at active. risen_room count row old new risen (c.loop-row.invariant.room place below row at active))
          (λ row at. subst (λ (other : FileRow). is_active other.state ≡ true → HasRoomToWait count other new)
          (c.row-item.is ∙ get_or_from_slice_get rows index row c.row-item.result at) c.in_ok-make_room_if_active.ensures.room);
    }

pub returns-in_err-make_room_if_active-clause-risen : goal.returns-in_err-make_room_if_active-clause-risen
returns-in_err-make_room_if_active-clause-risen c =
    risen_twice c.args.parts.now c.loop-row.parts c.make_room_if_active.new.parts c.loop-row.invariant.risen c.make_room_if_active.ensures.risen

pub returns-clause-room : goal.returns-clause-room
returns-clause-room c = λ place row at active.
    subst (λ count. HasRoomToWait count row c.loop-row.parts) c.count_active-count.ensures.count
    (c.loop-row.invariant.room place (omega (arith, slice_get_within c.args.rows.now place row at, c.loop-row-test.false)) row at active)
