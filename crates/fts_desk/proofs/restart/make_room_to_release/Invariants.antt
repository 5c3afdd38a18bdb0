-- The rows passed have room where they are ACTIVE, and only rooms have risen.
use Rattle.std.proofs.Common.{◌≡◌, ℕ, ◌<◌, Some, true}
use Rattle.std.specs.Prelude.{slice_get}
use Rattle.fts_tables.specs.Tables.{is_active}
use Rattle.fts_tables.specs.declared.rows.FileRow.{FileRow}
use Rattle.fts_desk.specs.Parts.{HasRoomToWait, HaveRisenRooms}
use Rattle.fts_desk.proofs.restart.make_room_to_release.Given as goal

abbrev pub invariant-loop-row : goal.invariant-loop-row
invariant-loop-row l = record {
  room : (place : ℕ) → place < l.row-index → (row : FileRow) → slice_get l.rows place ≡ Some row → is_active row.state ≡ true
      → HasRoomToWait l.count row l.parts;
  risen : HaveRisenRooms l.fn.parts l.parts;
}
