-- Only rooms have risen, and each row so far has room.
use Rattle.std.proofs.Common.{◌≡◌, ℕ, ◌<◌, Some}
use Rattle.std.specs.Prelude.{slice_get}
use Rattle.fts_tables.specs.declared.rows.FileRow.{FileRow}
use Rattle.fts_desk.specs.Parts.{HasRoomToWait, HaveRisenRooms}
use Rattle.fts_desk.proofs.reports.make_room_of_rows.Given as goal

abbrev pub invariant-loop-row : goal.invariant-loop-row
invariant-loop-row l = record {
  risen : HaveRisenRooms l.fn.parts l.parts;
  room : (place : ℕ) → place < l.row-index → (row : FileRow) → slice_get l.rows place ≡ Some row → HasRoomToWait 2 row l.parts;
}
