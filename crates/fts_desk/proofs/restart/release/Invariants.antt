-- The loop that gives up the ACTIVE rows: those before the turn's place are given up and counted, what stands beside is that of the rows, and there is
-- room for each of the others to wait again.
use Rattle.std.proofs.Common.{◌≡◌, ℕ, ◌≤◌, ◌++◌, true, map, take, drop, Some}
use Rattle.std.specs.Prelude.{count_by, slice_get}
use Rattle.fts_tables.specs.Tables.{AreNumberedFrom, is_active}
use Rattle.fts_tables.specs.Step.{released}
use Rattle.fts_tables.specs.declared.rows.FileRow.{FileRow}
use Rattle.fts_desk.specs.Parts.{limits_of, count_active, IsBeside, HasRoomToWait}
use Rattle.fts_desk.proofs.restart.release.Given as goal

abbrev pub invariant-loop-place : goal.invariant-loop-place
invariant-loop-place l = record {
  rows : l.rows ≡ map released (take l.place l.fn.rows) ++ drop l.place l.fn.rows;
  count : l.count ≡ count_by (λ r. is_active r.state) (take l.place l.fn.rows);
  numbered : AreNumberedFrom (λ row. row.id) 1 l.rows;
  beside : IsBeside l.jobs l.rows l.beside;
  limits : limits_of l.beside.parts ≡ limits_of l.fn.beside.parts;
  room : (at : ℕ) (row : FileRow) → l.place ≤ at → slice_get l.fn.rows at ≡ Some row → is_active row.state ≡ true
      → HasRoomToWait (count_active (drop l.place l.fn.rows)) row l.beside.parts;
}
