use Rattle.std.proofs.Common.{◌≡◌, ◌≤◌, length, take, vec_capacity}
use Rattle.std.specs.Prelude.{map}
use Rattle.fts_board.specs.Tallied.{going_of}
use Rattle.fts_board.proofs.goings.goings_of.Given as goal

abbrev pub invariant-loop-row : goal.invariant-loop-row
invariant-loop-row l = record {
  goings : l.goings.items ≡ map (going_of l.endpoints) (take l.row-index l.rows);
  room : length l.rows ≤ vec_capacity l.goings;
  last : l.going ≡ going_of l.endpoints l.last;
}
