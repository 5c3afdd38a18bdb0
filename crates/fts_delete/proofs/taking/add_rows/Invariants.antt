-- The loop that adds rows: those of the places so far stand behind the rows that were there.
use Rattle.std.proofs.Common.{◌≡◌, ◌+◌, ◌++◌, length, vec_capacity}
use Rattle.fts_delete.specs.Rows.{asked_rows}
use Rattle.fts_delete.proofs.taking.add_rows.Given as goal

abbrev pub invariant-loop-place : goal.invariant-loop-place
invariant-loop-place l = record {
  rows : l.rows.items ≡ l.fn.rows.items ++ asked_rows (length l.fn.rows.items + 1) l.yielded;
  count : length l.rows.items ≡ length l.fn.rows.items + length l.yielded;
  capacity : vec_capacity l.rows ≡ vec_capacity l.fn.rows;
}
