-- The loop that adds rows: those of the files so far stand behind the rows that were there.
use Rattle.std.proofs.Common.{◌≡◌, ◌+◌, ◌++◌, length, vec_capacity}
use Rattle.fts_tables.specs.Moves.{new_rows}
use Rattle.fts_desk.proofs.submit.add_rows.Given as goal

abbrev pub invariant-loop-file : goal.invariant-loop-file
invariant-loop-file l = record {
  rows : l.rows.items ≡ l.fn.rows.items ++ new_rows l.job (length l.fn.rows.items + 1) l.state l.yielded;
  count : length l.rows.items ≡ length l.fn.rows.items + length l.yielded;
  capacity : vec_capacity l.rows ≡ vec_capacity l.fn.rows;
}
