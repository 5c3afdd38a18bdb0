use Rattle.std.proofs.Common.{◌≡◌, ◌+◌, Bool, take}
use Rattle.std.specs.Prelude.{count_by}
use Rattle.ordered.specs.Orders.{AreSortedBy}
use Rattle.fts_tables.specs.Dues.{Due, is_due_before}
use Rattle.fts_index.specs.RowDues.{comes_in}
use Rattle.fts_index.proofs.dues.put_rows.Given as goal

-- the rows so far have come in
abbrev pub invariant-loop-row : goal.invariant-loop-row
invariant-loop-row l = record {
  counts : (test : Due → Bool) → count_by test l.dues.keys ≡ count_by test l.fn.dues.keys + count_by (comes_in test l.moment) (take l.row-index l.rows);
  order : AreSortedBy is_due_before l.dues.keys;
  room : l.dues.room ≡ l.fn.dues.room;
}
