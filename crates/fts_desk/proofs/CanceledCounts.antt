-- No more rows are CANCELED than there are.
use Rattle.std.proofs.Common.{◌≡◌, ◌+◌, ◌≤◌, Bool, true, false, cond, List, [], ◌∷◌, length, arith}
use Rattle.std.proofs.lemmas.List.Sums.{sum_by-cons}
use Rattle.fts_tables.specs.Tables.{is_canceled}
use Rattle.fts_tables.specs.declared.rows.FileRow.{FileRow}
use Rattle.fts_desk.specs.Cancels.{count_canceled}

-- the first row and the others
canceled-cons : (row : FileRow) (rows : List FileRow) → count_canceled (row ∷ rows) ≡ cond (is_canceled row.state) 1 0 + count_canceled rows
canceled-cons row rows = sum_by-cons (λ (other : FileRow). cond (is_canceled other.state) 1 0) row rows

-- no more are than there are rows
pub canceled-few : (rows : List FileRow) → count_canceled rows ≤ length rows
canceled-few [] = omega arith
canceled-few (row ∷ rows) = omega (arith, canceled-cons row rows, one (is_canceled row.state), canceled-few rows)
  where
    one : (answer : Bool) → cond answer 1 0 ≤ 1
    one true = omega arith
    one false = omega arith
