-- How rows are counted by their states.
use Rattle.std.specs.Prelude.{ℕ, Bool, List, count_by}
use Rattle.fts_tables.specs.Tables.{is_submitted, is_active, is_finished, is_failed, is_canceled, is_not_used}
use Rattle.fts_tables.specs.declared.rows.FileRow.{FileRow}
use Rattle.fts_tables.specs.declared.rows.FileState.{FileState}
use Rattle.fts_tables.specs.declared.rows.FileState.TheVariants.{Submitted, Active, Finished, Failed, Canceled, NotUsed}

-- how many of these rows are in a state
abbrev pub rows_in : (FileState → Bool) → List FileRow → ℕ
rows_in is_state rows = count_by (λ row. is_state row.state) rows

-- the test that a state is this one
abbrev pub test_of : FileState → FileState → Bool
test_of Submitted = is_submitted
test_of Active = is_active
test_of Finished = is_finished
test_of Failed = is_failed
test_of Canceled = is_canceled
test_of NotUsed = is_not_used
