-- What a cancellation of a file leaves of the rows: in a plain job of its row alone, else of all rows of the job.
use Rattle.std.specs.Prelude.{ℕ, ◌==◌, ◌≤◌, if◌then◌else◌, Bool, List, map, length, count_by, Option, Some}
use Rattle.fts_tables.specs.Tables.{AreNumberedFrom, is_canceled}
use Rattle.fts_tables.specs.Moves.{cancelled_for, change_row}
use Rattle.fts_tables.specs.Waits.{is_of_a_whole}
use Rattle.fts_tables.specs.declared.rows.FileRow.{FileRow}
use Rattle.fts_tables.specs.declared.rows.JobRow.{JobRow}
use Rattle.fts_tables.specs.declared.rows.JobKind.{JobKind}
use Rattle.fts_tables.specs.declared.rows.JobKind.TheVariants.{Plain}
use Rattle.fts_tables.specs.declared.rows.Reason.{Reason}

-- a row, cancelled for a reason where it is of a job
abbrev pub cancelled_of : Reason → ℕ → FileRow → FileRow
cancelled_of reason number row = if row.job == number then cancelled_for reason row else row

-- the rows after a cancellation of a file for a reason, by the kind of its job
abbrev pub after_file : Reason → Option JobKind → ℕ → ℕ → List FileRow → List FileRow
after_file reason (Some Plain) number file rows = change_row file (cancelled_for reason) rows
after_file reason _ number file rows = map (cancelled_of reason number) rows

-- whether a row goes with another that is cancelled: it is of the same job, where that goes as a whole, and else the row itself
abbrev pub goes_by : List JobRow → FileRow → FileRow → Bool
goes_by jobs hit row = if is_of_a_whole jobs hit then row.job == hit.job else row.id == hit.id

-- the rows after one was cancelled for a reason, with those that go with it
abbrev pub gone_with : Reason → List JobRow → FileRow → List FileRow → List FileRow
gone_with reason jobs hit rows = map (λ row. if goes_by jobs hit row then cancelled_for reason row else row) rows

-- how many rows are CANCELED
abbrev pub count_canceled : List FileRow → ℕ
count_canceled rows = count_by (λ row. is_canceled row.state) rows

-- the file's row stands at the place before its id
pub record IsInside (rows : List FileRow) (file : ℕ) : Type 0 where
  pub numbered : AreNumberedFrom (λ row. row.id) 1 rows
  pub first : 1 ≤ file
  pub last : file ≤ length rows
