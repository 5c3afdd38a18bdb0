-- The moments at which the waiting files of rows become overdue, beside the rows.
use Rattle.std.specs.Prelude.{◌≡◌, ℕ, ◌+◌, ◌≤◌, Bool, true, ◌&&◌, nat_le, if◌then◌else◌, List, length, count_by, slice_get, Option, Some, None, is_some}
use Rattle.fts_tables.specs.Tables.{AreNumberedFrom, is_submitted}
use Rattle.fts_tables.specs.Waits.{row_overdue_from}
use Rattle.fts_tables.specs.Dues.{Due, IsDuesOf, AreInOrder}
use Rattle.fts_tables.specs.declared.rows.FileRow.{FileRow}
use Rattle.fts_tables.specs.declared.rows.JobRow.{JobRow}
use Rattle.fts_index.specs.DueLists.{DueList, passes_at}

-- the moment from which the file of a row is overdue, where it waits and its job limits its time
abbrev pub due_from : List JobRow → FileRow → Option ℕ
due_from jobs row = if is_submitted row.state then row_overdue_from jobs row else None

-- whether the job of a row limits its time
abbrev pub is_limited : List JobRow → FileRow → Bool
is_limited jobs row = is_some (row_overdue_from jobs row)

-- whether a row of a job whose files are overdue from a moment on waits, and passes a test with that moment
abbrev pub comes_in : (Due → Bool) → Option ℕ → FileRow → Bool
comes_in test moment row = is_submitted row.state && passes_at test row.id moment

-- the moments are those of these rows, and each row whose time is limited may have one there
pub record AreDuesOf (jobs : List JobRow) (rows : List FileRow) (list : DueList) : Type 0 where
  pub index : IsDuesOf jobs rows list.dues
  pub files : count_by (is_limited jobs) rows ≤ list.files

-- rows may come in that are numbered on from a number which no file there has: where they get a moment, there is room for all
pub record MayAdd (rows : List FileRow) (moment : Option ℕ) (list : DueList) : Type 0 where
  pub first : ℕ
  pub numbered : AreNumberedFrom (λ row. row.id) first rows
  pub behind : count_by (λ (due : Due). nat_le first due.file) list.dues ≡ 0
  pub room : is_some moment ≡ true → list.files + length rows ≤ list.room

-- rows have come in where they wait, each may have its moment, and nothing else has changed
pub record HasAdded (rows : List FileRow) (moment : Option ℕ) (old new : DueList) : Type 0 where
  pub counts : (test : Due → Bool) → count_by test new.dues ≡ count_by test old.dues + count_by (comes_in test moment) rows
  pub order : AreInOrder new.dues
  pub files : new.files ≡ old.files + (if is_some moment then length rows else 0)
  pub room : new.room ≡ old.room

-- a row that waits, with a file and a moment
pub record HasDueRow (jobs : List JobRow) (rows : List FileRow) (due : Due) : Type 0 where
  pub place : ℕ
  pub row : FileRow
  pub there : slice_get rows place ≡ Some row
  pub file : row.id ≡ due.file
  pub from : due_from jobs row ≡ Some due.moment
