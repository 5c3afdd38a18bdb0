-- What is counted of the rows beside them: the loads of the links, the moments from which waiting files are overdue, and how the jobs stand.
use Rattle.std.specs.Prelude.{◌≡◌, ◌≢◌, ℕ, ◌+◌, ◌<◌, ◌≤◌, nat_le, ◌==◌, ◌&&◌, ◌||◌, Bool, if◌then◌else◌, map, count_by, List, [], ◌∷◌, length, slice_set, slice_get, Option, Some, None}
use Rattle.fts_tables.specs.Tables.{is_active, is_live, is_settled, rows_of_job, RowsFollow}
use Rattle.fts_tables.specs.Moves.{state_of_job}
use Rattle.fts_tables.specs.Dues.{Due}
use Rattle.fts_tables.specs.Laws.{file_of}
use Rattle.fts_tables.specs.declared.rows.FileRow.{FileRow}
use Rattle.fts_tables.specs.declared.rows.FileState.{FileState}
use Rattle.fts_tables.specs.declared.rows.JobRow.{JobRow}
use Rattle.fts_tables.specs.declared.rows.JobKind.{JobKind}
use Rattle.fts_index.specs.DueLists.{DueList}
use Rattle.fts_index.specs.RowDues.{due_from, AreDuesOf}
use Rattle.fts_desk.specs.JobLists.{JobList}
use Rattle.fts_desk.specs.Loaded.{AreLoadsOf}
use Rattle.fts_desk.specs.declared.job_states.Progress.{Progress}
use Rattle.fts_desk.specs.declared.kept.Counts.{Counts}
use Rattle.fts_desk.specs.declared.counts.Tally.{Tally}

-- whether a file runs or is settled
abbrev pub has_begun : FileState → Bool
has_begun state = is_active state || is_settled state

-- whether a row is of a job and in a state of some
abbrev pub is_of : ℕ → (FileState → Bool) → FileRow → Bool
is_of number are row = (row.job == number) && are row.state

-- how many rows are in a state of some
abbrev pub count_in : (FileState → Bool) → List FileRow → ℕ
count_in are rows = count_by (λ row. are row.state) rows

-- how a job of a kind stands that has these rows
abbrev pub progress_in : List FileRow → JobKind → Progress
progress_in of_job kind = record { state = state_of_job kind of_job; live = count_in is_live of_job; begun = count_in has_begun of_job }

-- how a job stands by its rows
abbrev pub progress_of : List FileRow → JobRow → Progress
progress_of rows job = record {
  state = state_of_job job.kind (rows_of_job rows job.number);
  live = count_by (is_of job.number is_live) rows;
  begun = count_by (is_of job.number has_begun) rows;
}

-- the jobs stand as their rows say, and the rows follow the jobs
pub record AreStatesOf (jobs : List JobRow) (rows : List FileRow) (list : JobList) : Type 0 where
  pub stand : list.jobs ≡ map (progress_of rows) jobs
  pub follow : RowsFollow jobs rows

-- all of it is that of these rows and jobs
pub record AreCountsOf (jobs : List JobRow) (rows : List FileRow) (counts : Counts) : Type 0 where
  pub loads : AreLoadsOf rows counts.loads
  pub dues : AreDuesOf jobs rows counts.dues
  pub states : AreStatesOf jobs rows counts.states

-- what a row counts for
pub record IsCounted (jobs : List JobRow) (row : FileRow) (was : Tally) : Type 0 where
  pub live : was.live ≡ is_live row.state
  pub begun : was.begun ≡ has_begun row.state
  pub due : was.due ≡ due_from jobs row

-- what the row at a place counts for
abbrev pub IsCountedAt : List JobRow → List FileRow → ℕ → Tally → Type 0
IsCountedAt jobs rows place was = (row : FileRow) → slice_get rows place ≡ Some row → IsCounted jobs row was

-- the jobs stand as the rows say with another at the place, which is of the same job, and counts for that
pub record AreStatesBefore (jobs : List JobRow) (rows : List FileRow) (place : ℕ) (was : Tally) (list : JobList) : Type 0 where
  pub before : FileRow
  pub job : (row : FileRow) → slice_get rows place ≡ Some row → before.job ≡ row.job
  pub counted : IsCounted jobs before was
  pub of_rows : AreStatesOf jobs (slice_set rows place before) list

-- all of it is that of the rows with another at the place, which is the same file's and counts for that
pub record AreCountsBefore (jobs : List JobRow) (rows : List FileRow) (place : ℕ) (was : Tally) (counts : Counts) : Type 0 where
  pub before : FileRow
  pub inside : place < length rows
  pub file : (row : FileRow) → slice_get rows place ≡ Some row → file_of row ≡ file_of before
  pub counted : IsCounted jobs before was
  pub of_rows : AreCountsOf jobs (slice_set rows place before) counts

-- where a job limits its files' hours, there is room for so many files more among the moments
abbrev pub HasRoomForDues : ℕ → ℕ → DueList → Type 0
HasRoomForDues hours count list = hours ≢ 0 → list.files + count ≤ list.room

-- the file of the first moment, where that has come
abbrev pub first_due_file : ℕ → List Due → Option ℕ
first_due_file now [] = None
first_due_file now (due ∷ dues) = if nat_le due.moment now then Some due.file else None
