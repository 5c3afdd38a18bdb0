-- Where jobs and rows stand in their lists: a number is a place plus 1, and the rows of a job stand together.
use Rattle.std.specs.Prelude.{◌≡◌, ℕ, ◌+◌, ◌-◌, ◌≤◌, ◌&&◌, nat_le, ◌==◌, if◌then◌else◌, List, [], length, take, drop, Option, Some, None}
use Rattle.fts_tables.specs.Tables.{AreWellFormed, rows_of_job}
use Rattle.fts_tables.specs.Step.{with_priority}
use Rattle.fts_tables.specs.declared.rows.FileRow.{FileRow}
use Rattle.fts_tables.specs.declared.rows.JobRow.{JobRow}

-- the place of a number in a list of so many items that are numbered from 1
abbrev pub place_in : ℕ → ℕ → Option ℕ
place_in number count = if nat_le 1 number && nat_le number count then Some (number - 1) else None

-- the rows of a job are the `count` rows from its first one on
pub record StandTogether (rows : List FileRow) (job : JobRow) : Type 0 where
  pub first : 1 ≤ job.first
  pub inside : job.first - 1 + job.count ≤ length rows
  pub taken : rows_of_job rows job.number ≡ take job.count (drop (job.first - 1) rows)

-- jobs and rows of the machine's form, whatever stands beside them in the tables
abbrev pub AreFormed : List JobRow → List FileRow → Type 0
AreFormed jobs rows = AreWellFormed (record { jobs = jobs; rows = rows; moment = 0; settings = None; banned = [] })

-- a job, with a priority where it has a number
abbrev pub prioritized : ℕ → ℕ → JobRow → JobRow
prioritized number priority job = if job.number == number then with_priority priority job else job
