-- What a desk keeps of its lists besides the machine's own laws: few enough jobs and rows, files of each job, and attempts that commands account for.
use Rattle.std.specs.Prelude.{ℕ, ◌≤◌, List, length, IsTrue}
use Rattle.std.specs.List.{AllByRecursion}
use Rattle.fts_tables.specs.SettingsData.{is_within}
use Rattle.fts_tables.specs.declared.limits.TheConstants.{MAX_JOBS, MAX_ROWS, MAX_FILES}
use Rattle.fts_tables.specs.declared.rows.FileRow.{FileRow}
use Rattle.fts_tables.specs.declared.rows.JobRow.{JobRow}
use Rattle.fts_tables.specs.declared.commands.Command.{Command}
use Rattle.fts_tables.specs.declared.commands.Command.TheVariants.{Restart, Submit, CancelJob, CancelFile, SetPriority, Claim, Report, Ban, Unban, Expire}

-- a number of files that a job may have
abbrev pub IsFileCount : ℕ → Type 0
IsFileCount count = IsTrue (is_within 1 MAX_FILES count)

-- each job has files, and not too many
abbrev pub HaveFiles : List JobRow → Type 0
HaveFiles jobs = AllByRecursion (λ job. IsFileCount job.count) jobs

-- no row has been claimed more often than there were commands
abbrev pub AreCounted : ℕ → List FileRow → Type 0
AreCounted commands rows = AllByRecursion (λ row. row.attempt ≤ commands) rows

-- the bounds of the lists after so many commands
pub record AreBounded (commands : ℕ) (jobs : List JobRow) (rows : List FileRow) : Type 0 where
  pub few_jobs : length jobs ≤ MAX_JOBS
  pub few_rows : length rows ≤ MAX_ROWS
  pub files : HaveFiles jobs
  pub attempts : AreCounted commands rows

-- a job that is submitted has files, and not too many
abbrev pub BringsFiles : Command → Type 0
BringsFiles (Restart now settings) = Unit {0}
BringsFiles (Submit now job) = IsFileCount (length job.files)
BringsFiles (CancelJob now job) = Unit {0}
BringsFiles (CancelFile now job file) = Unit {0}
BringsFiles (SetPriority now job priority) = Unit {0}
BringsFiles (Claim now word) = Unit {0}
BringsFiles (Report now file attempt outcome) = Unit {0}
BringsFiles (Ban now storage cancel) = Unit {0}
BringsFiles (Unban now storage) = Unit {0}
BringsFiles (Expire now) = Unit {0}
