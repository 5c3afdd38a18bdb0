-- The lists behind a desk's tables: which tables they are, their limits, and the room in them.
use Rattle.std.specs.Prelude.{◌≡◌, ℕ, ◌+◌, ◌-◌, ◌<◌, ◌≤◌, true, List, length, map, vec_capacity, Some, Result, Ok, Err}
use Rattle.fts_tables.specs.Tables.{Tables, job_at, row_at}
use Rattle.fts_tables.specs.declared.limits.TheConstants.{MAX_JOBS, MAX_ROWS}
use Rattle.fts_tables.specs.declared.commands.Command.{Command}
use Rattle.fts_tables.specs.declared.commands.Command.TheVariants.{Restart, Submit, CancelJob, CancelFile, SetPriority, Claim, Report, Ban, Unban, Expire}
use Rattle.fts_tables.specs.declared.commands.Refusal.TheVariants.{JobsFull, RowsFull}
use Rattle.fts_desk.specs.Counted.{HasRoomForDues}
use Rattle.fts_desk.specs.Loaded.{are_known, link_of_file}
use Rattle.fts_tables.specs.declared.rows.NewFile.{NewFile}
use Rattle.fts_tables.specs.declared.rows.FileRow.{FileRow}
use Rattle.fts_tables.specs.declared.rows.JobRow.{JobRow}
use Rattle.fts_desk.specs.Parts.{HaveRoomForFiles, HaveRoomInLine, HasRoomToRun, HasRoomToReport}
use Rattle.fts_desk.specs.declared.kept.Kept.{Kept}
use Rattle.fts_desk.specs.declared.desk.DeskFault.{DeskFault}
use Rattle.fts_desk.specs.declared.desk.DeskFault.TheVariants.{Rule, Memory}

-- the machine's tables that these lists are
abbrev pub tables_kept : Kept → Tables
tables_kept kept = record {
  jobs = kept.jobs.items;
  rows = kept.rows.items;
  moment = kept.moment;
  settings = kept.settings;
  banned = kept.banned.items;
}

-- no more jobs and rows than there may be
pub record IsWithinLimits (kept : Kept) : Type 0 where
  pub jobs : length kept.jobs.items ≤ MAX_JOBS
  pub rows : length kept.rows.items ≤ MAX_ROWS

-- room for one job more, of so many files: in memory, and within the limits
pub record HasRoomFor (kept : Kept) (count : ℕ) : Type 0 where
  pub job : length kept.jobs.items + 1 ≤ vec_capacity kept.jobs
  pub files : length kept.rows.items + count ≤ vec_capacity kept.rows
  pub id : length kept.ids.ids < kept.ids.room
  pub job_limit : length kept.jobs.items < MAX_JOBS
  pub row_limit : length kept.rows.items + count ≤ MAX_ROWS

-- room for one job more of these hours in the queue and these files, for the link of each among the loads, for each among the moments where there are
-- hours, for the job among those in each state, and for each file among those that wait and in line
pub record HasRoomForFiles (kept : Kept) (hours : ℕ) (files : List NewFile) : Type 0 where
  pub count : HasRoomFor kept (length files)
  pub links : are_known kept.beside.counts.loads (map link_of_file files) ≡ true
  pub dues : HasRoomForDues hours (length files) kept.beside.counts.dues
  pub states : length kept.beside.counts.states.jobs < kept.beside.counts.states.room
  pub queues : HaveRoomForFiles files kept.beside.parts
  pub places : HaveRoomInLine (length kept.rows.items + length files) kept.beside.parts

-- room for what a command adds
abbrev pub HasRoom : Kept → Command → Type 0
HasRoom kept (Restart now settings) = Unit {0}
HasRoom kept (Submit now job) = HasRoomForFiles kept job.queue_hours job.files
HasRoom kept (CancelJob now job) = Unit {0}
HasRoom kept (CancelFile now job file) = Unit {0}
HasRoom kept (SetPriority now job priority) = Unit {0}
HasRoom kept (Claim now word) = HasRoomToRun kept.beside.parts
HasRoom kept (Report now file attempt outcome) = (row : FileRow) (job : JobRow) → row_at kept.rows.items file ≡ Some row
    → job_at kept.jobs.items row.job ≡ Some job → HasRoomToReport job (file - 1) kept.rows.items kept.beside.parts
HasRoom kept (Ban now storage cancel) = length kept.banned.items + 1 ≤ vec_capacity kept.banned
HasRoom kept (Unban now storage) = Unit {0}
HasRoom kept (Expire now) = Unit {0}

-- the limits on the numbers of jobs and rows, in the order of the machine's refusals; want of memory where both leave room
abbrev pub IsRoomFor : ℕ → ℕ → ℕ → Result (Unit {0}) DeskFault → Type 0
IsRoomFor jobs rows files (Ok made) = Unit {0}
IsRoomFor jobs rows files (Err Memory) = (jobs < MAX_JOBS) × (rows + files ≤ MAX_ROWS)
IsRoomFor jobs rows files (Err (Rule (JobsFull number))) = (number ≡ jobs) × (MAX_JOBS ≤ jobs)
IsRoomFor jobs rows files (Err (Rule (RowsFull number))) = (number ≡ rows) × (jobs < MAX_JOBS) × (MAX_ROWS < rows + files)
IsRoomFor jobs rows files (Err (Rule rule)) = ⊥
