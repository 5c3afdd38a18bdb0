-- A job that has come in behind others, with its rows, and not yet beside them.
use Rattle.std.specs.Prelude.{◌≡◌, ℕ, ◌+◌, ◌<◌, ◌≤◌, true, List, [], ◌∷◌, ◌++◌, length, map}
use Rattle.fts_tables.specs.JobData.{JobData}
use Rattle.fts_tables.specs.Tables.{Tables, AreWellFormed}
use Rattle.fts_tables.specs.Moves.{rows_of_kind}
use Rattle.fts_tables.specs.declared.limits.TheConstants.{MAX_ROWS}
use Rattle.fts_tables.specs.declared.rows.FileRow.{FileRow}
use Rattle.fts_tables.specs.declared.rows.JobRow.{JobRow}
use Rattle.fts_desk.specs.Counted.{HasRoomForDues}
use Rattle.fts_desk.specs.Loaded.{are_known, link_of_file}
use Rattle.fts_desk.specs.Parts.{IsBeside, HaveRoomForFiles, HaveRoomInLine}
use Rattle.fts_desk.specs.declared.kept.Beside.{Beside}

-- what the tables were before it, and what was submitted; what stands beside the rows is that of those tables, with room for the job and its files
pub record HasComeIn (jobs : List JobRow) (rows : List FileRow) (from : ℕ) (job : JobRow) (beside : Beside) : Type 0 where
  pub tables : Tables
  pub new : JobData
  pub formed : AreWellFormed tables
  pub earlier : IsBeside tables.jobs tables.rows beside
  pub with_job : jobs ≡ tables.jobs ++ job ∷ []
  pub with_rows : rows ≡ tables.rows ++ rows_of_kind job.kind tables.rows job.number (length tables.rows + 1) new
  pub number : job.number ≡ length tables.jobs + 1
  pub behind : from ≡ length tables.rows
  pub first : job.first ≡ from + 1
  pub files : job.count ≡ length new.files
  pub some : 1 ≤ length new.files
  pub long : length rows ≡ length tables.rows + length new.files
  pub few : length rows ≤ MAX_ROWS
  pub hours : job.queue_hours ≡ new.queue_hours
  pub links : are_known beside.counts.loads (map link_of_file new.files) ≡ true
  pub dues : HasRoomForDues new.queue_hours (length new.files) beside.counts.dues
  pub states : length beside.counts.states.jobs < beside.counts.states.room
  pub queues : HaveRoomForFiles new.files beside.parts
  pub places : HaveRoomInLine (length tables.rows + length new.files) beside.parts
