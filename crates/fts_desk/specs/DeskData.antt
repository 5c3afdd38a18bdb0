-- What contracts see of a desk, and what its questions answer.
use Rattle.std.specs.Prelude.{ℕ, List, slice_get, Option, Some, None, option_map}
use Rattle.fts_tables.specs.SettingsData.{SettingsData}
use Rattle.fts_tables.specs.Tables.{Tables, job_at, rows_of_job}
use Rattle.fts_tables.specs.Limits.{held}
use Rattle.fts_tables.specs.Moves.{state_of_job}
use Rattle.fts_tables.specs.declared.rows.FileRow.{FileRow}
use Rattle.fts_tables.specs.declared.rows.JobRow.{JobRow}
use Rattle.fts_tables.specs.declared.rows.JobState.{JobState}
use Rattle.fts_tables.specs.declared.settings.Endpoint.{Endpoint}
use Rattle.fts_tables.specs.declared.settings.LinkAt.{LinkAt}
use Rattle.fts_tables.specs.declared.commands.Command.{Command}

-- the machine's tables, how many commands were accepted, and the command that there is room for, or none
pub record DeskData : Type 0 where
  pub tables : Tables
  pub commands : ℕ
  pub planned : Option Command

-- the state of the job of a number, by its rows
abbrev pub state_at : Tables → ℕ → Option JobState
state_at tables number = option_map (λ (job : JobRow). state_of_job job.kind (rows_of_job tables.rows number)) (job_at tables.jobs number)

-- the name of the endpoint at a place of the settings
abbrev pub name_at : Option SettingsData → ℕ → Option (List ℕ)
name_at None place = None
name_at (Some settings) place = option_map (λ (endpoint : Endpoint). endpoint.name) (slice_get settings.endpoints place)

-- how many ACTIVE rows go from one named endpoint to another, and 0 where one of them isn't there
abbrev pub held_between : List FileRow → Option (List ℕ) → Option (List ℕ) → ℕ
held_between rows (Some source) (Some dest) = held rows source dest
held_between rows (Some source) None = 0
held_between rows None dest = 0

-- how many ACTIVE rows a link has, by the places of its ends in the settings
abbrev pub held_at : Tables → LinkAt → ℕ
held_at tables link = held_between tables.rows (name_at tables.settings link.source) (name_at tables.settings link.dest)
