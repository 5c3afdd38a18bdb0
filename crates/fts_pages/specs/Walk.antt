-- What the walk over jobs has at hand of each.
use Rattle.std.specs.Prelude.{ℕ, if◌then◌else◌, List, Option, Some, None}
use Rattle.serde_json.specs.Data.{Data}
use Rattle.fts_tables.specs.Tables.{Tables}
use Rattle.fts_tables.specs.declared.rows.JobRow.{JobRow}
use Rattle.fts_pages.specs.Pages.{JobsQuestion, is_asked, job_shown}

-- a job as it is shown, where it matches, by the finishes that entries told
abbrev pub shown_if_asked : Tables → List ℕ → JobsQuestion → JobRow → Option Data
shown_if_asked tables finishes asked job = if is_asked tables asked job then Some (job_shown tables finishes job) else None
