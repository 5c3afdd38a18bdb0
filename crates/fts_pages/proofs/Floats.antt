-- No page has a float.
use Rattle.std.proofs.Common.{◌≡◌, ℕ, false, List, take, Option, Some, None, refl}
use Rattle.serde_json.specs.Written.{has_float}
use Rattle.fts_tables.specs.Tables.{Tables, rows_of_job}
use Rattle.fts_tables.specs.declared.rows.JobRow.{JobRow}
use Rattle.fts_tables.specs.declared.rows.FileRow.{FileRow}
use Rattle.fts_chronicle.specs.Chronicle.{ChronicleData}
use Rattle.fts_chronicle.specs.declared.chronicle.CopyReport.{CopyReport}
use Rattle.fts_chronicle.specs.declared.events.FileEvent.{FileEvent}
use Rattle.fts_routes.proofs.Listed.{array-no_float}
use Rattle.fts_pages.specs.Events.{events_of_job, events_of_row, newest}
use Rattle.fts_pages.specs.Pages.{JobsQuestion, event_object, job_shown, file_shown, job_with_files, id_of, goes_on, has_more, matching, page_of}
use Rattle.fts_pages.specs.EventFloats.{event_no_float}

-- a file and its events have none
file-no_float : (reports : List CopyReport) (job : JobRow) (events : List FileEvent) (row : FileRow) → has_float (file_shown reports job events row) ≡ false
file-no_float reports job events row = rw (array-no_float event_object event_no_float (newest (events_of_row reports job row events))) refl

-- a job and its files have none
pub job-no_float : (tables : Tables) (told : ChronicleData) (job : JobRow) → has_float (job_with_files tables told job) ≡ false
job-no_float tables told job =
    let events = events_of_job told.reports job told.events in
    rw (array-no_float (file_shown told.reports job events) (file-no_float told.reports job events) (rows_of_job tables.rows job.number)) refl

-- an id has none
id-no_float : (job : Option JobRow) → has_float (id_of job) ≡ false
id-no_float None = refl
id-no_float (Some job) = refl

-- a page has none
pub page-no_float : (most : ℕ) (tables : Tables) (finishes : List ℕ) (asked : JobsQuestion) (jobs : List JobRow)
    → has_float (page_of most tables finishes asked jobs) ≡ false
page-no_float most tables finishes asked jobs = rw (
  array-no_float (job_shown tables finishes) (λ _. refl) (take asked.limit (matching most tables asked jobs)),
  id-no_float (goes_on most (has_more most tables asked jobs) jobs),
) refl
