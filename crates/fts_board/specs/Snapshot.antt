-- A snapshot: what stands in a service's tables at a moment, and what the reports of its copies say.
use Rattle.std.specs.Prelude.{ℕ, Bool, true, false, ◌-◌, not, ◌&&◌, bytes_eq, if◌then◌else◌, List, [], ◌∷◌, ◌++◌, map, filter, take, length, count_by, Option, Some, None, unwrap_or, codes}
use Rattle.std.specs.Int.{to_be_bytes, w128}
use Rattle.std.specs.List.{flat_map, list_any, last_or}
use Rattle.std.specs.Option.{option_map_or}
use Rattle.serde_json.specs.Data.{Data, null, boolean, string, array}
use Rattle.serde_json.specs.View.{items_of}
use Rattle.uuid.specs.Text.{hyphenated_text, lower}
use Rattle.fts_tables.specs.SettingsData.{SettingsData}
use Rattle.fts_tables.specs.Tables.{Tables, is_submitted, is_active, is_finished, is_failed, is_canceled, is_not_used, job_at, row_at}
use Rattle.fts_tables.specs.Limits.{is_on_link, out_of, into}
use Rattle.fts_tables.specs.declared.limits.TheConstants.{MAX_JOBS, MAX_ROWS, JOURNAL_END}
use Rattle.fts_tables.specs.declared.settings.Endpoint.{Endpoint}
use Rattle.fts_tables.specs.declared.settings.LinkRule.{LinkRule}
use Rattle.fts_tables.specs.declared.rows.FileRow.{FileRow}
use Rattle.fts_tables.specs.declared.rows.JobRow.{JobRow}
use Rattle.fts_tables.specs.declared.rows.JobState.{JobState}
use Rattle.fts_tables.specs.declared.rows.JobState.TheVariants.{FinishedDirty, Submitted, Active, Finished, Failed, Canceled}
use Rattle.fts_tables.specs.declared.rows.Reason.{Reason}
use Rattle.fts_tables.specs.declared.rows.Reason.TheVariants.{Cancelled, Ended, Expired, None as NoReason}
use Rattle.fts_chronicle.specs.declared.chronicle.CopyReport.{CopyReport}
use Rattle.fts_counts.specs.Jobs.{jobs_in}
use Rattle.fts_counts.specs.Listed.{endpoints_of, links_of}
use Rattle.fts_counts.specs.Outcomes.{outcome_word}
use Rattle.fts_counts.specs.Rows.{rows_in}
use Rattle.fts_board.specs.Json.{array_of, object_of, whole_number, text_of}
use Rattle.fts_board.specs.Reports.{bytes_of}
use Rattle.fts_board.specs.declared.snapshots.Shown.{Shown}

-- the limit of links that aren't listed, and 0 without settings
abbrev pub default_limit_of : Option SettingsData → ℕ
default_limit_of None = 0
default_limit_of (Some settings) = settings.default_max_active

-- the name of the VO, and the empty text without settings
abbrev pub vo_of : Option SettingsData → List ℕ
vo_of None = []
vo_of (Some settings) = settings.vo

-- so many jobs of each state
abbrev pub by_job_state : (JobState → ℕ) → Data
by_job_state count = object_of (
    (codes "ACTIVE", whole_number (count Active))
    ∷ (codes "CANCELED", whole_number (count Canceled))
    ∷ (codes "FAILED", whole_number (count Failed))
    ∷ (codes "FINISHED", whole_number (count Finished))
    ∷ (codes "FINISHEDDIRTY", whole_number (count FinishedDirty))
    ∷ (codes "SUBMITTED", whole_number (count Submitted))
    ∷ [])

-- the jobs of each state
abbrev pub jobs_object : Tables → Data
jobs_object tables = by_job_state (jobs_in tables)

-- the rows of each state
abbrev pub files_object : List FileRow → Data
files_object rows = object_of (
    (codes "ACTIVE", whole_number (rows_in is_active rows))
    ∷ (codes "CANCELED", whole_number (rows_in is_canceled rows))
    ∷ (codes "FAILED", whole_number (rows_in is_failed rows))
    ∷ (codes "FINISHED", whole_number (rows_in is_finished rows))
    ∷ (codes "NOT_USED", whole_number (rows_in is_not_used rows))
    ∷ (codes "SUBMITTED", whole_number (rows_in is_submitted rows))
    ∷ [])

-- a storage: the ACTIVE files to it and from it, and how many there may be
abbrev pub storage_object : List FileRow → Endpoint → Data
storage_object rows endpoint = object_of (
    (codes "inbound_active", whole_number (into rows endpoint.name))
    ∷ (codes "inbound_max_active", whole_number endpoint.inbound)
    ∷ (codes "outbound_active", whole_number (out_of rows endpoint.name))
    ∷ (codes "outbound_max_active", whole_number endpoint.outbound)
    ∷ (codes "storage", string endpoint.name)
    ∷ [])

-- the rows of a link
abbrev pub rows_on : List FileRow → List ℕ → List ℕ → List FileRow
rows_on rows source dest = filter (is_on_link source dest) rows

-- whether a report is of a row of a link
abbrev pub is_report_on : List FileRow → List ℕ → List ℕ → CopyReport → Bool
is_report_on rows source dest report = option_map_or (is_on_link source dest) (row_at rows report.file) false

-- the reports of a link's rows
abbrev pub reports_on : List FileRow → List CopyReport → List ℕ → List ℕ → List CopyReport
reports_on rows reports source dest = filter (is_report_on rows source dest) reports

-- the moment of the last of these reports, and 0 of none
abbrev pub last_moment : List CopyReport → ℕ
last_moment reports = unwrap_or (last_or None (map (λ report. report.moment) reports)) 0

-- a link with its name and limit: its rows by state, the bytes of its Verified reports, and the moment of its last report
abbrev pub link_object : List FileRow → List CopyReport → List ℕ → List ℕ → List ℕ → ℕ → Data
link_object rows reports source dest symbolic max_active = object_of (
    (codes "active", whole_number (rows_in is_active (rows_on rows source dest)))
    ∷ (codes "canceled", whole_number (rows_in is_canceled (rows_on rows source dest)))
    ∷ (codes "copied_bytes", whole_number (bytes_of (reports_on rows reports source dest)))
    ∷ (codes "destination", string dest)
    ∷ (codes "failed", whole_number (rows_in is_failed (rows_on rows source dest)))
    ∷ (codes "finished", whole_number (rows_in is_finished (rows_on rows source dest)))
    ∷ (codes "last_report_time", whole_number (last_moment (reports_on rows reports source dest)))
    ∷ (codes "max_active", whole_number max_active)
    ∷ (codes "source", string source)
    ∷ (codes "submitted", whole_number (rows_in is_submitted (rows_on rows source dest)))
    ∷ (codes "symbolicname", string symbolic)
    ∷ [])

-- a listed link
abbrev pub listed_object : List FileRow → List CopyReport → LinkRule → Data
listed_object rows reports link = link_object rows reports link.source link.dest link.symbolic link.max_active

-- whether a link is listed
abbrev pub is_link_listed : List LinkRule → List ℕ → List ℕ → Bool
is_link_listed links source dest = list_any (λ link. bytes_eq link.source source && bytes_eq link.dest dest) links

-- a link that isn't listed, where it has a row
abbrev pub others_at : Tables → List CopyReport → List ℕ → List ℕ → List Data
others_at tables reports source dest =
    if list_any (is_on_link source dest) tables.rows && not (is_link_listed (links_of tables.settings) source dest)
    then link_object tables.rows reports source dest [] (default_limit_of tables.settings) ∷ [] else []

-- those from one storage
abbrev pub others_from : Tables → List CopyReport → List ℕ → List Data
others_from tables reports source = flat_map (λ (dest : Endpoint). others_at tables reports source dest.name) (endpoints_of tables.settings)

-- the links: each listed one in listed order, and then each other pair of listed storages that has a row, by source and then by destination
abbrev pub link_objects : Tables → List CopyReport → List Data
link_objects tables reports =
    map (listed_object tables.rows reports) (links_of tables.settings)
    ++ flat_map (λ (source : Endpoint). others_from tables reports source.name) (endpoints_of tables.settings)

-- the word for why a row stands as it does, where a copy ended
abbrev pub reason_word : Reason → List ℕ
reason_word (Ended outcome) = outcome_word outcome
reason_word _ = []

-- whether a report gives a reason
abbrev pub is_for : List ℕ → CopyReport → Bool
is_for reason report = bytes_eq (outcome_word report.outcome) reason

-- whether a row stands FAILED for a reason
abbrev pub is_failed_for : List ℕ → FileRow → Bool
is_failed_for reason row = is_failed row.state && bytes_eq (reason_word row.reason) reason

-- an id as a UUID in lower case (RFC 9562)
abbrev pub id_text : ℕ → List ℕ
id_text id = hyphenated_text lower (to_be_bytes w128 id)

-- the id of a row's job, where there is one
abbrev pub id_of_job : Tables → FileRow → List ℕ
id_of_job tables row = option_map_or (λ (job : JobRow). id_text job.id) (job_at tables.jobs row.job) []

-- the id of the job of a file, where there is one
abbrev pub id_of_file : Tables → ℕ → List ℕ
id_of_file tables file = option_map_or (id_of_job tables) (row_at tables.rows file) []

-- a reason: the rows that stand FAILED for it, its reports, and the newest of these
abbrev pub failure_object : Tables → List CopyReport → List ℕ → CopyReport → Data
failure_object tables reports reason newest = object_of (
    (codes "file_id", whole_number newest.file)
    ∷ (codes "files", whole_number (count_by (is_failed_for reason) tables.rows))
    ∷ (codes "job_id", string (id_of_file tables newest.file))
    ∷ (codes "last_time", whole_number newest.moment)
    ∷ (codes "reason", string reason)
    ∷ (codes "reports", whole_number (count_by (is_for reason) reports))
    ∷ [])

-- a reason, where it was reported
abbrev pub failure_for : Tables → List CopyReport → List ℕ → List Data
failure_for tables reports reason =
    option_map_or (λ (newest : CopyReport). failure_object tables reports reason newest ∷ []) (last_or None (filter (is_for reason) reports)) []

-- the reasons, in the order in which they are shown
abbrev pub reasons : List (List ℕ)
reasons =
    codes "source missing" ∷ codes "destination exists" ∷ codes "source size" ∷ codes "source digest" ∷ codes "read back differs" ∷ codes "store failed"
    ∷ codes "stopped" ∷ []

-- one group for each reason that was reported
abbrev pub failure_objects : Tables → List CopyReport → List Data
failure_objects tables reports = flat_map (failure_for tables reports) reasons

-- where the journal is damaged, and null where it isn't
abbrev pub damage_data : Option ℕ → Data
damage_data None = null
damage_data (Some offset) = object_of ((codes "offset", whole_number offset) ∷ [])

-- a snapshot of tables after so many commands: at most 1,000 links are shown, and the others counted
abbrev pub snapshot_data : Tables → ℕ → List CopyReport → Shown → Data
snapshot_data tables commands reports shown = object_of (
    (codes "damage", damage_data shown.damage)
    ∷ (codes "entries", whole_number commands)
    ∷ (codes "failures", array (items_of (failure_objects tables reports)))
    ∷ (codes "files_by_state", files_object tables.rows)
    ∷ (codes "fold_time", whole_number shown.fold_time)
    ∷ (codes "jobs", whole_number (length tables.jobs))
    ∷ (codes "jobs_by_state", jobs_object tables)
    ∷ (codes "jobs_limit", whole_number MAX_JOBS)
    ∷ (codes "journal_bytes", whole_number shown.used)
    ∷ (codes "journal_limit_bytes", whole_number JOURNAL_END)
    ∷ (codes "last_entry_time", whole_number shown.last_entry_time)
    ∷ (codes "links", array (items_of (take 1000 (link_objects tables reports))))
    ∷ (codes "links_left_out", whole_number (length (link_objects tables reports) - 1000))
    ∷ (codes "now", whole_number shown.now)
    ∷ (codes "restart_time", whole_number shown.restart_time)
    ∷ (codes "rows", whole_number (length tables.rows))
    ∷ (codes "rows_limit", whole_number MAX_ROWS)
    ∷ (codes "storages", array_of (storage_object tables.rows) (endpoints_of tables.settings))
    ∷ (codes "vo_name", string (vo_of tables.settings))
    ∷ (codes "whole", boolean true)
    ∷ [])

-- its text
abbrev pub snapshot_text : Tables → ℕ → List CopyReport → Shown → List ℕ
snapshot_text tables commands reports shown = text_of (snapshot_data tables commands reports shown)
