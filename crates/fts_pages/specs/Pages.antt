-- Pages of jobs: which jobs match, in which order, how many are shown, and how they are shown.
use Rattle.std.specs.Prelude.{ℕ, ◌-◌, Bool, true, ◌&&◌, ◌||◌, nat_lt, nat_le, if◌then◌else◌, bytes_eq, List, [], ◌∷◌, length, reverse, take, filter, slice_get, Option, Some, None, option_map, string_bytes, codes}
use Rattle.std.specs.List.{list_any}
use Rattle.serde_json.specs.Data.{Data, null, boolean, number, string, array, object, put}
use Rattle.fts_tables.specs.Tables.{Tables, rows_of_job}
use Rattle.fts_tables.specs.declared.rows.FileRow.{FileRow}
use Rattle.fts_tables.specs.declared.rows.JobRow.{JobRow}
use Rattle.fts_tables.specs.declared.rows.JobState.{JobState}
use Rattle.fts_chronicle.specs.Chronicle.{ChronicleData}
use Rattle.fts_chronicle.specs.Finishes.{finish_at}
use Rattle.fts_chronicle.specs.declared.chronicle.CopyReport.{CopyReport}
use Rattle.fts_chronicle.specs.declared.events.FileEvent.{FileEvent}
use Rattle.fts_board.specs.Snapshot.{files_object}
use Rattle.fts_routes.specs.Json.{object_of, array_of, whole_number, id_text, body_of}
use Rattle.fts_routes.specs.Objects.{job_object, file_object, job_state_text, state_in, reason_text}
use Rattle.fts_pages.specs.Events.{events_of_job, events_of_row, newest, left_out, happening_text, bytes_data}
use Rattle.fts_pages.specs.Groups.{group_of}
use Rattle.fts_pages.specs.declared.asked.PageAsked.{PageAsked}
use Rattle.fts_pages.specs.declared.events.EventShown.{EventShown}

-- what is asked of the jobs: those in a state, of which a file comes from a source and goes to a destination, and a file stands with a reason of a group,
-- behind the one of a number, where they are named; whether the greatest number comes first; and how many at most
pub record JobsQuestion : Type 0 where
  pub state : Option JobState
  pub source : Option (List ℕ)
  pub destination : Option (List ℕ)
  pub reason : Option (List ℕ)
  pub after : Option ℕ
  pub newest : Bool
  pub limit : ℕ

-- the same of what the code is asked
abbrev pub question_of : PageAsked → JobsQuestion
question_of asked = record {
  state = asked.state;
  source = option_map string_bytes asked.source;
  destination = option_map string_bytes asked.destination;
  reason = option_map string_bytes asked.reason;
  after = asked.after;
  newest = asked.newest;
  limit = asked.limit;
}

-- whether a state is the one that is asked for
abbrev pub is_in : Option JobState → JobState → Bool
is_in None state = true
is_in (Some wanted) state = bytes_eq (job_state_text wanted) (job_state_text state)

-- whether a name is the one that is asked for
abbrev pub is_at : Option (List ℕ) → List ℕ → Bool
is_at None name = true
is_at (Some wanted) name = bytes_eq wanted name

-- whether a file comes from the source and goes to the destination that are asked for
abbrev pub is_on : JobsQuestion → FileRow → Bool
is_on asked row = is_at asked.source row.source.endpoint && is_at asked.destination row.dest.endpoint

-- whether a file stands with a reason of the group that is asked for
abbrev pub has_reason : JobsQuestion → FileRow → Bool
has_reason asked row = is_at asked.reason (group_of row.reason)

-- whether a job matches: it is in the state, a file of it is on the way, and one has the reason, that are asked for
abbrev pub is_asked : Tables → JobsQuestion → JobRow → Bool
is_asked tables asked job =
    is_in asked.state (state_in tables job)
    && (list_any (is_on asked) (rows_of_job tables.rows job.number) && list_any (has_reason asked) (rows_of_job tables.rows job.number))

-- whether a job comes behind that of a number
abbrev pub is_behind : Bool → Option ℕ → JobRow → Bool
is_behind newest None job = true
is_behind newest (Some after) job = if newest then nat_lt job.number after else nat_lt after job.number

-- jobs in the order asked for, of those in order of number
abbrev pub in_order : Bool → List JobRow → List JobRow
in_order newest jobs = if newest then reverse jobs else jobs

-- the jobs behind the one that is asked for, in the order asked for
abbrev pub jobs_behind : Tables → JobsQuestion → List JobRow
jobs_behind tables asked = in_order asked.newest (filter (is_behind asked.newest asked.after) tables.jobs)

-- of the first so many of these jobs, those that match
abbrev pub matching : ℕ → Tables → JobsQuestion → List JobRow → List JobRow
matching most tables asked jobs = filter (is_asked tables asked) (take most jobs)

-- whether one more of them matches than may be shown
abbrev pub has_more : ℕ → Tables → JobsQuestion → List JobRow → Bool
has_more most tables asked jobs = nat_lt asked.limit (length (matching most tables asked jobs))

-- the job to go on behind: the last that was looked at, where others stand behind it and no further one is known to match
abbrev pub goes_on : ℕ → Bool → List JobRow → Option JobRow
goes_on most more jobs = if more || nat_le (length jobs) most then None else slice_get jobs (most - 1)

-- an object with a member more, or with another value of that member
abbrev pub with_member : List ℕ → Data → Data → Data
with_member key value null = null
with_member key value (boolean flag) = boolean flag
with_member key value (number n) = number n
with_member key value (string text) = string text
with_member key value (array items) = array items
with_member key value (object members) = object (put key value members)

-- a job: the service's object of it, how many of its files are in each state, and when it was settled, by the finishes that entries told
abbrev pub job_shown : Tables → List ℕ → JobRow → Data
job_shown tables finishes job = with_member (codes "finish_time") (whole_number (finish_at finishes job.number))
    (with_member (codes "files_by_state") (files_object (rows_of_job tables.rows job.number)) (job_object tables job))

-- an event as it is shown
abbrev pub event_object : EventShown → Data
event_object shown = with_member (codes "bytes") (bytes_data shown.bytes) (object_of (
    (codes "attempt", whole_number shown.attempt)
    ∷ (codes "event", string (happening_text shown.happening))
    ∷ (codes "reason", string (reason_text shown.reason))
    ∷ (codes "time", whole_number shown.moment)
    ∷ []))

-- a file with its newest events, oldest first, and how many older ones there are
abbrev pub file_with_events : FileRow → List EventShown → Data
file_with_events row events = with_member (codes "events_left_out") (whole_number (left_out (length events)))
    (with_member (codes "events") (array_of event_object (newest events)) (file_object row))

-- a file of a job, by the job's events and the reports
abbrev pub file_shown : List CopyReport → JobRow → List FileEvent → FileRow → Data
file_shown reports job events row = file_with_events row (events_of_row reports job row events)

-- a job and its files, in order of id, by what entries told
abbrev pub job_with_files : Tables → ChronicleData → JobRow → Data
job_with_files tables told job = with_member (codes "files")
    (array_of (file_shown told.reports job (events_of_job told.reports job told.events)) (rows_of_job tables.rows job.number)) (job_shown tables told.finishes job)

-- the id of a job, where there is one
abbrev pub id_of : Option JobRow → Data
id_of None = null
id_of (Some job) = string (id_text job.id)

-- a page by its parts
abbrev pub page_by : Data → Bool → Data → Data
page_by jobs more next = object_of ((codes "jobs", jobs) ∷ (codes "more", boolean more) ∷ (codes "next", next) ∷ [])

-- a page by the jobs behind the one that is asked for, of which so many are looked at, by the finishes that entries told
abbrev pub page_of : ℕ → Tables → List ℕ → JobsQuestion → List JobRow → Data
page_of most tables finishes asked jobs = page_by (array_of (job_shown tables finishes) (take asked.limit (matching most tables asked jobs)))
    (has_more most tables asked jobs) (id_of (goes_on most (has_more most tables asked jobs) jobs))

-- the text of a page, where so many jobs are looked at, by the finishes that entries told
abbrev pub page_text : ℕ → Tables → List ℕ → JobsQuestion → List ℕ
page_text most tables finishes asked = body_of (page_of most tables finishes asked (jobs_behind tables asked))

-- the text of a job and its files, by what entries told
abbrev pub job_text : Tables → ChronicleData → JobRow → List ℕ
job_text tables told job = body_of (job_with_files tables told job)
