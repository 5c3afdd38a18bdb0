-- What happened to a file, as its job's page shows it: its submission, and what the journal's entries did to it by name.
use Rattle.std.specs.Prelude.{ℕ, ◌+◌, ◌-◌, ◌==◌, ◌&&◌, ◌||◌, Bool, true, false, if◌then◌else◌, nat_lt, nat_le, List, ◌∷◌, length, drop, filter, slice_get, Option, Some, None, codes}
use Rattle.std.specs.List.{filter_map}
use Rattle.serde_json.specs.Data.{Data, null}
use Rattle.fts_tables.specs.Tables.{is_canceled}
use Rattle.fts_tables.specs.declared.rows.FileRow.{FileRow}
use Rattle.fts_tables.specs.declared.rows.FileState.{FileState}
use Rattle.fts_tables.specs.declared.rows.FileState.TheVariants.{Submitted, Active, Finished, Failed, Canceled, NotUsed}
use Rattle.fts_tables.specs.declared.rows.JobKind.{JobKind}
use Rattle.fts_tables.specs.declared.rows.JobKind.TheVariants.{Plain, Replica, Multihop}
use Rattle.fts_tables.specs.declared.rows.JobRow.{JobRow}
use Rattle.fts_tables.specs.declared.rows.Outcome.{Outcome}
use Rattle.fts_tables.specs.declared.rows.Reason.{Reason}
use Rattle.fts_tables.specs.declared.rows.Reason.TheVariants.{Cancelled, Ended, Expired, None as NoReason}
use Rattle.fts_chronicle.specs.declared.chronicle.CopyReport.{CopyReport}
use Rattle.fts_chronicle.specs.declared.events.FileEvent.{FileEvent}
use Rattle.fts_chronicle.specs.declared.events.FileEvent.TheVariants.{Claimed, Reported, JobCancelled, FileCancelled}
use Rattle.fts_counts.specs.Outcomes.{size_of}
use Rattle.fts_routes.specs.Json.{whole_number}
use Rattle.fts_pages.specs.declared.events.EventShown.{EventShown}
use Rattle.fts_pages.specs.declared.events.TheConstants.{MAX_EVENTS}
use Rattle.fts_pages.specs.declared.events.Happening.{Happening}
use Rattle.fts_pages.specs.declared.events.Happening.TheVariants.{Submission, Claim, Finish, Failure, Retry, CancelAsked, Cancellation}

-- whether a file is one of a job's, by its id
abbrev pub is_file_of : JobRow → ℕ → Bool
is_file_of job file = nat_le job.first file && nat_lt file (job.first + job.count)

-- whether a report, where there is one, is of a file of a job
abbrev pub is_report_of : JobRow → Option CopyReport → Bool
is_report_of job None = false
is_report_of job (Some report) = is_file_of job report.file

-- whether an event is of a job or of a file of it, by the reports
abbrev pub is_event_of : List CopyReport → JobRow → FileEvent → Bool
is_event_of reports job (Claimed moment file attempt) = is_file_of job file
is_event_of reports job (Reported place state) = is_report_of job (slice_get reports place)
is_event_of reports job (JobCancelled moment number) = number == job.number
is_event_of reports job (FileCancelled moment number file) = number == job.number

-- the events of a job, by the reports
abbrev pub events_of_job : List CopyReport → JobRow → List FileEvent → List FileEvent
events_of_job reports job events = filter (is_event_of reports job) events

-- what a report made of its file, by the state behind it; none leaves a file ACTIVE or NOT_USED
abbrev pub happening_by : FileState → Happening
happening_by Submitted = Retry
happening_by Active = Retry
happening_by Finished = Finish
happening_by Failed = Failure
happening_by Canceled = Cancellation
happening_by NotUsed = Failure

-- the reason that goes with a report, by the state behind it: why a copy failed, or that it was cancelled
abbrev pub reason_by : FileState → Outcome → Reason
reason_by Finished outcome = NoReason
reason_by Canceled outcome = Cancelled
reason_by _ outcome = Ended outcome

-- the bytes that go with a report, by the state behind it: the size of a file that has finished
abbrev pub bytes_by : FileState → Outcome → Option ℕ
bytes_by Finished outcome = size_of outcome
bytes_by _ outcome = None

-- an event without attempt, reason and bytes
abbrev pub plain_event : ℕ → Happening → EventShown
plain_event moment happening = record { moment = moment; happening = happening; attempt = 0; reason = NoReason; bytes = None }

-- the submission of a job's file
abbrev pub submission_of : JobRow → EventShown
submission_of job = plain_event job.submitted_at Submission

-- a claim
abbrev pub claim_event : ℕ → ℕ → EventShown
claim_event moment attempt = record { moment = moment; happening = Claim; attempt = attempt; reason = NoReason; bytes = None }

-- the end of a copy, by the state behind its report
abbrev pub report_event : CopyReport → FileState → EventShown
report_event report state = record {
  moment = report.moment;
  happening = happening_by state;
  attempt = report.attempt;
  reason = reason_by state report.outcome;
  bytes = bytes_by state report.outcome;
}

-- whether a reason is that a file was cancelled
abbrev pub is_cancelled : Reason → Bool
is_cancelled Cancelled = true
is_cancelled _ = false

-- what a cancellation did to a row, by how it stands: asked where it was out, cancelled where it waited, and else nothing
abbrev pub cancel_event : FileRow → ℕ → Option EventShown
cancel_event row moment =
    if row.cancel_asked then Some (plain_event moment CancelAsked)
    else if is_canceled row.state && is_cancelled row.reason
    then Some (record { moment = moment; happening = Cancellation; attempt = 0; reason = Cancelled; bytes = None })
    else None

-- whether the cancellation of one file is that of all files of the job
abbrev pub is_joint : JobKind → Bool
is_joint Plain = false
is_joint Replica = true
is_joint Multihop = true

-- what a report, where there is one, made of a row, by the state behind it
abbrev pub ending_of : FileRow → FileState → Option CopyReport → Option EventShown
ending_of row state None = None
ending_of row state (Some report) = if report.file == row.id then Some (report_event report state) else None

-- what an event did to a row of a job, by the reports
abbrev pub event_of : List CopyReport → JobRow → FileRow → FileEvent → Option EventShown
event_of reports job row (Claimed moment file attempt) = if file == row.id then Some (claim_event moment attempt) else None
event_of reports job row (Reported place state) = ending_of row state (slice_get reports place)
event_of reports job row (JobCancelled moment number) = if number == job.number then cancel_event row moment else None
event_of reports job row (FileCancelled moment number file) =
    if number == job.number && (file == row.id || is_joint job.kind) then cancel_event row moment else None

-- what happened to a row, oldest first: it was submitted, and then what these events did to it, by the reports
abbrev pub events_of_row : List CopyReport → JobRow → FileRow → List FileEvent → List EventShown
events_of_row reports job row events = submission_of job ∷ filter_map (event_of reports job row) events

-- how many of so many events are left out
abbrev pub left_out : ℕ → ℕ
left_out count = count - MAX_EVENTS

-- the word of what happened
abbrev pub happening_text : Happening → List ℕ
happening_text Submission = codes "submitted"
happening_text Claim = codes "claimed"
happening_text Finish = codes "finished"
happening_text Failure = codes "failed"
happening_text Retry = codes "failed, to be tried again"
happening_text CancelAsked = codes "cancel asked"
happening_text Cancellation = codes "canceled"

-- a number of bytes, and null where there is none
abbrev pub bytes_data : Option ℕ → Data
bytes_data None = null
bytes_data (Some bytes) = whole_number bytes

-- the newest of these events
abbrev pub newest : List EventShown → List EventShown
newest shown = drop (left_out (length shown)) shown
