-- What replies show of the tables: job objects, file objects and the settings in force.
use Rattle.std.specs.Prelude.{ℕ, Bool, if◌then◌else◌, List, [], ◌∷◌, ◌++◌, Option, Some, None, unwrap_or, codes, decimal}
use Rattle.std.specs.Option.{option_map_or}
use Rattle.serde_json.specs.Data.{Data, null, boolean, string}
use Rattle.hex.specs.Hex.{encode_lower}
use Rattle.fts_tables.specs.SettingsData.{SettingsData}
use Rattle.fts_tables.specs.Tables.{Tables, is_finished, rows_of_job, job_at, row_at}
use Rattle.fts_tables.specs.Moves.{state_of_job}
use Rattle.fts_tables.specs.declared.places.Place.{Place}
use Rattle.fts_tables.specs.declared.settings.Endpoint.{Endpoint}
use Rattle.fts_tables.specs.declared.settings.LinkRule.{LinkRule}
use Rattle.fts_tables.specs.declared.settings.Weight.{Weight}
use Rattle.fts_tables.specs.declared.rows.FileRow.{FileRow}
use Rattle.fts_tables.specs.declared.rows.JobRow.{JobRow}
use Rattle.fts_tables.specs.declared.rows.JobKind.{JobKind}
use Rattle.fts_tables.specs.declared.rows.JobKind.TheVariants.{Plain, Replica, Multihop}
use Rattle.fts_tables.specs.declared.rows.FileState.{FileState}
use Rattle.fts_tables.specs.declared.rows.FileState.TheVariants.{Submitted, Active, Finished, Failed, Canceled, NotUsed}
use Rattle.fts_tables.specs.declared.rows.JobState.{JobState}
use Rattle.fts_tables.specs.declared.rows.JobState.TheVariants.{FinishedDirty, Submitted as JobSubmitted, Active as JobActive, Finished as JobFinished, Failed as JobFailed, Canceled as JobCanceled}
use Rattle.fts_tables.specs.declared.rows.Outcome.{Outcome}
use Rattle.fts_tables.specs.declared.rows.Outcome.TheVariants.{Verified, SourceMissing, DestinationExists, SourceSize, SourceDigest, ReadBackDiffers, StoreFailed, Stopped}
use Rattle.fts_tables.specs.declared.rows.Reason.{Reason}
use Rattle.fts_tables.specs.declared.rows.Reason.TheVariants.{Cancelled, Ended, Expired, None as NoReason}
use Rattle.fts_routes.specs.Json.{object_of, whole_number, id_text, digest_text}

-- the word of a file's state
abbrev pub file_state_text : FileState → List ℕ
file_state_text Submitted = codes "SUBMITTED"
file_state_text Active = codes "ACTIVE"
file_state_text Finished = codes "FINISHED"
file_state_text Failed = codes "FAILED"
file_state_text Canceled = codes "CANCELED"
file_state_text NotUsed = codes "NOT_USED"

-- the word of a job's state
abbrev pub job_state_text : JobState → List ℕ
job_state_text JobSubmitted = codes "SUBMITTED"
job_state_text JobActive = codes "ACTIVE"
job_state_text JobFinished = codes "FINISHED"
job_state_text FinishedDirty = codes "FINISHEDDIRTY"
job_state_text JobFailed = codes "FAILED"
job_state_text JobCanceled = codes "CANCELED"

-- the word of a job's kind
abbrev pub kind_text : JobKind → List ℕ
kind_text Plain = codes "plain"
kind_text Replica = codes "replica"
kind_text Multihop = codes "multihop"

-- how a copy ended, as a reason; a verified one gives none
abbrev pub outcome_text : Outcome → List ℕ
outcome_text (Verified size digest) = []
outcome_text SourceMissing = codes "source missing"
outcome_text DestinationExists = codes "destination exists"
outcome_text (SourceSize seen) = codes "source size " ++ decimal seen
outcome_text (SourceDigest seen) = codes "source digest " ++ digest_text seen
outcome_text (ReadBackDiffers at) = codes "read back differs at " ++ decimal at
outcome_text StoreFailed = codes "store failed"
outcome_text Stopped = codes "stopped"

-- why a row stands as it does
abbrev pub reason_text : Reason → List ℕ
reason_text NoReason = []
reason_text Cancelled = codes "cancelled"
reason_text Expired = codes "expired"
reason_text (Ended outcome) = outcome_text outcome

-- a place as a URL
abbrev pub surl_text : Place → List ℕ
surl_text place = place.endpoint ++ codes "/" ++ place.path

-- the checksum that is wanted, where one is
abbrev pub checksum_text : Option (List ℕ) → List ℕ
checksum_text None = []
checksum_text (Some digest) = codes "MD5:" ++ digest_text digest

-- the digest that was seen, where a file is in this state: it is shown of a finished one
abbrev pub seen_digest_text_of : FileState → Option (List ℕ) → List ℕ
seen_digest_text_of state None = []
seen_digest_text_of state (Some digest) = if is_finished state then digest_text digest else []

-- the digest that was seen, of a finished row
abbrev pub seen_digest_text : FileRow → List ℕ
seen_digest_text row = seen_digest_text_of row.state row.digest

-- the state of a job in tables
abbrev pub state_in : Tables → JobRow → JobState
state_in tables job = state_of_job job.kind (rows_of_job tables.rows job.number)

-- settings that list nothing; they stand for those of tables that were never restarted
abbrev pub no_settings : SettingsData
no_settings = record { vo = []; workers = 0; default_max_active = 0; endpoints = []; links = []; weights = [] }

-- the settings in force
abbrev pub settings_in : Tables → SettingsData
settings_in tables = unwrap_or tables.settings no_settings

-- the object of a job of a VO in a state
abbrev pub job_in_state : List ℕ → JobState → JobRow → Data
job_in_state vo state job = object_of (
    (codes "job_id", string (id_text job.id))
    ∷ (codes "job_state", string (job_state_text state))
    ∷ (codes "kind", string (kind_text job.kind))
    ∷ (codes "priority", whole_number job.priority)
    ∷ (codes "retry", whole_number job.retry)
    ∷ (codes "retry_delay", whole_number job.delay)
    ∷ (codes "submit_time", whole_number job.submitted_at)
    ∷ (codes "vo_name", string vo)
    ∷ [])

-- the job object
abbrev pub job_object : Tables → JobRow → Data
job_object tables job = job_in_state (settings_in tables).vo (state_in tables job) job

-- the object of a file in a state, with these texts for its checksum, its destination, the digest that was seen, its reason and its source
abbrev pub file_in_state : FileRow → FileState → Bool → List ℕ → List ℕ → List ℕ → List ℕ → List ℕ → Data
file_in_state row state cancel_asked checksum dest digest reason source = object_of (
    (codes "activity", string row.activity)
    ∷ (codes "attempt", whole_number row.attempt)
    ∷ (codes "cancel_asked", boolean cancel_asked)
    ∷ (codes "checksum", string checksum)
    ∷ (codes "dest_surl", string dest)
    ∷ (codes "digest", string digest)
    ∷ (codes "file_id", whole_number row.id)
    ∷ (codes "file_index", whole_number row.index)
    ∷ (codes "file_state", string (file_state_text state))
    ∷ (codes "filesize", whole_number row.size)
    ∷ (codes "not_before", whole_number row.not_before)
    ∷ (codes "reason", string reason)
    ∷ (codes "source_surl", string source)
    ∷ [])

-- the file object
abbrev pub file_object : FileRow → Data
file_object row = file_in_state row row.state row.cancel_asked
    (checksum_text row.wanted) (surl_text row.dest) (seen_digest_text row) (reason_text row.reason) (surl_text row.source)

-- the object of an accepted submission
abbrev pub accepted_object : ℕ → Data
accepted_object id = object_of ((codes "job_id", string (id_text id)) ∷ [])

-- a job of a number, as it stands in tables
abbrev pub job_shown : ℕ → Tables → Data
job_shown number tables = option_map_or (job_object tables) (job_at tables.jobs number) null

-- a file of an id, as it stands in tables
abbrev pub file_shown : ℕ → Tables → Data
file_shown file tables = option_map_or file_object (row_at tables.rows file) null

-- a link's rule
abbrev pub link_object : LinkRule → Data
link_object link = object_of (
    (codes "destination", string link.dest)
    ∷ (codes "max_active", whole_number link.max_active)
    ∷ (codes "source", string link.source)
    ∷ (codes "symbolicname", string link.symbolic)
    ∷ [])

-- an endpoint with its limits
abbrev pub endpoint_object : Endpoint → Data
endpoint_object endpoint = object_of (
    (codes "inbound_max_active", whole_number endpoint.inbound)
    ∷ (codes "outbound_max_active", whole_number endpoint.outbound)
    ∷ (codes "storage", string endpoint.name)
    ∷ [])

-- an activity with its weight
abbrev pub weight_object : Weight → Data
weight_object weight = object_of ((codes "activity", string weight.name) ∷ (codes "weight", whole_number weight.weight) ∷ [])

-- a ban of a storage, and how many files it cancelled
abbrev pub ban_object : List ℕ → ℕ → Data
ban_object storage cancelled = object_of ((codes "cancelled", whole_number cancelled) ∷ (codes "storage", string storage) ∷ [])

-- an entry of the journal: its spelling in lower hexadecimal digits, how many entries there are, and its number
abbrev pub entry_object : List ℕ → ℕ → ℕ → Data
entry_object body count number = object_of (
    (codes "body", string (encode_lower body))
    ∷ (codes "count", whole_number count)
    ∷ (codes "number", whole_number number)
    ∷ [])

-- the end of a ban of a storage
abbrev pub unban_object : List ℕ → Data
unban_object storage = object_of ((codes "storage", string storage) ∷ [])
