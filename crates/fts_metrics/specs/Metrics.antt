-- The metrics of tables: which samples there are, and what each counts.
use Rattle.std.specs.Prelude.{ℕ, Bool, ◌&&◌, bytes_eq, if◌then◌else◌, List, [], ◌++◌, length, codes, filter, count_by, sum_by}
use Rattle.std.specs.List.{flat_map, list_any}
use Rattle.fts_tables.specs.Tables.{Tables, is_submitted, is_active, is_finished, is_failed, is_canceled, is_not_used}
use Rattle.fts_tables.specs.Limits.{is_on_link, held, out_of, into}
use Rattle.fts_tables.specs.History.{is_file_on_link}
use Rattle.fts_tables.specs.declared.limits.TheConstants.{JOURNAL_END}
use Rattle.fts_tables.specs.declared.rows.FileRow.{FileRow}
use Rattle.fts_tables.specs.declared.rows.FileState.{FileState}
use Rattle.fts_tables.specs.declared.rows.JobState.TheVariants.{FinishedDirty, Submitted, Active, Finished, Failed, Canceled}
use Rattle.fts_tables.specs.declared.rows.Outcome.{Outcome}
use Rattle.fts_tables.specs.declared.rows.Outcome.TheVariants.{Verified, SourceMissing, DestinationExists, SourceSize, SourceDigest, ReadBackDiffers, StoreFailed, Stopped}
use Rattle.fts_chronicle.specs.Chronicle.{ChronicleData}
use Rattle.fts_chronicle.specs.declared.chronicle.CopyReport.{CopyReport}
use Rattle.fts_tables.specs.declared.settings.Endpoint.{Endpoint}
use Rattle.fts_tables.specs.declared.settings.LinkRule.{LinkRule}
use Rattle.fts_counts.specs.Jobs.{jobs_in}
use Rattle.fts_counts.specs.Listed.{endpoints_of, links_of}
use Rattle.fts_counts.specs.Outcomes.{bytes_by}
use Rattle.fts_metrics.specs.Form.{head, label, two_labels, sample, plain_sample}

-- how many rows of a link are in a state
abbrev pub rows_in : (FileState → Bool) → List FileRow → List ℕ → List ℕ → ℕ
rows_in is_state rows source dest = count_by (λ row. is_state row.state && is_on_link source dest row) rows

-- the labels of a link
abbrev pub link_labels : List ℕ → List ℕ → List ℕ
link_labels source dest = two_labels (label (codes "source") source) (label (codes "destination") dest)

-- the labels of a link and a state
abbrev pub state_labels : List ℕ → List ℕ → List ℕ
state_labels labels state = two_labels labels (label (codes "state") state)

-- a sample of a link's rows in a state
abbrev pub files_sample : List ℕ → List ℕ → ℕ → List ℕ
files_sample labels state number = sample (codes "fts_files") (state_labels labels state) number

-- the samples of a link's rows, a state each
unfoldable pub files_on : List FileRow → List ℕ → List ℕ → List ℕ
files_on rows source dest =
    files_sample (link_labels source dest) (codes "SUBMITTED") (rows_in is_submitted rows source dest)
    ++ files_sample (link_labels source dest) (codes "ACTIVE") (rows_in is_active rows source dest)
    ++ files_sample (link_labels source dest) (codes "FINISHED") (rows_in is_finished rows source dest)
    ++ files_sample (link_labels source dest) (codes "FAILED") (rows_in is_failed rows source dest)
    ++ files_sample (link_labels source dest) (codes "CANCELED") (rows_in is_canceled rows source dest)
    ++ files_sample (link_labels source dest) (codes "NOT_USED") (rows_in is_not_used rows source dest)

-- none for a link without rows
unfoldable pub files_where : List FileRow → List ℕ → List ℕ → List ℕ
files_where rows source dest = if list_any (is_on_link source dest) rows then files_on rows source dest else []

-- those of the links from one endpoint
abbrev pub files_from : List FileRow → List Endpoint → List ℕ → List ℕ
files_from rows endpoints source = flat_map (λ (endpoint : Endpoint). files_where rows source endpoint.name) endpoints

-- fts_files: the rows of each link between listed endpoints that has one, by state
abbrev pub files_text : List FileRow → List Endpoint → List ℕ
files_text rows endpoints =
    head (codes "fts_files") (codes "Files of each link by state.") (codes "gauge")
    ++ flat_map (λ (endpoint : Endpoint). files_from rows endpoints endpoint.name) endpoints

-- a gauge: its name, what it counts, and the samples of each of some items
abbrev pub gauge : {Item : Type 0} → List ℕ → List ℕ → (Item → List ℕ) → List Item → List ℕ
gauge name help samples items = head name help (codes "gauge") ++ flat_map samples items

-- the ACTIVE files of a link
abbrev pub link_active_sample : List FileRow → LinkRule → List ℕ
link_active_sample rows link = sample (codes "fts_link_active") (link_labels link.source link.dest) (held rows link.source link.dest)

-- how many there may be
abbrev pub link_limit_sample : LinkRule → List ℕ
link_limit_sample link = sample (codes "fts_link_limit") (link_labels link.source link.dest) link.max_active

-- fts_link_active: the ACTIVE files of each listed link
abbrev pub link_active_text : List FileRow → List LinkRule → List ℕ
link_active_text rows links = gauge (codes "fts_link_active") (codes "Files that are being copied over a listed link.") (link_active_sample rows) links

-- fts_link_limit: how many there may be
abbrev pub link_limit_text : List LinkRule → List ℕ
link_limit_text links = gauge (codes "fts_link_limit") (codes "How many files may be copied at once over a listed link.") link_limit_sample links

-- the labels of an endpoint in a direction
abbrev pub endpoint_labels : List ℕ → List ℕ → List ℕ
endpoint_labels endpoint direction = two_labels (label (codes "endpoint") endpoint) (label (codes "direction") direction)

-- a number of an endpoint for each direction
unfoldable pub both_directions : List ℕ → List ℕ → ℕ → ℕ → List ℕ
both_directions name endpoint inbound outbound =
    sample name (endpoint_labels endpoint (codes "inbound")) inbound ++ sample name (endpoint_labels endpoint (codes "outbound")) outbound

-- the ACTIVE files to an endpoint, and from it
abbrev pub endpoint_active_samples : List FileRow → Endpoint → List ℕ
endpoint_active_samples rows endpoint = both_directions (codes "fts_endpoint_active") endpoint.name (into rows endpoint.name) (out_of rows endpoint.name)

-- how many there may be
abbrev pub endpoint_limit_samples : Endpoint → List ℕ
endpoint_limit_samples endpoint = both_directions (codes "fts_endpoint_limit") endpoint.name endpoint.inbound endpoint.outbound

-- fts_endpoint_active: the ACTIVE files to each endpoint, and from it
abbrev pub endpoint_active_text : List FileRow → List Endpoint → List ℕ
endpoint_active_text rows endpoints =
    gauge (codes "fts_endpoint_active") (codes "Files that are being copied to or from a storage.") (endpoint_active_samples rows) endpoints

-- fts_endpoint_limit: how many there may be
abbrev pub endpoint_limit_text : List Endpoint → List ℕ
endpoint_limit_text endpoints =
    gauge (codes "fts_endpoint_limit") (codes "How many files may be copied at once to or from a storage.") endpoint_limit_samples endpoints

-- a sample of the jobs in a state
abbrev pub jobs_sample : List ℕ → ℕ → List ℕ
jobs_sample state number = sample (codes "fts_jobs") (label (codes "state") state) number

-- fts_jobs: the jobs by state
unfoldable pub jobs_text : Tables → List ℕ
jobs_text tables =
    head (codes "fts_jobs") (codes "Jobs by state.") (codes "gauge")
    ++ jobs_sample (codes "SUBMITTED") (jobs_in tables Submitted)
    ++ jobs_sample (codes "ACTIVE") (jobs_in tables Active)
    ++ jobs_sample (codes "FINISHED") (jobs_in tables Finished)
    ++ jobs_sample (codes "FINISHEDDIRTY") (jobs_in tables FinishedDirty)
    ++ jobs_sample (codes "FAILED") (jobs_in tables Failed)
    ++ jobs_sample (codes "CANCELED") (jobs_in tables Canceled)

-- the samples of a link that has a row
unfoldable pub link_where : (List ℕ → List ℕ → List ℕ) → List FileRow → List ℕ → List ℕ → List ℕ
link_where samples rows source dest = if list_any (is_on_link source dest) rows then samples source dest else []

-- those of the links from one endpoint
abbrev pub links_from : (List ℕ → List ℕ → List ℕ) → List FileRow → List Endpoint → List ℕ → List ℕ
links_from samples rows endpoints source = flat_map (λ (endpoint : Endpoint). link_where samples rows source endpoint.name) endpoints

-- the samples of each link between listed endpoints that has a row
abbrev pub each_link : (List ℕ → List ℕ → List ℕ) → List FileRow → List Endpoint → List ℕ
each_link samples rows endpoints = flat_map (λ (endpoint : Endpoint). links_from samples rows endpoints endpoint.name) endpoints

-- the reports of a link's files; a file without a row is on none
abbrev pub reports_on : Tables → List CopyReport → List ℕ → List ℕ → List CopyReport
reports_on tables reports source dest = filter (λ report. is_file_on_link source dest tables report.file) reports

-- the bytes of a link's copies that were verified
abbrev pub copied_on : Tables → List CopyReport → List ℕ → List ℕ → ℕ
copied_on tables reports source dest = sum_by (λ report. bytes_by report.outcome) (reports_on tables reports source dest)

-- a sample of them
abbrev pub copied_sample : Tables → List CopyReport → List ℕ → List ℕ → List ℕ
copied_sample tables reports source dest =
    sample (codes "fts_copied_bytes_total") (link_labels source dest) (copied_on tables reports source dest)

-- fts_copied_bytes_total: the bytes of each link's copies that were verified
abbrev pub copied_text : Tables → List CopyReport → List Endpoint → List ℕ
copied_text tables reports endpoints =
    head (codes "fts_copied_bytes_total") (codes "Bytes of verified copies over each link.") (codes "counter")
    ++ each_link (copied_sample tables reports) tables.rows endpoints

-- an outcome in a word
abbrev pub word_of : Outcome → List ℕ
word_of (Verified size digest) = codes "verified"
word_of SourceMissing = codes "source_missing"
word_of DestinationExists = codes "destination_exists"
word_of (SourceSize seen) = codes "source_size"
word_of (SourceDigest seen) = codes "source_digest"
word_of (ReadBackDiffers at) = codes "read_back_differs"
word_of StoreFailed = codes "store_failed"
word_of Stopped = codes "stopped"

-- how many reports have an outcome of this word
abbrev pub reports_of_word : List CopyReport → List ℕ → ℕ
reports_of_word reports word = count_by (λ report. bytes_eq (word_of report.outcome) word) reports

-- a sample of a link's reports by their outcome
abbrev pub outcome_sample : List ℕ → List CopyReport → List ℕ → List ℕ
outcome_sample labels reports word = sample (codes "fts_reports_total") (two_labels labels (label (codes "outcome") word)) (reports_of_word reports word)

-- the samples of some reports, an outcome each
unfoldable pub outcome_samples : List ℕ → List CopyReport → List ℕ
outcome_samples labels reports =
    outcome_sample labels reports (codes "verified")
    ++ outcome_sample labels reports (codes "source_missing")
    ++ outcome_sample labels reports (codes "destination_exists")
    ++ outcome_sample labels reports (codes "source_size")
    ++ outcome_sample labels reports (codes "source_digest")
    ++ outcome_sample labels reports (codes "read_back_differs")
    ++ outcome_sample labels reports (codes "store_failed")
    ++ outcome_sample labels reports (codes "stopped")

-- those of a link's reports
abbrev pub reports_samples : Tables → List CopyReport → List ℕ → List ℕ → List ℕ
reports_samples tables reports source dest = outcome_samples (link_labels source dest) (reports_on tables reports source dest)

-- fts_reports_total: the reports of each link's files, by their outcome
abbrev pub reports_text : Tables → List CopyReport → List Endpoint → List ℕ
reports_text tables reports endpoints =
    head (codes "fts_reports_total") (codes "Reports of copies over each link by outcome.") (codes "counter")
    ++ each_link (reports_samples tables reports) tables.rows endpoints

-- fts_last_entry_timestamp_seconds: the moment of the last entry
unfoldable pub last_entry_text : ℕ → List ℕ
last_entry_text moment =
    head (codes "fts_last_entry_timestamp_seconds") (codes "Moment of the last entry in seconds since 1970.") (codes "gauge")
    ++ plain_sample (codes "fts_last_entry_timestamp_seconds") moment

-- fts_rows, fts_journal_bytes, fts_journal_limit_bytes: the rows, the bytes of the journal up to its last gate, and where it ends
unfoldable pub sizes_text : List FileRow → ℕ → List ℕ
sizes_text rows used =
    head (codes "fts_rows") (codes "File rows.") (codes "gauge")
    ++ plain_sample (codes "fts_rows") (length rows)
    ++ head (codes "fts_journal_bytes") (codes "Bytes of the journal.") (codes "gauge")
    ++ plain_sample (codes "fts_journal_bytes") used
    ++ head (codes "fts_journal_limit_bytes") (codes "How many bytes the journal may have.") (codes "gauge")
    ++ plain_sample (codes "fts_journal_limit_bytes") JOURNAL_END

-- all of them
abbrev pub metrics_text : Tables → ChronicleData → ℕ → List ℕ
metrics_text tables told used =
    jobs_text tables
    ++ files_text tables.rows (endpoints_of tables.settings)
    ++ copied_text tables told.reports (endpoints_of tables.settings)
    ++ reports_text tables told.reports (endpoints_of tables.settings)
    ++ link_active_text tables.rows (links_of tables.settings)
    ++ link_limit_text (links_of tables.settings)
    ++ endpoint_active_text tables.rows (endpoints_of tables.settings)
    ++ endpoint_limit_text (endpoints_of tables.settings)
    ++ sizes_text tables.rows used
    ++ last_entry_text told.moment
