-- What a request is answered over a list, at a moment, and the entry that it adds. The checks come in this order: the route, its method,
-- the job, the file, the document's or the query's rules, and then what the machine and the journal refuse.
use Rattle.std.specs.Prelude.{◌≡◌, ◌≢◌, ◌⊎◌, ℕ, ◌+◌, ◌||◌, Bool, if◌then◌else◌, List, [], ◌∷◌, ◌++◌, length, Option, Some, None, option_map, option_and_then, unwrap_or, slice_get, bytes_eq, codes, Result, Ok, Err}
use Rattle.std.specs.Option.{option_map_or}
use Rattle.serde_json.specs.Data.{Data, string}
use Rattle.fts_tables.specs.Tables.{Tables, job_at, rows_of_job}
use Rattle.fts_tables.specs.JobData.{JobData}
use Rattle.fts_tables.specs.Moves.{job_of_new}
use Rattle.fts_tables.specs.Step.{Outcomes, step}
use Rattle.fts_tables.specs.History.{tables_of, tables_from}
use Rattle.fts_tables.specs.declared.commands.Answer.{Answer}
use Rattle.fts_tables.specs.declared.commands.Answer.TheVariants.{Restarted, Submitted, Cancelled, PrioritySet, Claimed, Reported, Banned, Unbanned, Expired}
use Rattle.fts_tables.specs.declared.commands.Entry.{Entry}
use Rattle.fts_tables.specs.declared.commands.Command.{Command}
use Rattle.fts_tables.specs.declared.commands.Command.TheVariants.{Submit, CancelJob, CancelFile, SetPriority, Ban, Unban}
use Rattle.fts_tables.specs.declared.commands.Refusal.{Refusal}
use Rattle.fts_tables.specs.declared.commands.Refusal.TheVariants.{NoJob, NoFile, Duplicate, JobsFull, RowsFull, Idle, Stale, Unchanged, NoStorage, NotBanned}
use Rattle.fts_tables.specs.declared.rows.JobRow.{JobRow}
use Rattle.fts_tables.specs.declared.rows.FileRow.{FileRow}
use Rattle.fts_tables.specs.Counts.{Rose}
use Rattle.fts_disk.specs.Disk.{DiskState, IsTold}
use Rattle.fts_wire.specs.RequestData.{RequestData}
use Rattle.fts_wire.specs.declared.response.Allow.TheVariants.{Get as AllowGet}
use Rattle.fts_wire.specs.declared.response.Reply.{Reply}
use Rattle.fts_jobdoc.specs.Bans.{ban_of}
use Rattle.fts_jobdoc.specs.Documents.{job_of, priority_of}
use Rattle.fts_jobdoc.specs.declared.ban.BanAsk.{BanAsk}
use Rattle.fts_jobdoc.specs.declared.ban.BanFault.{BanFault}
use Rattle.fts_jobdoc.specs.declared.ban.BanFault.TheVariants.{BadStorage}
use Rattle.fts_jobdoc.specs.declared.fault.DocFault.{DocFault}
use Rattle.fts_keep.specs.Keeps.{KeepData, bodies_of, used_of, used_after}
use Rattle.fts_keep.specs.Applied.{Applies, DoubtMoves, applied_to, entry_by}
use Rattle.fts_keep.specs.declared.fault.KeepFault.TheVariants.{Rule, DiskFailed, JournalFull, Damaged, Memory}
use Rattle.fts_routes.specs.Json.{array_of}
use Rattle.fts_routes.specs.Objects.{settings_in, job_object, file_object, link_object, endpoint_object, weight_object, job_shown, file_shown, accepted_object, ban_object, unban_object, entry_object}
use Rattle.fts_routes.specs.Routes.{Route, Jobs, Job, Files, File, Links, Endpoints, Shares, Bans, JournalEntry, route_of, allow_of, job_named, file_named, entry_number}
use Rattle.fts_routes.specs.Queries.{QueryFault, asked_in, jobs_asked, storage_asked}
use Rattle.fts_routes.specs.Refusals.{shows, bad_document, bad_ban, bad_query, no_route, no_job, no_file, no_storage, not_banned, no_entry, no_method, duplicate, disk_failed, rows_full, jobs_full, journal_full, no_memory}

-- what a request comes to before any command is tried
pub data Plan : Type 0 where
  -- a reply that needs no command
  Replies : Reply → Plan
  -- a look at the entry of this number, where a text spells one
  Looks : Option ℕ → Plan
  -- a command, and what a reply shows of the tables behind it
  Tries : Command → (Tables → Data) → Plan

-- a plan that asks for a job, or a file, that isn't there
abbrev pub if_job : Option JobRow → (JobRow → Plan) → Plan
if_job None plan = Replies no_job
if_job (Some job) plan = plan job

abbrev pub if_file : Option FileRow → (FileRow → Plan) → Plan
if_file None plan = Replies no_file
if_file (Some row) plan = plan row

-- a plan by what was read of a document
abbrev pub if_read : {T : Type 0} → Result T DocFault → (T → Plan) → Plan
if_read (Err fault) plan = Replies (bad_document fault)
if_read (Ok value) plan = plan value

-- a plan by the ban that was read of a document
abbrev pub if_ban : Result BanAsk BanFault → (BanAsk → Plan) → Plan
if_ban (Err fault) plan = Replies (bad_ban fault)
if_ban (Ok asked) plan = plan asked

-- a plan for the storage that a query names
abbrev pub if_storage : Option (List ℕ) → (List ℕ → Plan) → Plan
if_storage None plan = Replies (bad_ban BadStorage)
if_storage (Some storage) plan = plan storage

-- the jobs that a query asks for
abbrev pub jobs_plan : Tables → Result (List (List ℕ) × ℕ) QueryFault → Plan
jobs_plan tables (Err fault) = Replies (bad_query fault)
jobs_plan tables (Ok asked) = Replies (shows (array_of (job_object tables) (jobs_asked tables asked.0 asked.1)))

-- the id that the machine gives a new job: the one that it asks for, or the standard one of the next number
abbrev pub id_of_new : Tables → JobData → ℕ
id_of_new tables job = (job_of_new tables tables.moment job).id

-- a submission
abbrev pub submission : Tables → ℕ → JobData → Plan
submission tables now job = Tries (Submit now job) (λ after. accepted_object (id_of_new tables job))

-- whether a request has this method
abbrev pub has_method : RequestData → List ℕ → Bool
has_method request method = bytes_eq request.method method

-- /jobs: a look at the jobs, or a submission
abbrev pub plan_on_jobs : Tables → ℕ → RequestData → Plan
plan_on_jobs tables now request =
    if has_method request (codes "GET") then jobs_plan tables (asked_in request.query)
    else if has_method request (codes "POST") || has_method request (codes "PUT")
    then if_read (job_of request.body (settings_in tables)) (submission tables now)
    else Replies (no_method (allow_of Jobs))

-- a look at a job
abbrev pub look_at_job : Tables → JobRow → Plan
look_at_job tables job = Replies (shows (job_object tables job))

-- a cancellation of a job
abbrev pub cancellation : ℕ → JobRow → Plan
cancellation now job = Tries (CancelJob now job.number) (job_shown job.number)

-- another priority for a job
abbrev pub prioritization : ℕ → JobRow → ℕ → Plan
prioritization now job priority = Tries (SetPriority now job.number priority) (job_shown job.number)

-- /jobs/{id}: a look at a job, its cancellation, or another priority for it
abbrev pub plan_on_job : Tables → ℕ → RequestData → List ℕ → Plan
plan_on_job tables now request id =
    if has_method request (codes "GET") then if_job (job_named tables id) (look_at_job tables)
    else if has_method request (codes "DELETE") then if_job (job_named tables id) (cancellation now)
    else if has_method request (codes "POST")
    then if_job (job_named tables id) (λ job. if_read (priority_of request.body) (prioritization now job))
    else Replies (no_method (allow_of (Job id)))

-- a look at the files of a job
abbrev pub look_at_files : Tables → JobRow → Plan
look_at_files tables job = Replies (shows (array_of file_object (rows_of_job tables.rows job.number)))

-- /jobs/{id}/files: a look at the files of a job
abbrev pub plan_on_files : Tables → RequestData → List ℕ → Plan
plan_on_files tables request id =
    if has_method request (codes "GET") then if_job (job_named tables id) (look_at_files tables)
    else Replies (no_method (allow_of (Files id)))

-- a cancellation of a file of a job
abbrev pub file_cancellation : ℕ → JobRow → FileRow → Plan
file_cancellation now job row = Tries (CancelFile now job.number row.id) (file_shown row.id)

-- /jobs/{id}/files/{file}: a cancellation of a file
abbrev pub plan_on_file : Tables → ℕ → RequestData → List ℕ → List ℕ → Plan
plan_on_file tables now request id file =
    if has_method request (codes "DELETE")
    then if_job (job_named tables id) (λ job. if_file (file_named tables job file) (file_cancellation now job))
    else Replies (no_method (allow_of (File id file)))

-- a look at a list of the settings
abbrev pub look_at_settings : {A : Type 0} → RequestData → (A → Data) → List A → Plan
look_at_settings request shown items =
    if has_method request (codes "GET") then Replies (shows (array_of shown items)) else Replies (no_method AllowGet)

-- how many files an answer says became CANCELED
abbrev pub cancelled_of : Answer → ℕ
cancelled_of (Banned cancelled) = cancelled
cancelled_of (Expired cancelled) = cancelled
cancelled_of _ = 0

-- the same of what comes of a command; a refusal cancels nothing
abbrev pub cancelled_in : Outcomes → ℕ
cancelled_in (Ok done) = cancelled_of done.1
cancelled_in (Err refusal) = 0

-- a ban, and how many files the machine answers that it cancels
abbrev pub banning : Tables → ℕ → BanAsk → Plan
banning tables now asked =
    Tries (Ban now asked.storage asked.cancel) (λ after. ban_object asked.storage (cancelled_in (step tables (Ban now asked.storage asked.cancel))))

-- the end of a ban
abbrev pub unbanning : ℕ → List ℕ → Plan
unbanning now storage = Tries (Unban now storage) (λ after. unban_object storage)

-- /ban/se: a look at the banned storages, a ban, or the end of one
abbrev pub plan_on_bans : Tables → ℕ → RequestData → Plan
plan_on_bans tables now request =
    if has_method request (codes "GET") then Replies (shows (array_of string tables.banned))
    else if has_method request (codes "POST") then if_ban (ban_of request.body) (banning tables now)
    else if has_method request (codes "DELETE") then if_storage (storage_asked request.query) (unbanning now)
    else Replies (no_method (allow_of Bans))

-- /journal/{n}: a look at an entry
abbrev pub plan_on_entry : RequestData → List ℕ → Plan
plan_on_entry request text =
    if has_method request (codes "GET") then Looks (entry_number text) else Replies (no_method (allow_of (JournalEntry text)))

-- the plan of a request, by its route
abbrev pub plan_on : Tables → ℕ → RequestData → Route → Plan
plan_on tables now request Jobs = plan_on_jobs tables now request
plan_on tables now request (Job id) = plan_on_job tables now request id
plan_on tables now request (Files id) = plan_on_files tables request id
plan_on tables now request (File id file) = plan_on_file tables now request id file
plan_on tables now request Links = look_at_settings request link_object (settings_in tables).links
plan_on tables now request Endpoints = look_at_settings request endpoint_object (settings_in tables).endpoints
plan_on tables now request Shares = look_at_settings request weight_object (settings_in tables).weights
plan_on tables now request Bans = plan_on_bans tables now request
plan_on tables now request (JournalEntry text) = plan_on_entry request text

-- the plan of a request
abbrev pub plan_of : Tables → ℕ → RequestData → Plan
plan_of tables now request = option_map_or (plan_on tables now request) (route_of request.path) (Replies no_route)

-- what is said to a request: the reply, and the entry that it adds, one at most
pub record Said : Type 0 where
  pub reply : Reply
  pub added : List Entry

-- a reply that adds nothing
abbrev pub said_only : Reply → Said
said_only reply = record { reply = reply; added = [] }

-- what is shown of the entry of a number, where there is one, over the spellings of all entries
abbrev pub entry_shown : List (List ℕ) → ℕ → Option Reply
entry_shown bodies number = option_map (λ body. shows (entry_object body (length bodies) number)) (slice_get bodies number)

-- the reply to a look at an entry
abbrev pub entry_reply : List (List ℕ) → Option ℕ → Reply
entry_reply bodies number = unwrap_or (option_and_then (entry_shown bodies) number) no_entry

-- the id of a job
abbrev pub id_of_job : Tables → ℕ → ℕ
id_of_job tables number = option_map_or (λ job. job.id) (job_at tables.jobs number) 0

-- the reply to a command that the machine refuses; what changes nothing is shown as it is
abbrev pub reply_to_refusal : Tables → (Tables → Data) → Refusal → Reply
reply_to_refusal tables shown NoJob = no_job
reply_to_refusal tables shown NoFile = no_file
reply_to_refusal tables shown (Duplicate job) = duplicate (id_of_job tables job)
reply_to_refusal tables shown (JobsFull jobs) = jobs_full
reply_to_refusal tables shown (RowsFull rows) = rows_full
reply_to_refusal tables shown (Unchanged job) = shows (shown tables)
reply_to_refusal tables shown NoStorage = no_storage
reply_to_refusal tables shown NotBanned = not_banned
-- no command of a request is refused so: these two come of claims, reports and expiries alone (`IsOfRequests`, `is_decided`)
reply_to_refusal tables shown Idle = no_memory
reply_to_refusal tables shown (Stale state attempt) = no_memory

-- what is said by what an entry came to
abbrev pub said_by : Tables → (Tables → Data) → Entry → Applies → Said
said_by tables shown entry (Ok done) = record { reply = shows (shown done.0); added = entry ∷ [] }
said_by tables shown entry (Err (Rule refusal)) = said_only (reply_to_refusal tables shown refusal)
said_by tables shown entry (Err (JournalFull used)) = said_only journal_full
said_by tables shown entry (Err DiskFailed) = said_only disk_failed
said_by tables shown entry (Err Memory) = said_only no_memory
-- a command never finds a journal damaged
said_by tables shown entry (Err (Damaged offset)) = said_only no_memory

-- what is said by a plan
abbrev pub said_to : Tables → List (List ℕ) → ℕ → ℕ → Plan → Said
said_to tables bodies used writer (Replies reply) = said_only reply
said_to tables bodies used writer (Looks number) = said_only (entry_reply bodies number)
said_to tables bodies used writer (Tries command shown) =
    said_by tables shown (entry_by writer command) (applied_to tables used (entry_by writer command))

-- what is said to a request over tables and the spellings of their entries, with so many bytes of the journal used
abbrev pub said : Tables → List (List ℕ) → ℕ → ℕ → RequestData → ℕ → Said
said tables bodies used writer request now = said_to tables bodies used writer (plan_of tables now request)

-- the same over a list
abbrev pub said_over : List Entry → ℕ → RequestData → ℕ → Said
said_over entries writer request now = said (tables_of entries) (bodies_of entries) (used_of entries) writer request now

-- how an answer came about: as it is defined, or there was no memory, or the disk failed
pub data Way : Type 0 where
  AsDefined : Way
  WithoutMemory : Way
  WithoutDisk : Way

-- what is said then
abbrev pub said_so : Way → Said → Said
said_so AsDefined said = said
said_so WithoutMemory said = said_only no_memory
said_so WithoutDisk said = said_only disk_failed

-- the disk's count rose where the disk is the cause
abbrev pub CausedBy : Way → ℕ → ℕ → Type 0
CausedBy AsDefined old new = Unit {0}
CausedBy WithoutMemory old new = Unit {0}
CausedBy WithoutDisk old new = Rose old new

-- The entry in doubt behind a request, by the entries that it asks to add and those that were added: none behind one that was added, and else at most that
-- from before the request, or the one that it asks for, and then the disk's count rose.
abbrev pub DoubtComes : ℕ → ℕ → Option Entry → Option Entry → List Entry → List Entry → Type 0
DoubtComes before after old new asked (entry ∷ more) = new ≡ None
DoubtComes before after old new (entry ∷ more) [] = DoubtMoves before after old new entry
DoubtComes before after old new [] [] = (new ≡ old) ⊎ (new ≡ None)

-- a reply shows an entry of a journal
abbrev pub ShowsEntry : Reply → Type 0
ShowsEntry reply = (body : List ℕ) × ((count : ℕ) × ((number : ℕ) × (reply ≡ shows (entry_object body count number))))

-- the disk is the cause only where the reply would have come with an entry, or would have shown one
abbrev pub IsInsteadOf : Way → Said → Type 0
IsInsteadOf AsDefined said = Unit {0}
IsInsteadOf WithoutMemory said = Unit {0}
IsInsteadOf WithoutDisk said = (said.added ≢ []) ⊎ ShowsEntry said.reply

-- The entries of a keep as they are shown: as many as there are commands, and where its disk tells its contents each by its spelling. Over
-- another disk what a read gives is not known.
pub record AreShown {D : Type 0} (state : D → DiskState) (keep : KeepData D) (bodies : List (List ℕ)) : Type 0 where
  pub counted : length bodies ≡ keep.commands
  pub spelled : IsTold (state keep.disk) → bodies ≡ bodies_of keep.entries

-- what answering a request did to a keep
pub record Answers {D : Type 0} (state : D → DiskState) (faults : D → ℕ) (old new : KeepData D)
    (writer : ℕ) (request : RequestData) (now : ℕ) (reply : Reply) : Type 0 where
  pub bodies : List (List ℕ)
  pub shown : AreShown state old bodies
  pub way : Way
  pub cause : CausedBy way (faults old.disk) (faults new.disk)
  pub instead : IsInsteadOf way (said old.tables bodies old.used writer request now)
  pub replies : reply ≡ (said_so way (said old.tables bodies old.used writer request now)).reply
  pub tables : new.tables ≡ tables_from old.tables (said_so way (said old.tables bodies old.used writer request now)).added
  pub commands : new.commands ≡ old.commands + length (said_so way (said old.tables bodies old.used writer request now)).added
  pub used : new.used ≡ used_after old.used (said_so way (said old.tables bodies old.used writer request now)).added
  pub listed : new.entries ≡ old.entries ++ (said_so way (said old.tables bodies old.used writer request now)).added
  -- the entry in doubt, which is seen where the disk tells its contents
  pub doubt : DoubtComes (faults old.disk) (faults new.disk) old.doubt new.doubt (said old.tables bodies old.used writer request now).added
      (said_so way (said old.tables bodies old.used writer request now)).added

-- an entry is in doubt only where it was before, or where the disk's count rose
abbrev pub DoubtHasCause : {D : Type 0} → (D → DiskState) → (D → ℕ) → KeepData D → KeepData D → Type 0
DoubtHasCause state faults old new =
    IsTold (state old.disk) → (new.doubt ≡ None) ⊎ ((new.doubt ≡ old.doubt) ⊎ Rose (faults old.disk) (faults new.disk))
