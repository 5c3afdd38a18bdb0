-- Each reply can be written: its status has a phrase, and a refusal of a method names others. Each command is one that a request may ask for.
use Rattle.std.proofs.Common.{ℕ, Bool, true, false, List, Option, Some, None, Result, Ok, Err, refl, sym, subst}
use Rattle.std.specs.Prelude.{if◌then◌else◌, codes, ◌||◌, length, slice_get, option_map, unwrap_or, IsTrue}
use Rattle.std.specs.Option.{option_map_or}
use Rattle.serde_json.specs.Data.{Data}
use Rattle.fts_tables.specs.Tables.{Tables}
use Rattle.fts_tables.specs.declared.commands.Entry.{Entry}
use Rattle.fts_tables.specs.declared.commands.Command.{Command}
use Rattle.fts_tables.specs.declared.commands.Refusal.{Refusal}
use Rattle.fts_tables.specs.declared.commands.Refusal.TheVariants.{NoJob, NoFile, Duplicate, JobsFull, RowsFull, Idle, Stale, Unchanged, NoStorage, NotBanned}
use Rattle.fts_tables.specs.declared.rows.FileRow.{FileRow}
use Rattle.fts_tables.specs.declared.rows.JobRow.{JobRow}
use Rattle.fts_tables.specs.Step.{Outcomes, step}
use Rattle.fts_jobdoc.specs.Bans.{ban_of}
use Rattle.fts_jobdoc.specs.Documents.{job_of, priority_of}
use Rattle.fts_jobdoc.specs.declared.ban.BanAsk.{BanAsk}
use Rattle.fts_jobdoc.specs.declared.ban.BanFault.{BanFault}
use Rattle.fts_jobdoc.specs.declared.fault.DocFault.{DocFault}
use Rattle.fts_disk.specs.Disk.{DiskState}
use Rattle.fts_wire.specs.RequestData.{RequestData}
use Rattle.fts_wire.specs.declared.response.Reply.{Reply}
use Rattle.fts_keep.specs.Keeps.{KeepData}
use Rattle.fts_keep.specs.Applied.{applied_by, entry_by, fits}
use Rattle.fts_keep.specs.declared.fault.KeepFault.TheVariants.{JournalFull}
use Rattle.fts_wire.specs.Response.{has_phrase, has_methods}
use Rattle.fts_routes.specs.Objects.{settings_in, link_object, endpoint_object, weight_object, entry_object}
use Rattle.fts_routes.specs.Queries.{QueryFault, BadStates, BadLimit, asked_in, storage_asked}
use Rattle.fts_routes.specs.Routes.{Route, Jobs, Job, Files, File, Links, Endpoints, Shares, Bans, JournalEntry, route_of, job_named, file_named}
use Rattle.fts_routes.specs.Refusals.{shows, no_route, no_entry}
use Rattle.fts_routes.specs.Replies.{Plan, Replies, Looks, Tries, entry_reply, if_job, if_file, if_read, if_ban, if_storage, banning, unbanning, jobs_plan, submission, has_method, look_at_settings, look_at_job, look_at_files, cancellation, prioritization, file_cancellation, plan_on, plan_of, Said, Way, AsDefined, WithoutMemory, WithoutDisk, said_so, said_by, said_to, said, reply_to_refusal, Answers}
use Rattle.fts_routes.specs.Planned.{IsSendable, IsAsked, IsOfRequests, IsPlanned, is_decided}
use Rattle.fts_routes.specs.declared.planned.Planned.TheVariants.{Tries as PlannedCommand}
use Rattle.fts_routes.proofs.Asked.{IsOfRequest, asked-outcomes}

-- a reply that is said as it is defined: it can be written, and neither want of memory nor a failing disk is its cause
pub record IsSaid (reply : Reply) : Type 0 where
  pub phrase : IsTrue (has_phrase reply.status)
  pub methods : IsTrue (has_methods reply.status reply.allow)
  pub decided : IsTrue (is_decided reply.status)

-- a plan's reply may be said, and its command may be asked for
abbrev pub IsGoodPlan : Plan → Type 0
IsGoodPlan (Replies reply) = IsSaid reply
IsGoodPlan (Looks number) = Unit {0}
IsGoodPlan (Tries command shown) = IsAsked command

either-way : (test : Bool) (one other : Plan) → IsGoodPlan one → IsGoodPlan other → IsGoodPlan (if test then one else other)
either-way true one other first second = first
either-way false one other first second = second

with-job : (found : Option JobRow) (plan : JobRow → Plan) → ((job : JobRow) → IsGoodPlan (plan job)) → IsGoodPlan (if_job found plan)
with-job None plan each = record { phrase = refl; methods = refl; decided = refl }
with-job (Some job) plan each = each job

with-file : (found : Option FileRow) (plan : FileRow → Plan) → ((row : FileRow) → IsGoodPlan (plan row)) → IsGoodPlan (if_file found plan)
with-file None plan each = record { phrase = refl; methods = refl; decided = refl }
with-file (Some row) plan each = each row

with-read : {T : Type 0} (read : Result T DocFault) (plan : T → Plan) → ((value : T) → IsGoodPlan (plan value)) → IsGoodPlan (if_read read plan)
with-read (Err fault) plan each = record { phrase = refl; methods = refl; decided = refl }
with-read (Ok value) plan each = each value

with-ban : (read : Result BanAsk BanFault) (plan : BanAsk → Plan) → ((asked : BanAsk) → IsGoodPlan (plan asked)) → IsGoodPlan (if_ban read plan)
with-ban (Err fault) plan each = record { phrase = refl; methods = refl; decided = refl }
with-ban (Ok asked) plan each = each asked

with-storage : (named : Option (List ℕ)) (plan : List ℕ → Plan) → ((storage : List ℕ) → IsGoodPlan (plan storage)) → IsGoodPlan (if_storage named plan)
with-storage None plan each = record { phrase = refl; methods = refl; decided = refl }
with-storage (Some storage) plan each = each storage

with-query : (tables : Tables) (asked : Result (List (List ℕ) × ℕ) QueryFault) → IsGoodPlan (jobs_plan tables asked)
with-query tables (Err BadStates) = record { phrase = refl; methods = refl; decided = refl }
with-query tables (Err BadLimit) = record { phrase = refl; methods = refl; decided = refl }
with-query tables (Ok asked) = record { phrase = refl; methods = refl; decided = refl }

on-settings : {A : Type 0} (request : RequestData) (shown : A → Data) (items : List A) → IsGoodPlan (look_at_settings request shown items)
on-settings request shown items = either-way (has_method request (codes "GET")) _ _ (record { phrase = refl; methods = refl; decided = refl }) (record { phrase = refl; methods = refl; decided = refl })

-- on each route
on-route : (tables : Tables) (now : ℕ) (request : RequestData) (route : Route) → IsGoodPlan (plan_on tables now request route)
on-route tables now request Jobs = either-way (has_method request (codes "GET")) _ _ (with-query tables (asked_in request.query))
    (either-way (has_method request (codes "POST") || has_method request (codes "PUT")) _ _
    (with-read (job_of request.body (settings_in tables)) (submission tables now) (λ job. tt)) (record { phrase = refl; methods = refl; decided = refl }))
on-route tables now request (Job id) = either-way (has_method request (codes "GET")) _ _
    (with-job (job_named tables id) (look_at_job tables) (λ job. record { phrase = refl; methods = refl; decided = refl }))
    (either-way (has_method request (codes "DELETE")) _ _ (with-job (job_named tables id) (cancellation now) (λ job. tt))
    (either-way (has_method request (codes "POST")) _ _
    (with-job (job_named tables id) (λ job. if_read (priority_of request.body) (prioritization now job))
    (λ job. with-read (priority_of request.body) (prioritization now job) (λ priority. tt)))
    (record { phrase = refl; methods = refl; decided = refl })))
on-route tables now request (Files id) = either-way (has_method request (codes "GET")) _ _
    (with-job (job_named tables id) (look_at_files tables) (λ job. record { phrase = refl; methods = refl; decided = refl })) (record { phrase = refl; methods = refl; decided = refl })
on-route tables now request (File id file) = either-way (has_method request (codes "DELETE")) _ _
    (with-job (job_named tables id) (λ job. if_file (file_named tables job file) (file_cancellation now job))
    (λ job. with-file (file_named tables job file) (file_cancellation now job) (λ row. tt)))
    (record { phrase = refl; methods = refl; decided = refl })
on-route tables now request Links = on-settings request link_object (settings_in tables).links
on-route tables now request Endpoints = on-settings request endpoint_object (settings_in tables).endpoints
on-route tables now request Shares = on-settings request weight_object (settings_in tables).weights
on-route tables now request Bans = either-way (has_method request (codes "GET")) _ _ (record { phrase = refl; methods = refl; decided = refl })
    (either-way (has_method request (codes "POST")) _ _ (with-ban (ban_of request.body) (banning tables now) (λ asked. tt))
    (either-way (has_method request (codes "DELETE")) _ _ (with-storage (storage_asked request.query) (unbanning now) (λ storage. tt))
    (record { phrase = refl; methods = refl; decided = refl })))
on-route tables now request (JournalEntry number) = either-way (has_method request (codes "GET")) _ _ tt (record { phrase = refl; methods = refl; decided = refl })

pub planned : (tables : Tables) (now : ℕ) (request : RequestData) → IsGoodPlan (plan_of tables now request)
planned tables now request = by_route (route_of request.path)
  where
    by_route : (found : Option Route) → IsGoodPlan (option_map_or (plan_on tables now request) found (Replies no_route))
    by_route None = record { phrase = refl; methods = refl; decided = refl }
    by_route (Some route) = on-route tables now request route

-- whatever the machine refuses of a request's command
refused : (tables : Tables) (shown : Tables → Data) (refusal : Refusal) → IsOfRequests refusal → IsSaid (reply_to_refusal tables shown refusal)
refused tables shown Idle of_requests = absurd of_requests
refused tables shown (Stale state attempt) of_requests = absurd of_requests
refused tables shown _ of_requests = record { phrase = refl; methods = refl; decided = refl }

-- whatever comes of its step
come-to : (tables : Tables) (shown : Tables → Data) (used : ℕ) (entry : Entry) (outcome : Outcomes) → IsOfRequest outcome
    → IsSaid (said_by tables shown entry (applied_by used entry outcome)).reply
come-to tables shown used entry (Ok done) of_request = by_fit (fits used entry)
  where
    by_fit : (room : Bool) → IsSaid (said_by tables shown entry (if room then Ok done else Err (JournalFull used))).reply
    by_fit true = record { phrase = refl; methods = refl; decided = refl }
    by_fit false = record { phrase = refl; methods = refl; decided = refl }
come-to tables shown used entry (Err refusal) of_request = refused tables shown refusal of_request

-- a look at an entry
look-at : (bodies : List (List ℕ)) (number : Option ℕ) → IsSaid (entry_reply bodies number)
look-at bodies None = record { phrase = refl; methods = refl; decided = refl }
look-at bodies (Some number) = by_body (slice_get bodies number)
  where
    by_body : (found : Option (List ℕ)) → IsSaid (unwrap_or (option_map (λ body. shows (entry_object body (length bodies) number)) found) no_entry)
    by_body None = record { phrase = refl; methods = refl; decided = refl }
    by_body (Some body) = record { phrase = refl; methods = refl; decided = refl }

pub said-to : (tables : Tables) (bodies : List (List ℕ)) (used writer : ℕ) (plan : Plan) → IsGoodPlan plan → IsSaid (said_to tables bodies used writer plan).reply
said-to tables bodies used writer (Replies reply) good = good
said-to tables bodies used writer (Looks number) good = look-at bodies number
said-to tables bodies used writer (Tries command shown) asked =
    come-to tables shown used (entry_by writer command) (step tables command) (asked-outcomes tables command asked)

in-any-way : (way : Way) (said : Said) → IsSaid said.reply → IsSendable (said_so way said).reply
in-any-way AsDefined said good = record { phrase = good.phrase; methods = good.methods }
in-any-way WithoutMemory said good = record { phrase = refl; methods = refl }
in-any-way WithoutDisk said good = record { phrase = refl; methods = refl }

-- each answer can be written
pub sendable : {D : Type 0} (state : D → DiskState) (faults : D → ℕ) (old new : KeepData D) (writer : ℕ) (request : RequestData) (now : ℕ) (reply : Reply)
    → Answers state faults old new writer request now reply → IsSendable reply
sendable state faults old new writer request now reply answers =
    subst (λ (reply : Reply). IsSendable reply) (sym answers.replies)
    (in-any-way answers.way (said old.tables answers.bodies old.used writer request now)
    (said-to old.tables answers.bodies old.used writer (plan_of old.tables now request) (planned old.tables now request)))

-- the command of a plan that is good may be asked for
pub planned-asked : (tables : Tables) (plan : Plan) (command : Command) (reply : Reply) → IsGoodPlan plan → IsPlanned tables (PlannedCommand command reply) plan
    → IsAsked command
planned-asked tables (Replies wanted) command reply good is = absurd is
planned-asked tables (Looks wanted) command reply good is = absurd is
planned-asked tables (Tries wanted shown) command reply good is = subst (λ (tried : Command). IsAsked tried) (sym is.same) good
