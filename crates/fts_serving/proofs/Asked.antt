-- What a request adds is a client's command.
use Rattle.std.proofs.Common.{ℕ, Bool, true, false, cond, List, [], ◌∷◌, Option, Some, None, Result, Ok, Err}
use Rattle.std.specs.Prelude.{◌||◌, codes}
use Rattle.std.specs.Option.{option_map_or}
use Rattle.serde_json.specs.Data.{Data}
use Rattle.fts_tables.specs.Tables.{Tables}
use Rattle.fts_tables.specs.declared.commands.Entry.{Entry}
use Rattle.fts_tables.specs.declared.rows.JobRow.{JobRow}
use Rattle.fts_tables.specs.declared.rows.FileRow.{FileRow}
use Rattle.fts_jobdoc.specs.Documents.{job_of, priority_of}
use Rattle.fts_jobdoc.specs.Bans.{ban_of}
use Rattle.fts_jobdoc.specs.declared.fault.DocFault.{DocFault}
use Rattle.fts_jobdoc.specs.declared.ban.BanAsk.{BanAsk}
use Rattle.fts_jobdoc.specs.declared.ban.BanFault.{BanFault}
use Rattle.fts_wire.specs.RequestData.{RequestData}
use Rattle.fts_keep.specs.Applied.{Applies, applied_to, entry_by}
use Rattle.fts_keep.specs.Keeps.{used_of}
use Rattle.fts_keep.specs.declared.fault.KeepFault.TheVariants.{Rule, DiskFailed, JournalFull, Damaged, Memory}
use Rattle.fts_tables.specs.History.{tables_of}
use Rattle.fts_routes.specs.Objects.{endpoint_object, link_object, settings_in, weight_object}
use Rattle.fts_routes.specs.Refusals.{no_route}
use Rattle.fts_routes.specs.Routes.{Route, Jobs, Job, Files, File, Links, Endpoints, Shares, Bans, JournalEntry, route_of, job_named, file_named}
use Rattle.fts_routes.specs.Queries.{QueryFault, asked_in, storage_asked}
use Rattle.fts_routes.specs.Replies.{Plan, Replies, Looks, Tries, Way, AsDefined, WithoutMemory, WithoutDisk, if_job, if_file, if_read, if_ban, if_storage, banning, unbanning, plan_on_bans, jobs_plan, submission, has_method, plan_on_jobs, look_at_job, cancellation, prioritization, plan_on_job, look_at_files, plan_on_files, file_cancellation, plan_on_file, look_at_settings, plan_on, plan_of, said_by, said_to, said_so}
use Rattle.fts_service.specs.Lanes.{said_in}
use Rattle.fts_ledger.specs.Reports.{IsAsked}

-- a plan that tries a client's command, or none
abbrev PlansAsked : Plan → Type 0
PlansAsked (Replies reply) = Unit {0}
PlansAsked (Looks number) = Unit {0}
PlansAsked (Tries command shown) = IsAsked command

either : (test : Bool) (one other : Plan) → PlansAsked one → PlansAsked other → PlansAsked (cond test one other)
either true one other a b = a
either false one other a b = b

job_asked : (found : Option JobRow) (plan : JobRow → Plan) → ((job : JobRow) → PlansAsked (plan job)) → PlansAsked (if_job found plan)
job_asked None plan asks = tt
job_asked (Some job) plan asks = asks job

file_asked : (found : Option FileRow) (plan : FileRow → Plan) → ((row : FileRow) → PlansAsked (plan row)) → PlansAsked (if_file found plan)
file_asked None plan asks = tt
file_asked (Some row) plan asks = asks row

read_asked : {T : Type 0} (read : Result T DocFault) (plan : T → Plan) → ((value : T) → PlansAsked (plan value)) → PlansAsked (if_read read plan)
read_asked (Err fault) plan asks = tt
read_asked (Ok value) plan asks = asks value

jobs_asked_for : (tables : Tables) (query : Result (List (List ℕ) × ℕ) QueryFault) → PlansAsked (jobs_plan tables query)
jobs_asked_for tables (Err fault) = tt
jobs_asked_for tables (Ok asked) = tt

on_jobs : (tables : Tables) (now : ℕ) (request : RequestData) → PlansAsked (plan_on_jobs tables now request)
on_jobs tables now request =
    either (has_method request (codes "GET")) _ _ (jobs_asked_for tables (asked_in request.query))
    (either (has_method request (codes "POST") || has_method request (codes "PUT")) _ _
    (read_asked (job_of request.body (settings_in tables)) (submission tables now) (λ job. tt)) tt)

on_job : (tables : Tables) (now : ℕ) (request : RequestData) (id : List ℕ) → PlansAsked (plan_on_job tables now request id)
on_job tables now request id =
    either (has_method request (codes "GET")) _ _ (job_asked (job_named tables id) (look_at_job tables) (λ job. tt))
    (either (has_method request (codes "DELETE")) _ _ (job_asked (job_named tables id) (cancellation now) (λ job. tt))
    (either (has_method request (codes "POST")) _ _
    (job_asked (job_named tables id) (λ job. if_read (priority_of request.body) (prioritization now job))
    (λ job. read_asked (priority_of request.body) (prioritization now job) (λ priority. tt))) tt))

on_files : (tables : Tables) (request : RequestData) (id : List ℕ) → PlansAsked (plan_on_files tables request id)
on_files tables request id =
    either (has_method request (codes "GET")) _ _ (job_asked (job_named tables id) (look_at_files tables) (λ job. tt)) tt

on_file : (tables : Tables) (now : ℕ) (request : RequestData) (id file : List ℕ) → PlansAsked (plan_on_file tables now request id file)
on_file tables now request id file =
    either (has_method request (codes "DELETE")) _ _
    (job_asked (job_named tables id) (λ job. if_file (file_named tables job file) (file_cancellation now job))
    (λ job. file_asked (file_named tables job file) (file_cancellation now job) (λ row. tt))) tt

on_settings : {A : Type 0} (request : RequestData) (shown : A → Data) (items : List A) → PlansAsked (look_at_settings request shown items)
on_settings request shown items = either (has_method request (codes "GET")) _ _ tt tt

ban_asked : (read : Result BanAsk BanFault) (plan : BanAsk → Plan) → ((asked : BanAsk) → PlansAsked (plan asked)) → PlansAsked (if_ban read plan)
ban_asked (Err fault) plan asks = tt
ban_asked (Ok asked) plan asks = asks asked

storage_is_asked : (storage : Option (List ℕ)) (plan : List ℕ → Plan) → ((name : List ℕ) → PlansAsked (plan name)) → PlansAsked (if_storage storage plan)
storage_is_asked None plan asks = tt
storage_is_asked (Some name) plan asks = asks name

on_bans : (tables : Tables) (now : ℕ) (request : RequestData) → PlansAsked (plan_on_bans tables now request)
on_bans tables now request =
    either (has_method request (codes "GET")) _ _ tt
    (either (has_method request (codes "POST")) _ _ (ban_asked (ban_of request.body) (banning tables now) (λ asked. tt))
    (either (has_method request (codes "DELETE")) _ _ (storage_is_asked (storage_asked request.query) (unbanning now) (λ name. tt)) tt))

on_route : (tables : Tables) (now : ℕ) (request : RequestData) (route : Route) → PlansAsked (plan_on tables now request route)
on_route tables now request Jobs = on_jobs tables now request
on_route tables now request (Job id) = on_job tables now request id
on_route tables now request (Files id) = on_files tables request id
on_route tables now request (File id file) = on_file tables now request id file
on_route tables now request Links = on_settings request link_object (settings_in tables).links
on_route tables now request Endpoints = on_settings request endpoint_object (settings_in tables).endpoints
on_route tables now request Shares = on_settings request weight_object (settings_in tables).weights
on_route tables now request Bans = on_bans tables now request
on_route tables now request (JournalEntry number) = either (has_method request (codes "GET")) _ _ tt tt

plan_asked : (tables : Tables) (now : ℕ) (request : RequestData) → PlansAsked (plan_of tables now request)
plan_asked tables now request = by (route_of request.path)
  where
    by : (route : Option Route) → PlansAsked (option_map_or (plan_on tables now request) route (Replies no_route))
    by None = tt
    by (Some route) = on_route tables now request route

-- each of these entries is a client's command
abbrev pub AllAsked : List Entry → Type 0
AllAsked [] = Unit {0}
AllAsked (entry ∷ entries) = IsAsked entry.command × AllAsked entries

by_asked : (tables : Tables) (shown : Tables → Data) (entry : Entry) (came : Applies) → IsAsked entry.command → AllAsked (said_by tables shown entry came).added
by_asked tables shown entry (Ok done) asked = (asked, tt)
by_asked tables shown entry (Err (Rule refusal)) asked = tt
by_asked tables shown entry (Err (JournalFull used)) asked = tt
by_asked tables shown entry (Err DiskFailed) asked = tt
by_asked tables shown entry (Err Memory) asked = tt
by_asked tables shown entry (Err (Damaged offset)) asked = tt

to_asked : (tables : Tables) (bodies : List (List ℕ)) (used writer : ℕ) (plan : Plan) → PlansAsked plan → AllAsked (said_to tables bodies used writer plan).added
to_asked tables bodies used writer (Replies reply) asked = tt
to_asked tables bodies used writer (Looks number) asked = tt
to_asked tables bodies used writer (Tries command shown) asked =
    by_asked tables shown (entry_by writer command) (applied_to tables used (entry_by writer command)) asked

-- what is said to a request adds a client's command, or none
pub said_asked : (way : Way) (entries : List Entry) (bodies : List (List ℕ)) (writer : ℕ) (request : RequestData) (now : ℕ)
    → AllAsked (said_so way (said_in entries bodies writer request now)).added
said_asked AsDefined entries bodies writer request now =
    to_asked (tables_of entries) bodies (used_of entries) writer (plan_of (tables_of entries) now request) (plan_asked (tables_of entries) now request)
said_asked WithoutMemory entries bodies writer request now = tt
said_asked WithoutDisk entries bodies writer request now = tt
