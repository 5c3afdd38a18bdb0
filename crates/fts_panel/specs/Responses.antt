-- What a monitor answers: which request asks for what, and the bytes of the response by the view (HTTP/1.1, RFC 9112, section 4; Prometheus' text form, version 0.0.4).
use Rattle.std.specs.Prelude.{◌≡◌, ◌⊎◌, ℕ, Bool, true, false, if◌then◌else◌, Option, Some, None, option_map, option_and_then, List, [], ◌++◌, length, codes, decimal, bytes_eq, is_some, Result}
use Rattle.std.specs.Option.{option_map_or}
use Rattle.fts_tables.specs.Counts.{CountsFaults}
use Rattle.fts_tables.specs.Tables.{Tables}
use Rattle.fts_wire.specs.RequestData.{RequestData}
use Rattle.fts_wire.specs.Faults.{status_of, rule_of, message_of}
use Rattle.fts_wire.specs.Response.{response_of, Sends}
use Rattle.fts_wire.specs.declared.fault.WireFault.{WireFault}
use Rattle.fts_wire.specs.declared.outside.SinkFailed.{SinkFailed}
use Rattle.fts_wire.specs.declared.response.Allow.{Allow}
use Rattle.fts_wire.specs.declared.response.Allow.TheVariants.{None as NoMethods, Get}
use Rattle.fts_wire.specs.declared.response.Reply.{Reply}
use Rattle.fts_chronicle.specs.Chronicle.{ChronicleData}
use Rattle.fts_metrics.specs.Metrics.{metrics_text}
use Rattle.fts_board.specs.History.{history_text}
use Rattle.fts_board.specs.Snapshot.{snapshot_text}
use Rattle.fts_board.specs.declared.snapshots.Shown.{Shown as SnapshotShown}
use Rattle.fts_pages.specs.Pages.{page_text, job_text}
use Rattle.fts_pages.specs.declared.pages.TheConstants.{MAX_LOOKED_AT}
use Rattle.fts_routes.specs.Routes.{job_named}
use Rattle.fts_page.specs.declared.page.TheConstants.{PAGE, POLICY}
use Rattle.fts_watch.specs.Monitor.{MonitorData}
use Rattle.fts_watch.specs.declared.fault.MonitorFault.{MonitorFault}
use Rattle.fts_watch.specs.declared.fault.MonitorFault.TheVariants.{DiskFailed, Damaged, Changed, Memory}
use Rattle.fts_panel.specs.declared.asked.Asked.{Asked}
use Rattle.fts_panel.specs.declared.asked.Asked.TheVariants.{Page, Metrics, About, OtherMethod, Nothing}
use Rattle.fts_panel.specs.declared.asked.Topic.{Topic}
use Rattle.fts_panel.specs.declared.asked.Topic.TheVariants.{Snapshot, History, Jobs, Job}
use Rattle.fts_panel.specs.Queries.{history_asked, jobs_asked, id_in}
use Rattle.fts_panel.specs.declared.view.View.{View}
use Rattle.fts_panel.specs.declared.view.View.TheVariants.{Shown, Unread, Shut}

-- what is had at a path
abbrev pub asked_at : List ℕ → Option Asked
asked_at path =
    if bytes_eq path (codes "/") then Some Page
    else if bytes_eq path (codes "/metrics") then Some Metrics
    else if bytes_eq path (codes "/snapshot") then Some (About Snapshot)
    else if bytes_eq path (codes "/history") then Some (About History)
    else if bytes_eq path (codes "/jobs") then Some (About Jobs)
    else option_map (λ id. About Job) (id_in path)

-- what a request asks for: all that is there has the method GET alone
abbrev pub asked_by : RequestData → Asked
asked_by request = option_map_or (λ asked. if bytes_eq request.method (codes "GET") then asked else OtherMethod) (asked_at request.path) Nothing

-- the head of the page, of n bytes: a browser runs its own style and script alone, takes it for nothing else, and keeps none
abbrev pub page_head : ℕ → List ℕ
page_head n =
    codes "HTTP/1.1 200 OK\r\nContent-Type: text/html; charset=utf-8\r\nContent-Security-Policy: " ++ POLICY.now
    ++ codes "\r\nX-Content-Type-Options: nosniff\r\nReferrer-Policy: no-referrer\r\nCache-Control: no-store\r\nContent-Length: "
    ++ decimal n ++ codes "\r\nConnection: close\r\n\r\n"

-- the response that is the page
abbrev pub page_response : List ℕ
page_response = page_head (length PAGE.now) ++ PAGE.now

-- the head of a text of n bytes
abbrev pub text_head : ℕ → List ℕ
text_head n =
    codes "HTTP/1.1 200 OK\r\nContent-Type: text/plain; version=0.0.4\r\nContent-Length: " ++ decimal n ++ codes "\r\nConnection: close\r\n\r\n"

-- the response that is a text
abbrev pub text_response : List ℕ → List ℕ
text_response text = text_head (length text) ++ text

-- fts_journal_damaged: 1 where the journal is damaged behind what is counted
abbrev pub damage_text : Bool → List ℕ
damage_text false =
    codes "# HELP fts_journal_damaged Whether the journal is damaged behind what is counted.\n# TYPE fts_journal_damaged gauge\nfts_journal_damaged 0\n"
damage_text true =
    codes "# HELP fts_journal_damaged Whether the journal is damaged behind what is counted.\n# TYPE fts_journal_damaged gauge\nfts_journal_damaged 1\n"

-- the response with the metrics of tables, of what their entries tell besides, and of how many bytes their journal has
abbrev pub metrics_response : Tables → ChronicleData → ℕ → Bool → List ℕ
metrics_response tables told used is_damaged = text_response (metrics_text tables told used ++ damage_text is_damaged)

-- the body of a refusal, in the form of the service's
abbrev pub refusal_body : List ℕ → ℕ → ℕ → List ℕ
refusal_body message rule status =
    codes "{\"message\":\"" ++ message ++ codes "\",\"rule\":" ++ decimal rule ++ codes ",\"status\":" ++ decimal status ++ codes "}"

-- a refusal: its message, the number of its rule, its status, and the methods that it names
abbrev pub refusal_of : List ℕ → ℕ → ℕ → Allow → Reply
refusal_of message rule status allow = record { status = status; allow = allow; body = refusal_body message rule status }

-- want of memory: no body
abbrev pub no_memory : Reply
no_memory = record { status = 500; allow = NoMethods; body = [] }

-- the path isn't there
abbrev pub no_route : Reply
no_route = refusal_of (codes "no route") 30 404 NoMethods

-- what is there hasn't the method, but GET
abbrev pub no_method : Reply
no_method = refusal_of (codes "no such method") 33 405 Get

-- no job has the id
abbrev pub no_job : Reply
no_job = refusal_of (codes "no job") 31 404 NoMethods

-- the query asks for nothing that there is
abbrev pub bad_query : Reply
bad_query = refusal_of (codes "bad query") 50 400 NoMethods

-- a JSON text
abbrev pub shows : List ℕ → Reply
shows text = record { status = 200; allow = NoMethods; body = text }

-- the reply that shows a text, or another one where there is none
abbrev pub reply_by : Reply → Option (List ℕ) → Reply
reply_by other None = other
reply_by other (Some text) = shows text

-- a call of the disk failed
abbrev pub disk_failed : Reply
disk_failed = refusal_of (codes "disk failed") 35 503 NoMethods

-- the journal is another one than was opened
abbrev pub journal_changed : Reply
journal_changed = refusal_of (codes "journal changed") 49 503 NoMethods

-- why nothing is shown
abbrev pub reply_to : MonitorFault → Reply
reply_to DiskFailed = disk_failed
reply_to (Damaged offset) = journal_changed
reply_to Changed = journal_changed
reply_to Memory = no_memory

-- this reply, or want of memory in its place
abbrev pub IsOrNoMemory : Reply → Reply → Type 0
IsOrNoMemory reply wanted = (reply ≡ wanted) ⊎ (reply ≡ no_memory)

-- the response that refuses, which says close; to HEAD it has no body
abbrev pub refusal_response : Reply → Bool → List ℕ
refusal_response reply head_only = response_of reply head_only true

-- the response to a request for the metrics, by the view that its look left
abbrev pub metrics_of_view : {D : Type 0} → View D → List ℕ
metrics_of_view (Shown monitor began damage) = metrics_response monitor.tables monitor.chronicle monitor.used (is_some damage)
metrics_of_view (Unread monitor began fault) = refusal_response (reply_to fault) false
metrics_of_view (Shut disk fault) = refusal_response (reply_to fault) false

-- what a snapshot shows besides, of what was folded since a moment, and which may be damaged behind that
abbrev pub shown_at : {D : Type 0} → ℕ → MonitorData D → ℕ → Option ℕ → SnapshotShown
shown_at now monitor began damage = record {
  now = now;
  fold_time = began;
  last_entry_time = monitor.chronicle.moment;
  restart_time = monitor.chronicle.restart;
  used = monitor.used;
  damage = damage;
}

-- the reply on a topic, by the path and the query that ask, over what was folded since a moment, and which may be damaged behind that
abbrev pub reply_on : {D : Type 0} → Topic → List ℕ → Option (List ℕ) → ℕ → MonitorData D → ℕ → Option ℕ → Reply
reply_on Snapshot path query now monitor began damage =
    shows (snapshot_text monitor.tables monitor.commands monitor.chronicle.reports (shown_at now monitor began damage))
reply_on History path query now monitor began damage =
    reply_by bad_query (option_map (λ asked. history_text monitor.tables.rows monitor.chronicle.reports asked now) (history_asked query))
reply_on Jobs path query now monitor began damage =
    reply_by bad_query (option_map (page_text MAX_LOOKED_AT monitor.tables monitor.chronicle.finishes) (jobs_asked monitor.tables query))
reply_on Job path query now monitor began damage =
    reply_by no_job (option_map (job_text monitor.tables monitor.chronicle) (option_and_then (job_named monitor.tables) (id_in path)))

-- the reply to a request about a topic at a moment, by the view that its look left
abbrev pub reply_of_view : {D : Type 0} → Topic → List ℕ → Option (List ℕ) → ℕ → View D → Reply
reply_of_view topic path query now (Shown monitor began damage) = reply_on topic path query now monitor began damage
reply_of_view topic path query now (Unread monitor began fault) = reply_to fault
reply_of_view topic path query now (Shut disk fault) = reply_to fault

-- whether a request asks for a head alone
abbrev pub is_head : RequestData → Bool
is_head request = bytes_eq request.method (codes "HEAD")

-- the response to a request for what it asks for
abbrev pub response_for : {D : Type 0} → Asked → RequestData → ℕ → View D → List ℕ
response_for Page request now view = page_response
response_for Metrics request now view = metrics_of_view view
response_for (About topic) request now view = refusal_response (reply_of_view topic request.path request.query now view) false
response_for OtherMethod request now view = refusal_response no_method (is_head request)
response_for Nothing request now view = refusal_response no_route (is_head request)

-- the response to a request at a moment, by the view that its look left
abbrev pub response_to : {D : Type 0} → RequestData → ℕ → View D → List ℕ
response_to request now view = response_for (asked_by request) request now view

-- This response, or that for want of memory in its place, was written; or a part of it, where the sink counted a failure.
pub record Says (held now : Option (List ℕ)) (old new : ℕ) (wanted : List ℕ) : Type 0 where
  pub response : List ℕ
  pub is : (response ≡ wanted) ⊎ (response ≡ refusal_response no_memory false)
  pub result : Result (Unit {0}) SinkFailed
  pub sent : Sends held now response result
  pub counts : CountsFaults old new result

-- what came was refused for this fault of the framing
pub record IsRefused (fault : WireFault) (held now : Option (List ℕ)) (old new : ℕ) : Type 0 where
  pub status : ℕ
  pub rule : ℕ
  pub message : List ℕ
  pub has_status : status_of fault ≡ Some status
  pub has_rule : rule_of fault ≡ Some rule
  pub has_message : message_of fault ≡ Some message
  pub says : Says held now old new (refusal_response (refusal_of message rule status NoMethods) false)
