-- What was read of a request's body before the tables were asked.
use Rattle.std.specs.Prelude.{◌≡◌, ◌⊎◌, ◌||◌, ⊤, ℕ, if◌then◌else◌, List, Err, codes}
use Rattle.std.specs.Option.{option_map_or}
use Rattle.fts_jobdoc.specs.Checks.{Gives}
use Rattle.fts_jobdoc.specs.Document.{IsReadAs}
use Rattle.fts_jobdoc.specs.Documents.{priority_of}
use Rattle.fts_jobdoc.specs.Bans.{ban_of}
use Rattle.fts_jobdoc.specs.declared.ban.BanFault.TheVariants.{Memory as NoMemoryForBan}
use Rattle.fts_wire.specs.RequestData.{RequestData}
use Rattle.fts_routes.specs.Replies.{has_method}
use Rattle.fts_routes.specs.Routes.{Route, Jobs, Job, Files, File, Links, Endpoints, Shares, Bans, JournalEntry, route_of}
use Rattle.fts_routes.specs.declared.bodies.ReadBody.{ReadBody}
use Rattle.fts_routes.specs.declared.bodies.ReadBody.TheVariants.{Nothing, Submission, Priority, Ban}

-- each document is what the body is read as, unless memory ran out
abbrev pub IsReadOf : List ℕ → ReadBody → Type 0
IsReadOf body Nothing = ⊤
IsReadOf body (Submission document) = IsReadAs body document
IsReadOf body (Priority priority) = Gives priority (priority_of body)
IsReadOf body (Ban ban) = (ban ≡ ban_of body) ⊎ (ban ≡ Err NoMemoryForBan)

-- the documents that requests ask for
pub data Asked : Type 0 where
  NoDocument : Asked
  JobDocument : Asked
  PriorityDocument : Asked
  BanDocument : Asked

-- which one a request asks for on a route, by its method
abbrev pub asked_on : Route → RequestData → Asked
asked_on Jobs request = if has_method request (codes "POST") || has_method request (codes "PUT") then JobDocument else NoDocument
asked_on (Job id) request = if has_method request (codes "POST") then PriorityDocument else NoDocument
asked_on Bans request = if has_method request (codes "POST") then BanDocument else NoDocument
asked_on _ request = NoDocument

-- and where its path has no route, none
abbrev pub asked_by : RequestData → Asked
asked_by request = option_map_or (λ route. asked_on route request) (route_of request.path) NoDocument

-- which document was read
abbrev pub document_of : ReadBody → Asked
document_of Nothing = NoDocument
document_of (Submission document) = JobDocument
document_of (Priority priority) = PriorityDocument
document_of (Ban ban) = BanDocument
