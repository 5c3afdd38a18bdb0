-- The replies that refuse, each with its message, the number of its rule, and its status.
use Rattle.std.specs.Prelude.{◌≡◌, ◌⊎◌, ℕ, List, [], ◌∷◌, codes}
use Rattle.serde_json.specs.Data.{Data, string}
use Rattle.fts_wire.specs.declared.response.Allow.{Allow}
use Rattle.fts_wire.specs.declared.response.Allow.TheVariants.{None as NoAllow}
use Rattle.fts_wire.specs.declared.response.Reply.{Reply}
use Rattle.fts_jobdoc.specs.Bans.{ban_rule_of, ban_message_of}
use Rattle.fts_jobdoc.specs.Faults.{rule_of, message_of}
use Rattle.fts_jobdoc.specs.declared.ban.BanFault.{BanFault}
use Rattle.fts_jobdoc.specs.declared.fault.DocFault.{DocFault}
use Rattle.fts_routes.specs.Json.{object_of, whole_number, id_text, body_of}
use Rattle.fts_routes.specs.Queries.{QueryFault, BadStates, BadLimit}

-- the members of every refusal
abbrev pub refusal_members : List ℕ → ℕ → ℕ → List (List ℕ × Data)
refusal_members message rule status =
    (codes "message", string message) ∷ (codes "rule", whole_number rule) ∷ (codes "status", whole_number status) ∷ []

-- a reply with this value as its body
abbrev pub reply_of : ℕ → Allow → Data → Reply
reply_of status allow value = record { status = status; allow = allow; body = body_of value }

-- a refusal
abbrev pub refusal_of : List ℕ → ℕ → ℕ → Reply
refusal_of message rule status = reply_of status NoAllow (object_of (refusal_members message rule status))

-- the reply that shows a value
abbrev pub shows : Data → Reply
shows value = reply_of 200 NoAllow value

-- the document breaks a rule, the least that it breaks
abbrev pub bad_document : DocFault → Reply
bad_document fault = refusal_of (message_of fault) (rule_of fault) 400

-- the document of a ban breaks a rule, the least that it breaks; or the query of the end of one names no storage
abbrev pub bad_ban : BanFault → Reply
bad_ban fault = refusal_of (ban_message_of fault) (ban_rule_of fault) 400

-- the query breaks a rule
abbrev pub bad_query : QueryFault → Reply
bad_query BadStates = refusal_of (codes "bad state_in") 25 400
bad_query BadLimit = refusal_of (codes "bad limit") 26 400

-- the path has no route
abbrev pub no_route : Reply
no_route = refusal_of (codes "no route") 30 404

-- no job has the id
abbrev pub no_job : Reply
no_job = refusal_of (codes "no job") 31 404

-- the job has no such file
abbrev pub no_file : Reply
no_file = refusal_of (codes "no file") 32 404

-- the settings don't list the storage
abbrev pub no_storage : Reply
no_storage = refusal_of (codes "no storage") 39 404

-- the storage isn't banned
abbrev pub not_banned : Reply
not_banned = refusal_of (codes "not banned") 46 404

-- no entry of the journal has the number
abbrev pub no_entry : Reply
no_entry = refusal_of (codes "no entry") 47 404

-- the route has no such method, but these
abbrev pub no_method : Allow → Reply
no_method allow = reply_of 405 allow (object_of (refusal_members (codes "no such method") 33 405))

-- the members of a refusal of an id, with the id before the others
abbrev pub duplicate_members : ℕ → List (List ℕ × Data)
duplicate_members id = (codes "job_id", string (id_text id)) ∷ refusal_members (codes "duplicate") 34 409

-- a job has this id already
abbrev pub duplicate : ℕ → Reply
duplicate id = reply_of 409 NoAllow (object_of (duplicate_members id))

-- a call of the disk failed
abbrev pub disk_failed : Reply
disk_failed = refusal_of (codes "disk failed") 35 503

-- there would be too many rows
abbrev pub rows_full : Reply
rows_full = refusal_of (codes "rows full") 36 507

-- there would be too many jobs
abbrev pub jobs_full : Reply
jobs_full = refusal_of (codes "jobs full") 37 507

-- the journal would have too many bytes
abbrev pub journal_full : Reply
journal_full = refusal_of (codes "journal full") 38 507

-- want of memory: no body
abbrev pub no_memory : Reply
no_memory = record { status = 500; allow = NoAllow; body = [] }

-- this reply, or want of memory in its place
abbrev pub IsOrNoMemory : Reply → Reply → Type 0
IsOrNoMemory reply wanted = (reply ≡ wanted) ⊎ (reply ≡ no_memory)
