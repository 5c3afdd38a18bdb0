-- A client that repeats its submission, the service, and a network between them that loses, repeats and reorders whatever was sent.
-- The network is the list of all requests ever sent and the list of all responses ever made: any of them may come, again and at any time, whole or in part.
-- What an event makes of a world is a function. An event that can't happen changes nothing, so what holds after every list of events holds of every run.
use Rattle.std.specs.Prelude.{◌≡◌, ℕ, ◌≤◌, Bool, true, false, not, ◌&&◌, if◌then◌else◌, bytes_eq, List, [], ◌∷◌, ◌++◌, slice_get, option_to_list, Option, Some, None, IfSome, Ok, Err}
use Rattle.std.specs.Option.{option_map_or}
use Rattle.fts_tables.specs.SettingsData.{SettingsData}
use Rattle.fts_tables.specs.Step.{Outcomes, step}
use Rattle.fts_tables.specs.History.{tables_of, IsLegal}
use Rattle.fts_tables.specs.declared.commands.Entry.{Entry}
use Rattle.fts_tables.specs.declared.commands.Command.TheVariants.{Restart}
use Rattle.fts_laws.specs.Submissions.{submissions, is_restart, vo_of}

-- what a client takes from a response
pub data Heard : Type 0 where
  -- the job with this id is there: the one that was made now, or, again, one that was there before
  Done : ℕ → Bool → Heard
  -- the service refuses, with this status
  Refused : ℕ → Heard
  -- the service can't serve now, with this status
  CannotServe : ℕ → Heard
  -- no response of the asked form
  NoAnswer : Heard

-- What the two say to each other. The service: its reply to a request over a list, by a writer at a moment, and the entries that it adds, one at most;
-- and its replies where memory is wanting and where the disk failed. The client: what it takes from a reply.
pub record Protocol (Request Reply : Type 0) : Type 0 where
  pub reply : List Entry → ℕ → Request → ℕ → Reply
  pub added : List Entry → ℕ → Request → ℕ → List Entry
  pub no_memory : Reply
  pub disk_failed : Reply
  pub heard : Reply → Heard

-- a client: the one request that it sends, and the id of its job once it was told that
pub record Client (Request : Type 0) : Type 0 where
  pub request : Request
  pub done : Option ℕ

-- the service's list, an entry that is in doubt (the disk may hold it behind the list), all requests ever sent, all responses ever made, and the client
pub record World (Request Reply : Type 0) : Type 0 where
  pub entries : List Entry
  pub doubt : Option Entry
  pub sent : List Request
  pub made : List Reply
  pub client : Client Request

-- how a request that came is met where it isn't answered as is defined: for want of memory, since the disk failed, or by no response
pub data Failure : Type 0 where
  WithoutMemory : Failure
  WithoutDisk : Failure
  WithoutResponse : Failure

-- what such a request does to a doubt: it stays, it ends, or the request's own entry comes in doubt
pub data Doubt : Type 0 where
  Stays : Doubt
  Ends : Doubt
  Begins : Doubt

-- what may happen next; requests and responses are named by their places in the lists of all that were sent and made
pub data Event : Type 0 where
  -- the client sends its request
  Sends : Event
  -- a request comes to the service, which answers it as is defined, by this writer at this moment
  IsAnswered : (which writer now : ℕ) → Event
  -- a request comes, and the service answers that it can't, or not at all; nothing is appended
  Fails : (which writer now : ℕ) → Failure → Doubt → Event
  -- a part of a request comes: it asks for nothing
  ComesInPart : (which : ℕ) → Failure → Event
  -- a response comes to the client
  Hears : (which : ℕ) → Event
  -- a part of a response comes: it says nothing
  HearsPart : (which : ℕ) → Event
  -- an entry of another caller, or of a worker
  Appends : Entry → Event
  -- the service begins anew, with settings of the same VO; the entry in doubt was kept, or not
  Restarts : (is_kept : Bool) (writer now : ℕ) → SettingsData → Event

-- a step is no refusal
abbrev pub is_accepted : Outcomes → Bool
is_accepted (Ok done) = true
is_accepted (Err refusal) = false

-- whether a list stays legal with this entry
abbrev pub may_follow : List Entry → Entry → Bool
may_follow entries entry = is_accepted (step (tables_of entries) entry.command)

-- the list with an entry more, where it stays legal
abbrev pub with_entry : List Entry → Entry → List Entry
with_entry entries entry = if may_follow entries entry then entries ++ entry ∷ [] else entries

-- the list with the entry that was in doubt, where there is one and the list stays legal
abbrev pub with_doubt : List Entry → Option Entry → List Entry
with_doubt entries None = entries
with_doubt entries (Some entry) = with_entry entries entry

-- the doubt behind what was appended: any entry ends it
abbrev pub doubt_behind : List Entry → Option Entry → Option Entry
doubt_behind [] doubt = doubt
doubt_behind (entry ∷ entries) doubt = None

-- the first of some entries
abbrev pub first_of : List Entry → Option Entry
first_of [] = None
first_of (entry ∷ entries) = Some entry

-- the doubt behind a request whose own entries are these and that failed
abbrev pub doubt_then : Doubt → Option Entry → List Entry → Option Entry
doubt_then Stays doubt own = doubt
doubt_then Ends doubt own = None
doubt_then Begins doubt own = first_of own

-- whether settings have the VO's name of the last restart
abbrev pub has_vo : Option (List ℕ) → SettingsData → Bool
has_vo vo settings = option_map_or (λ name. bytes_eq settings.vo name) vo false

-- the job that a client knows once it heard this: the first of which it was told
abbrev pub told_more : Option ℕ → Heard → Option ℕ
told_more (Some job) heard = Some job
told_more None (Done job again) = Some job
told_more None (Refused status) = None
told_more None (CannotServe status) = None
told_more None NoAnswer = None

-- the job that a client knows once it heard all this, one after the other
abbrev pub told_all : Option ℕ → List Heard → Option ℕ
told_all done [] = done
told_all done (heard ∷ more) = told_all (told_more done heard) more

module _ {Request Reply : Type 0} (protocol : Protocol Request Reply) where
  -- the response that stands in the place of a reply
  abbrev pub replies_of : Failure → List Reply
  replies_of WithoutMemory = protocol.no_memory ∷ []
  replies_of WithoutDisk = protocol.disk_failed ∷ []
  replies_of WithoutResponse = []

  -- a request is answered
  abbrev pub answered : World Request Reply → ℕ → ℕ → Option Request → World Request Reply
  answered world writer now None = world
  answered world writer now (Some request) =
      let added = protocol.added world.entries writer request now in
      record world {
        entries = world.entries ++ added;
        doubt = doubt_behind added world.doubt;
        made = world.made ++ protocol.reply world.entries writer request now ∷ [];
      }

  -- a request fails
  abbrev pub failed : World Request Reply → ℕ → ℕ → Failure → Doubt → Option Request → World Request Reply
  failed world writer now failure doubt None = world
  failed world writer now failure doubt (Some request) = record world {
    doubt = doubt_then doubt world.doubt (protocol.added world.entries writer request now);
    made = world.made ++ replies_of failure;
  }

  -- a part of a request came
  abbrev pub come_in_part : World Request Reply → Failure → Option Request → World Request Reply
  come_in_part world failure None = world
  come_in_part world failure (Some request) = record world { made = world.made ++ replies_of failure }

  -- a client that was told something
  abbrev pub client_told : Client Request → Heard → Client Request
  client_told client heard = record client { done = told_more client.done heard }

  -- a response came
  abbrev pub told : World Request Reply → Option Reply → World Request Reply
  told world None = world
  told world (Some reply) = record world { client = client_told world.client (protocol.heard reply) }

  -- an entry of another
  abbrev pub appended : World Request Reply → Entry → World Request Reply
  appended world entry =
      if may_follow world.entries entry && not (is_restart entry.command)
      then record world { entries = world.entries ++ entry ∷ []; doubt = None }
      else world

  -- a restart, behind the entry in doubt where that was kept
  abbrev pub restarted : World Request Reply → Bool → Entry → World Request Reply
  restarted world is_kept entry = record world {
    entries = (if is_kept then with_doubt world.entries world.doubt else world.entries) ++ entry ∷ [];
    doubt = None;
  }

  -- what an event makes of a world
  abbrev pub happens : World Request Reply → Event → World Request Reply
  happens world Sends = record world { sent = world.sent ++ world.client.request ∷ [] }
  happens world (IsAnswered which writer now) = answered world writer now (slice_get world.sent which)
  happens world (Fails which writer now failure doubt) = failed world writer now failure doubt (slice_get world.sent which)
  happens world (ComesInPart which failure) = come_in_part world failure (slice_get world.sent which)
  happens world (Hears which) = told world (slice_get world.made which)
  happens world (HearsPart which) = world
  happens world (Appends entry) = appended world entry
  happens world (Restarts is_kept writer now settings) =
      if has_vo (vo_of world.entries) settings
      then restarted world is_kept (record { writer = writer; command = Restart now settings })
      else world

  -- the world after events, one after the other
  abbrev pub world_after : World Request Reply → List Event → World Request Reply
  world_after world [] = world
  world_after world (event ∷ events) = world_after (happens world event) events

  -- the response that the client heard by an event, where it heard one
  abbrev pub reply_heard : World Request Reply → Event → List Reply
  reply_heard world Sends = []
  reply_heard world (IsAnswered which writer now) = []
  reply_heard world (Fails which writer now failure doubt) = []
  reply_heard world (ComesInPart which failure) = []
  reply_heard world (Hears which) = option_to_list (slice_get world.made which)
  reply_heard world (HearsPart which) = []
  reply_heard world (Appends entry) = []
  reply_heard world (Restarts is_kept writer now settings) = []

  -- the responses that the client heard in a run, in order
  abbrev pub replies_heard : World Request Reply → List Event → List Reply
  replies_heard world [] = []
  replies_heard world (event ∷ events) = reply_heard world event ++ replies_heard (happens world event) events

  -- one world leads to another by an event
  abbrev pub IsStep : World Request Reply → World Request Reply → Type 0
  IsStep world next = (event : Event) × (next ≡ happens world event)

  -- a world that is reached from another, step by step
  pub data IsReached (start : World Request Reply) : World Request Reply → Type 0 where
    Starts : IsReached start start
    Goes : {world next : World Request Reply} → IsReached start world → IsStep world next → IsReached start next

-- where a world begins: a legal list under this VO's name, nothing sent, made or in doubt, and a client with this request that wasn't told of its job
pub record IsStart {Request Reply : Type 0} (vo : List ℕ) (request : Request) (world : World Request Reply) : Type 0 where
  pub legal : IsLegal world.entries
  pub name : vo_of world.entries ≡ Some vo
  pub doubt : world.doubt ≡ None
  pub sent : world.sent ≡ []
  pub made : world.made ≡ []
  pub own : world.client.request ≡ request
  pub untold : world.client.done ≡ None

-- what a reply that names a job says: the job has this id, and it was submitted among these entries
abbrev pub IsBacked : ℕ → List Entry → Heard → Type 0
IsBacked id entries (Done job again) = (job ≡ id) × (1 ≤ submissions id entries)
IsBacked id entries (Refused status) = Unit {0}
IsBacked id entries (CannotServe status) = Unit {0}
IsBacked id entries NoAnswer = Unit {0}

-- What a service has to say to a request that submits under this id, over every legal list whose VO has this name:
-- what it adds is legal and no restart, and it names a job only where that was submitted under the id, now or before.
pub record Answers {Request Reply : Type 0} (protocol : Protocol Request Reply) (vo : List ℕ) (request : Request) (id : ℕ) : Type 0 where
  pub legal : (entries : List Entry) (writer now : ℕ) → IsLegal entries → vo_of entries ≡ Some vo
      → IsLegal (entries ++ protocol.added entries writer request now)
  pub calm : (entries : List Entry) (writer now : ℕ) → IsLegal entries → vo_of entries ≡ Some vo
      → vo_of (entries ++ protocol.added entries writer request now) ≡ Some vo
  pub backed : (entries : List Entry) (writer now : ℕ) → IsLegal entries → vo_of entries ≡ Some vo
      → IsBacked id (entries ++ protocol.added entries writer request now) (protocol.heard (protocol.reply entries writer request now))
  pub no_memory : IsBacked id [] (protocol.heard protocol.no_memory)
  pub disk_failed : IsBacked id [] (protocol.heard protocol.disk_failed)

-- what the client may rely on: its job was submitted under this id at most once; and where it was told of a job, that job has the id and was submitted once
pub record ActsOnce {Request Reply : Type 0} (id : ℕ) (world : World Request Reply) : Type 0 where
  pub most : submissions id world.entries ≤ 1
  pub done : IfSome world.client.done (λ job. (job ≡ id) × (submissions id world.entries ≡ 1))
