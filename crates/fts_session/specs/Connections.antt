-- One connection, whoever answers its requests: how its input was read, its requests, their responses in order, and how it ended.
-- Input and output are told or not, each by itself. What is said of one asks nothing of the other.
use Rattle.std.specs.Prelude.{◌≡◌, ◌⊎◌, ℕ, suc, ◌+◌, ◌<◌, ◌≤◌, ◌==◌, ◌||◌, Bool, true, false, List, [], ◌∷◌, ◌++◌, map, length, bytes_eq, codes, Option, Some, None, option_map, Result, Ok, Err}
use Rattle.std.specs.List.{concat}
use Rattle.fts_tables.specs.declared.limits.TheConstants.{MAX_REQUESTS}
use Rattle.fts_wire.specs.RequestData.{RequestData}
use Rattle.fts_wire.specs.RoomData.{RoomData}
use Rattle.fts_wire.specs.Requests.{AreRequests}
use Rattle.fts_wire.specs.Taken.{pending}
use Rattle.fts_wire.specs.Answered.{IsLoaded}
use Rattle.fts_wire.specs.Faults.{status_of, rule_of, message_of}
use Rattle.fts_wire.specs.Response.{response_of, Sends}
use Rattle.fts_wire.specs.declared.outside.SinkFailed.{SinkFailed}
use Rattle.fts_wire.specs.declared.fault.WireFault.{WireFault}
use Rattle.fts_wire.specs.declared.fault.WireFault.TheVariants.{EndsInside, SourceFailed}
use Rattle.fts_wire.specs.declared.response.Reply.{Reply}
use Rattle.fts_routes.specs.Refusals.{no_memory, refusal_of}
use Rattle.fts_session.specs.declared.ends.LineEnd.{LineEnd}
use Rattle.fts_session.specs.declared.ends.LineEnd.TheVariants as line_ends
use Rattle.fts_wire.specs.declared.outside.Source as source

-- how far an input was read: the bytes left, where it tells them, and how often it was read
pub record Reading : Type 0 where
  pub left : Option (List ℕ)
  pub reads : ℕ

-- the same by its parts
abbrev pub reading_of : Option (List ℕ) → ℕ → Reading
reading_of left reads = record { left = left; reads = reads }

-- the same of a source, by what it shows
abbrev pub reading_in : {S : Type 0} → source.Ghosts S → S → Reading
reading_in sources input = reading_of (sources.left input) (sources.reads input)

-- a request, and the reply to it
pub record Exchange : Type 0 where
  pub request : RequestData
  pub reply : Reply

-- the requests of exchanges
abbrev pub requests_of : List Exchange → List RequestData
requests_of exchanges = map (λ exchange. exchange.request) exchanges

-- whether a request asks for a head alone
abbrev pub is_head : RequestData → Bool
is_head request = bytes_eq request.method (codes "HEAD")

-- the response to a request that has so many before it: it says close where the request does, and where it is the last that a connection may have
abbrev pub response_to : ℕ → Exchange → List ℕ
response_to before exchange = response_of exchange.reply (is_head exchange.request) (exchange.request.close || (before + 1 == MAX_REQUESTS))

-- the responses to requests that have so many before them
abbrev pub responses_from : ℕ → List Exchange → List (List ℕ)
responses_from before [] = []
responses_from before (exchange ∷ exchanges) = response_to before exchange ∷ responses_from (suc before) exchanges

-- the responses of a connection
abbrev pub responses_of : List Exchange → List (List ℕ)
responses_of exchanges = responses_from 0 exchanges

-- the connection goes on behind each of these requests
abbrev pub GoOn : List Exchange → Type 0
GoOn [] = Unit {0}
GoOn (exchange ∷ exchanges) = (exchange.request.close ≡ false) × GoOn exchanges

-- the connection goes on behind each of these requests but the last, and there is one
abbrev pub GoOnToLast : List Exchange → Type 0
GoOnToLast [] = ⊥
GoOnToLast (exchange ∷ []) = Unit {0}
GoOnToLast (exchange ∷ next ∷ exchanges) = (exchange.request.close ≡ false) × GoOnToLast (next ∷ exchanges)

-- the last of these requests says close, and no other
pub record EndsByClose (exchanges : List Exchange) : Type 0 where
  pub others : List Exchange
  pub last : Exchange
  pub all : exchanges ≡ others ++ last ∷ []
  pub go_on : GoOn others
  pub closes : last.request.close ≡ true

-- bytes are these requests, one after another, and then this rest, where they are told
abbrev pub AreRequestsIn : Option (List ℕ) → List RequestData → Option (List ℕ) → Type 0
AreRequestsIn None requests rest = rest ≡ None
AreRequestsIn (Some bytes) requests None = ⊥
AreRequestsIn (Some bytes) requests (Some rest) = AreRequests bytes requests rest

-- one load, from what was kept on: what it found, and what it took to find it
abbrev pub Loads : List ℕ → Reading → Reading → RoomData → Result Bool WireFault → Type 0
Loads kept before after room result = IsLoaded kept before.left after.left before.reads after.reads room result

-- these requests were loaded one after another, each by one load, and this is kept behind them
abbrev pub AreLoaded : List ℕ → Reading → List RequestData → List ℕ → Reading → Type 0
AreLoaded kept before [] behind after = (behind ≡ kept) × (after ≡ before)
AreLoaded kept before (request ∷ more) behind after =
    (next : Reading) × ((room : RoomData) × (Loads kept before next room (Ok true) × ((room.request ≡ request) × AreLoaded room.kept next more behind after)))

-- the last load of a connection found no request, but this
abbrev pub LoadsNone : List ℕ → Reading → Reading → Result Bool WireFault → Type 0
LoadsNone kept before after result = (room : RoomData) × Loads kept before after room result

-- what an output holds behind these responses, one after another and each whole, where it tells that
abbrev pub written : Option (List ℕ) → List (List ℕ) → Option (List ℕ)
written held responses = option_map (λ before. before ++ concat responses) held

-- these responses were written, one after another and each whole
abbrev pub AreWritten : Option (List ℕ) → Option (List ℕ) → List (List ℕ) → Type 0
AreWritten held after responses = after ≡ written held responses

-- a write failed in the last of these responses: those before it were written whole, and of the last a part
pub record AreCutShort (held after : Option (List ℕ)) (responses : List (List ℕ)) : Type 0 where
  pub whole : List (List ℕ)
  pub last : List ℕ
  pub all : responses ≡ whole ++ last ∷ []
  pub failed : SinkFailed
  pub cut : Sends (written held whole) after last (Err failed)

-- the response to a fault of the framing that is answered with this status: its refusal, or want of memory; it says close
pub record IsRefusal (fault : WireFault) (status : ℕ) (response : List ℕ) : Type 0 where
  pub rule : ℕ
  pub message : List ℕ
  pub has_status : status_of fault ≡ Some status
  pub has_rule : rule_of fault ≡ Some rule
  pub has_message : message_of fault ≡ Some message
  pub is : (response ≡ response_of (refusal_of message rule status) false true) ⊎ (response ≡ response_of no_memory false true)

-- the end behind a refusal with this status, by whether it could be written
abbrev pub end_by : ℕ → Result (Unit {0}) SinkFailed → LineEnd
end_by status (Ok sent) = line_ends.Refused status
end_by status (Err failed) = line_ends.SinkFailed

-- what came was refused, by a last response that was written whole or cut short
pub record IsRefused (before after : Option (List ℕ)) (fault : WireFault) (end : LineEnd) : Type 0 where
  pub status : ℕ
  pub response : List ℕ
  pub refusal : IsRefusal fault status response
  pub result : Result (Unit {0}) SinkFailed
  pub sent : Sends before after response result
  pub ended : end ≡ end_by status result

-- these responses and, as the last one, the refusal of a fault with this status
abbrev pub WithRefusal : WireFault → ℕ → (List (List ℕ) → Type 0) → List (List ℕ) → Type 0
WithRefusal fault status P responses = (response : List ℕ) × (IsRefusal fault status response × P (responses ++ response ∷ []))

-- Behind its requests a connection tries one load more, which finds no request; behind a request that says close, behind the last one that it
-- may have, and where a response could not be written, it tries none.
pub record TriesOneMore (exchanges : List Exchange) (kept : List ℕ) (between after : Reading) (result : Result Bool WireFault) : Type 0 where
  pub go_on : GoOn exchanges
  pub few : length exchanges < MAX_REQUESTS
  pub loads : LoadsNone kept between after result

-- what came behind these exchanges was refused for this fault, with this status: what is written are their responses and the refusal
pub record RefusesNext (exchanges : List Exchange) (kept : List ℕ) (between after : Reading) (fault : WireFault) (status : ℕ)
    (Written : List (List ℕ) → Type 0) : Type 0 where
  pub tries : TriesOneMore exchanges kept between after (Err fault)
  pub written : WithRefusal fault status Written (responses_of exchanges)

-- the last request says close, and nothing was read behind it
pub record ClosesLast (exchanges : List Exchange) (between after : Reading) : Type 0 where
  pub by_close : EndsByClose exchanges
  pub unread : after ≡ between

-- How a connection ended behind these exchanges, of which the last one's response may have failed to be written: with this kept behind
-- its requests, and its input read so far then.
abbrev pub Ends : List Exchange → Bool → List ℕ → Reading → Reading → Option (List ℕ) → Option (List ℕ) → LineEnd → Type 0
Ends exchanges true kept between after held now line_ends.SinkFailed =
    GoOnToLast exchanges × ((after ≡ between) × AreCutShort held now (responses_of exchanges))
Ends exchanges true kept between after held now line_ends.Closed = ⊥
Ends exchanges true kept between after held now line_ends.EndsInside = ⊥
Ends exchanges true kept between after held now (line_ends.Refused status) = ⊥
Ends exchanges true kept between after held now line_ends.Many = ⊥
Ends exchanges true kept between after held now line_ends.SourceFailed = ⊥
Ends exchanges false kept between after held now line_ends.Closed =
    (ClosesLast exchanges between after ⊎ TriesOneMore exchanges kept between after (Ok false)) × AreWritten held now (responses_of exchanges)
Ends exchanges false kept between after held now line_ends.EndsInside =
    TriesOneMore exchanges kept between after (Err EndsInside) × AreWritten held now (responses_of exchanges)
Ends exchanges false kept between after held now (line_ends.Refused status) =
    (fault : WireFault) × RefusesNext exchanges kept between after fault status (AreWritten held now)
Ends exchanges false kept between after held now line_ends.Many =
    GoOn exchanges × ((length exchanges ≡ MAX_REQUESTS) × ((after ≡ between) × AreWritten held now (responses_of exchanges)))
Ends exchanges false kept between after held now line_ends.SourceFailed =
    TriesOneMore exchanges kept between after (Err SourceFailed) × AreWritten held now (responses_of exchanges)
Ends exchanges false kept between after held now line_ends.SinkFailed =
    (fault : WireFault) × ((status : ℕ) × RefusesNext exchanges kept between after fault status (AreCutShort held now))

-- whether there is one
abbrev pub is_there : List Exchange → Bool
is_there [] = false
is_there (exchange ∷ exchanges) = true

-- who answers: what a request makes of where it stands, and what follows once its response was written
module _ {S : Type 0} (Answers : S → RequestData → Reply → S → Type 0) (Follows : S → S → Type 0) where
  -- these requests were answered in order, and what follows each response was done
  abbrev pub AreServed : S → List Exchange → S → Type 0
  AreServed before [] after = after ≡ before
  AreServed before (exchange ∷ exchanges) after =
      (answered : S) × ((next : S) × (Answers before exchange.request exchange.reply answered × (Follows answered next × AreServed next exchanges after)))

  -- one request more was answered, whose response could not be written
  abbrev pub LastAnswered : S → List Exchange → S → Type 0
  LastAnswered before [] after = after ≡ before
  LastAnswered before (exchange ∷ []) after = Answers before exchange.request exchange.reply after
  LastAnswered before (exchange ∷ next ∷ more) after = ⊥

  -- a connection that began with these bytes kept led from one standing to another
  pub record IsConnection (kept : List ℕ) (before after : S) (input left : Reading) (held now : Option (List ℕ)) (end : LineEnd) : Type 0 where
    pub served : List Exchange
    pub last : List Exchange
    pub few : length (served ++ last) ≤ MAX_REQUESTS
    pub behind : List ℕ
    pub between : Reading
    pub loaded : AreLoaded kept input (requests_of (served ++ last)) behind between
    pub requests : AreRequestsIn (pending kept input.left) (requests_of (served ++ last)) (pending behind between.left)
    pub middle : S
    pub answered : AreServed before served middle
    pub unwritten : LastAnswered middle last after
    pub ends : Ends (served ++ last) (is_there last) behind between left held now end
