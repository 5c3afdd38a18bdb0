-- How a client's tries end: which try is the last, and what it says.
use Rattle.std.specs.Prelude.{◌≡◌, ℕ, ◌≤◌, ◌==◌, ◌||◌, Bool, true, false, if◌then◌else◌, List, [], ◌∷◌, length, Option, Some, None, Ok, Err}
use Rattle.fts_wire.specs.Outside.{Side}
use Rattle.fts_wire.specs.NextAnswers.{AnswerData, AnswerRoomData, held_behind}
use Rattle.fts_client.specs.Worlds.{Heard, Done, Refused, CannotServe, NoAnswer}
use Rattle.fts_client.specs.Hearing.{heard_in, shown_in}
use Rattle.fts_client.specs.Links.{LinkData}
use Rattle.fts_client.specs.RequestBytes.{submission_bytes, query_bytes}
use Rattle.fts_client.specs.Tries.{Try, NoLine, NotSent, Sent, IsByLink, AreTried}
use Rattle.fts_wire.specs.declared.answers.AnswerFault.TheVariants.{BadResponse, EndsInside, SourceFailed}
use Rattle.fts_client.specs.declared.ends.SubmitEnd.{SubmitEnd}
use Rattle.fts_client.specs.declared.ends.SubmitEnd.TheVariants.{Done as SubmitDone, Refused as SubmitRefused, LinkFailed as SubmitLinkFailed, CannotServe as SubmitCannotServe, NoAnswer as SubmitNoAnswer, Memory as SubmitMemory}
use Rattle.fts_client.specs.declared.ends.QueryEnd.{QueryEnd}
use Rattle.fts_client.specs.declared.ends.QueryEnd.TheVariants.{Found, Refused as QueryRefused, LinkFailed as QueryLinkFailed, CannotServe as QueryCannotServe, NoAnswer as QueryNoAnswer, Memory as QueryMemory}

-- ---- what a try says

-- what a response says to a submission, and to a query
abbrev pub says_to_submission : AnswerData → Heard
says_to_submission answer = heard_in answer.status answer.body

abbrev pub says_to_query : AnswerData → Heard
says_to_query answer = shown_in answer.status

-- what a try says, where a response says so much
abbrev pub said_in : (AnswerData → Heard) → Try → Heard
said_in says (Sent (Ok answer)) = says answer
said_in says _ = NoAnswer

-- a try says this
abbrev pub Says : (AnswerData → Heard) → Heard → Try → Type 0
Says says heard try = said_in says try ≡ heard

-- a try that wasn't ended by the link, and whose bytes were no response that says anything
abbrev pub SaysNothing : (AnswerData → Heard) → Try → Type 0
SaysNothing says NoLine = ⊥
SaysNothing says NotSent = ⊥
SaysNothing says (Sent (Ok answer)) = says answer ≡ NoAnswer
SaysNothing says (Sent (Err BadResponse)) = Unit {0}
SaysNothing says (Sent (Err EndsInside)) = Unit {0}
SaysNothing says (Sent (Err SourceFailed)) = ⊥

-- a try read a response of this status
abbrev pub HasStatus : ℕ → Try → Type 0
HasStatus status NoLine = ⊥
HasStatus status NotSent = ⊥
HasStatus status (Sent (Ok answer)) = answer.status ≡ status
HasStatus status (Sent (Err fault)) = ⊥

-- ---- which try is the last

-- behind what was heard there is another try
abbrev pub goes_on : Heard → Bool
goes_on (Done job again) = false
goes_on (Refused status) = false
goes_on (CannotServe status) = true
goes_on NoAnswer = true

-- the last of some tries is so, and behind each other one there is another try
abbrev pub EndsWith : (AnswerData → Heard) → (Try → Type 0) → List Try → Type 0
EndsWith says Is [] = ⊥
EndsWith says Is (try ∷ []) = Is try
EndsWith says Is (try ∷ next ∷ more) = (goes_on (said_in says try) ≡ true) × EndsWith says Is (next ∷ more)

-- behind each try but the last there is another
abbrev pub GoOn : (AnswerData → Heard) → List Try → Type 0
GoOn says [] = Unit {0}
GoOn says (try ∷ []) = Unit {0}
GoOn says (try ∷ next ∷ more) = (goes_on (said_in says try) ≡ true) × GoOn says (next ∷ more)

-- How tries end by what their responses say, of which so many are allowed. What is told, the last one said; and where no response ended them, all are used up.
abbrev pub IsEnd : (AnswerData → Heard) → ℕ → List Try → SubmitEnd → Type 0
IsEnd says most tries (SubmitDone job again) = EndsWith says (Says says (Done job again)) tries × (length tries ≤ most)
IsEnd says most tries (SubmitRefused status) = EndsWith says (Says says (Refused status)) tries × (length tries ≤ most)
IsEnd says most tries SubmitLinkFailed = EndsWith says IsByLink tries × (length tries ≡ most)
IsEnd says most tries (SubmitCannotServe status) = EndsWith says (Says says (CannotServe status)) tries × (length tries ≡ most)
IsEnd says most tries SubmitNoAnswer = EndsWith says (SaysNothing says) tries × (length tries ≡ most)
IsEnd says most tries SubmitMemory = GoOn says tries × (length tries ≤ most)

-- how a submission ends
abbrev pub IsSubmitEnd : ℕ → List Try → SubmitEnd → Type 0
IsSubmitEnd most tries end = IsEnd says_to_submission most tries end

-- how a query ends
abbrev pub IsQueryEnd : ℕ → List Try → QueryEnd → Type 0
IsQueryEnd most tries Found = EndsWith says_to_query (HasStatus 200) tries × (length tries ≤ most)
IsQueryEnd most tries (QueryRefused status) = EndsWith says_to_query (Says says_to_query (Refused status)) tries × (length tries ≤ most)
IsQueryEnd most tries QueryLinkFailed = EndsWith says_to_query IsByLink tries × (length tries ≡ most)
IsQueryEnd most tries (QueryCannotServe status) = EndsWith says_to_query (Says says_to_query (CannotServe status)) tries × (length tries ≡ most)
IsQueryEnd most tries QueryNoAnswer = EndsWith says_to_query (SaysNothing says_to_query) tries × (length tries ≡ most)
IsQueryEnd most tries QueryMemory = GoOn says_to_query tries × (length tries ≤ most)

-- ---- what a whole call did

-- the body that the room holds behind tries, where it held this before them: that of the last response that was read, if no read failed behind it
abbrev pub room_behind : AnswerRoomData → List Try → AnswerRoomData
room_behind room [] = room
room_behind room (NoLine ∷ tries) = room_behind room tries
room_behind room (NotSent ∷ tries) = room_behind room tries
room_behind room (Sent result ∷ tries) = room_behind (held_behind result) tries

-- what repeating a request with these bytes at a port did, to the link, to its count of faults, and to the room: tries at this port and no other,
-- with these bytes and no others, which ended so
pub record Repeated {L : Type 0} (read written : Side L) (port : ℕ) (request : List ℕ) (Ends : List Try → Type 0) (old new : LinkData L) (faults_old faults_new : ℕ)
    (room_old room_new : AnswerRoomData) : Type 0 where
  pub tries : List Try
  pub tried : AreTried read written port request old new faults_old faults_new tries
  pub ends : Ends tries
  pub room : room_new ≡ room_behind room_old tries

-- what submitting a document on a port did
abbrev pub Submitted : {L : Type 0} → Side L → Side L → ℕ → List ℕ → ℕ → SubmitEnd → LinkData L → LinkData L → ℕ → ℕ → AnswerRoomData → AnswerRoomData → Type 0
Submitted read written port document most end = Repeated read written port (submission_bytes port document) (λ tries. IsSubmitEnd most tries end)

-- what asking for a job on a port did
abbrev pub Queried : {L : Type 0} → Side L → Side L → ℕ → ℕ → ℕ → QueryEnd → LinkData L → LinkData L → ℕ → ℕ → AnswerRoomData → AnswerRoomData → Type 0
Queried read written port job most end = Repeated read written port (query_bytes port job) (λ tries. IsQueryEnd most tries end)

-- ---- the end that a try would be

-- a try that would end all tries so, were it the last
abbrev pub SaysSo : (AnswerData → Heard) → Try → SubmitEnd → Type 0
SaysSo says try (SubmitDone job again) = said_in says try ≡ Done job again
SaysSo says try (SubmitRefused status) = said_in says try ≡ Refused status
SaysSo says try SubmitLinkFailed = IsByLink try
SaysSo says try (SubmitCannotServe status) = said_in says try ≡ CannotServe status
SaysSo says try SubmitNoAnswer = SaysNothing says try
SaysSo says try SubmitMemory = Unit {0}

-- the end by the job that a body names, or by none
abbrev pub end_by : Option ℕ → Bool → SubmitEnd
end_by (Some job) again = SubmitDone job again
end_by None again = SubmitNoAnswer

-- the end by a status that tells of no job
abbrev pub end_without : ℕ → SubmitEnd
end_without status = if (status == 500) || (status == 503) then SubmitCannotServe status else SubmitRefused status

-- an end behind which there is no other try
abbrev pub is_last : SubmitEnd → Bool
is_last SubmitLinkFailed = false
is_last (SubmitCannotServe status) = false
is_last SubmitNoAnswer = false
is_last _ = true
