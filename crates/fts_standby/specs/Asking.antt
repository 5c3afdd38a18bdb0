-- Asking a service for one entry: the bytes of the request (HTTP/1.1, RFC 9112, section 3), what is heard in a try, and which try is the last.
use Rattle.std.specs.Prelude.{◌≡◌, ℕ, ◌≤◌, Bool, true, false, List, [], ◌∷◌, ◌++◌, length, codes, decimal, Vec, Option, Some, None, Result, Ok, Err}
use Rattle.std.specs.List.{AllByRecursion}
use Rattle.std.specs.declared.alloc.Global.{Global}
use Rattle.fts_tables.specs.declared.names.Memory.{Memory as WantOfMemory}
use Rattle.fts_wire.specs.Outside.{Side}
use Rattle.fts_wire.specs.declared.answers.AnswerFault.TheVariants.{BadResponse, EndsInside, SourceFailed}
use Rattle.fts_client.specs.Links.{LinkData}
use Rattle.fts_client.specs.Tries.{Try, NoLine, NotSent, Sent, AreTried}
use Rattle.fts_standby.specs.Hearing.{Heard, Gives, NoneThere, Refuses, CannotServe, NoAnswer, LinkFailed, heard_of, heard_data}
use Rattle.fts_standby.specs.declared.hearing.Heard.{Heard as HeardCode}
use Rattle.fts_standby.specs.declared.ends.FollowEnd.{FollowEnd}
use Rattle.fts_standby.specs.declared.ends.FollowEnd.TheVariants as ends

-- the request for the entry of a number, on a line to this port: the last one on its connection
abbrev pub request_bytes : ℕ → ℕ → List ℕ
request_bytes port number =
    codes "GET /journal/" ++ decimal number ++ codes " HTTP/1.1\r\nHost: 127.0.0.1:" ++ decimal port ++ codes "\r\nConnection: close\r\n\r\n"

-- what is heard in a try for the entry of a number
abbrev pub heard_by : ℕ → Try → Heard
heard_by number (Sent (Ok answer)) = heard_of number answer.status answer.body
heard_by number (Sent (Err BadResponse)) = NoAnswer
heard_by number (Sent (Err EndsInside)) = NoAnswer
heard_by number _ = LinkFailed

-- whether there is no other try behind this
abbrev pub is_final : Heard → Bool
is_final (CannotServe status) = false
is_final NoAnswer = false
is_final LinkFailed = false
is_final _ = true

-- behind each of these tries for the entry of a number there is another one
abbrev pub GoOn : ℕ → List Try → Type 0
GoOn number tries = AllByRecursion (λ try. is_final (heard_by number try) ≡ false) tries

-- all tries for the entry of a number, of which so many are allowed, and what was heard in the last one: where that isn't final, all are used up
pub record IsAsked (number most : ℕ) (tries : List Try) (heard : Heard) : Type 0 where
  pub again : List Try
  pub last : Try
  pub are : tries ≡ again ++ last ∷ []
  pub on : GoOn number again
  pub heard_is : heard_by number last ≡ heard
  pub few : length tries ≤ most
  pub used_up : is_final heard ≡ false → length tries ≡ most

-- tries for the entry of a number behind the last of which memory ran out
pub record IsCut (number most : ℕ) (tries : List Try) : Type 0 where
  pub again : List Try
  pub last : Try
  pub are : tries ≡ again ++ last ∷ []
  pub on : GoOn number again
  pub few : length tries ≤ most

-- what asking came to, where this was heard or memory ran out
abbrev pub AsksBy : ℕ → ℕ → List Try → Result HeardCode WantOfMemory → Type 0
AsksBy number most tries (Ok heard) = IsAsked number most tries (heard_data heard)
AsksBy number most tries (Err memory) = IsCut number most tries

-- what asking did to a link: tries at a port with one and the same request
pub record Asks {L : Type 0} (read written : Side L) (port number most : ℕ) (old new : LinkData L) (faults_old faults_new : ℕ)
    (result : Result HeardCode WantOfMemory) : Type 0 where
  pub tries : List Try
  pub tried : AreTried read written port (request_bytes port number) old new faults_old faults_new tries
  pub came : AsksBy number most tries result

-- ---- what that means to whoever follows

-- following ends since no entry was given, nor that there is none
abbrev pub EndsAsking : ℕ → ℕ → List Try → FollowEnd → Type 0
EndsAsking number most tries (ends.Refused status) = IsAsked number most tries (Refuses status)
EndsAsking number most tries (ends.CannotServe status) = IsAsked number most tries (CannotServe status)
EndsAsking number most tries ends.NoAnswer = IsAsked number most tries NoAnswer
EndsAsking number most tries ends.LinkFailed = IsAsked number most tries LinkFailed
EndsAsking number most tries ends.Memory = IsCut number most tries
EndsAsking number most tries (ends.CaughtUp count) = ⊥
EndsAsking number most tries (ends.Diverged at) = ⊥
EndsAsking number most tries ends.DiskFailed = ⊥
EndsAsking number most tries (ends.JournalFull used) = ⊥

-- the entry that was heard, or that there is none, or the end by what was heard instead
abbrev pub IsEntryOf : Heard → Result (Option (Vec ℕ Global)) FollowEnd → Type 0
IsEntryOf heard (Ok (Some entry)) = heard ≡ Gives entry.items
IsEntryOf heard (Ok None) = heard ≡ NoneThere
IsEntryOf heard (Err (ends.Refused status)) = heard ≡ Refuses status
IsEntryOf heard (Err (ends.CannotServe status)) = heard ≡ CannotServe status
IsEntryOf heard (Err ends.NoAnswer) = heard ≡ NoAnswer
IsEntryOf heard (Err ends.LinkFailed) = heard ≡ LinkFailed
IsEntryOf heard (Err ends.Memory) = ⊥
IsEntryOf heard (Err (ends.CaughtUp count)) = ⊥
IsEntryOf heard (Err (ends.Diverged at)) = ⊥
IsEntryOf heard (Err ends.DiskFailed) = ⊥
IsEntryOf heard (Err (ends.JournalFull used)) = ⊥

-- what asking for an entry came to
abbrev pub ComesTo : ℕ → ℕ → List Try → Result (Option (Vec ℕ Global)) FollowEnd → Type 0
ComesTo number most tries (Ok (Some entry)) = IsAsked number most tries (Gives entry.items)
ComesTo number most tries (Ok None) = IsAsked number most tries NoneThere
ComesTo number most tries (Err end) = EndsAsking number most tries end

-- what asking for an entry did
pub record AsksFor {L : Type 0} (read written : Side L) (port number most : ℕ) (old new : LinkData L) (faults_old faults_new : ℕ)
    (result : Result (Option (Vec ℕ Global)) FollowEnd) : Type 0 where
  pub tries : List Try
  pub tried : AreTried read written port (request_bytes port number) old new faults_old faults_new tries
  pub came : ComesTo number most tries result

-- ---- several requests

-- a request for the entry of a number, by its tries
pub record Request : Type 0 where
  pub number : ℕ
  pub tries : List Try

-- requests that were made at a port one after the other, each by its tries
abbrev pub AreMade : {L : Type 0} → Side L → Side L → ℕ → LinkData L → LinkData L → ℕ → ℕ → List Request → Type 0
AreMade read written port old new faults_old faults_new [] = (new ≡ old) × (faults_new ≡ faults_old)
AreMade {L = L} read written port old new faults_old faults_new (request ∷ requests) =
    (between : LinkData L) × (faults : ℕ) × AreTried read written port (request_bytes port request.number) old between faults_old faults request.tries
    × AreMade read written port between new faults faults_new requests
