-- One try of a client: it dials, writes its one request, reads one response, and hands the line back, whatever came.
use Rattle.std.specs.Prelude.{◌≡◌, ℕ, ◌≤◌, Bool, true, false, List, [], ◌∷◌, Option, Some, Result, Ok, Err}
use Rattle.fts_tables.specs.Counts.{Rose}
use Rattle.fts_wire.specs.Outside.{Side}
use Rattle.fts_wire.specs.Response.{Sends}
use Rattle.fts_wire.specs.NextAnswers.{AnswerData, ReadsAnswer, loaded}
use Rattle.fts_client.specs.Links.{LinkData, dialed, Dials, with_one_back}
use Rattle.fts_wire.specs.declared.answers.AnswerFault.{AnswerFault}
use Rattle.fts_wire.specs.declared.answers.AnswerFault.TheVariants.{BadResponse, EndsInside, SourceFailed}
use Rattle.fts_client.specs.declared.link.LinkFailed.{LinkFailed}
use Rattle.fts_client.specs.declared.tries.Tried.{Tried}
use Rattle.fts_client.specs.declared.tries.Tried.TheVariants.{NoLine as TriedNoLine, NotSent as TriedNotSent, Sent as TriedSent}

-- how a try went: no line was to be had; a write failed; or the request was written whole, and this came of reading
pub data Try : Type 0 where
  NoLine : Try
  NotSent : Try
  Sent : Result AnswerData AnswerFault → Try

-- nothing was read on a line
pub record ReadsNothing {L : Type 0} (read : Side L) (before after : L) : Type 0 where
  pub bytes : read.bytes after ≡ read.bytes before
  pub reads : read.reads after ≡ read.reads before

-- what a try did on its line: nothing is read before the whole request is written, and where a write failed a part of it is there
abbrev pub IsOnLine : {L : Type 0} → Side L → Side L → List ℕ → L → L → Try → Type 0
IsOnLine read written request before after NoLine = ⊥
IsOnLine read written request before after NotSent =
    Sends {E = Unit {0}} (written.bytes before) (written.bytes after) request (Err tt) × ReadsNothing read before after × (1 ≤ written.faults after)
IsOnLine read written request before after (Sent result) =
    Sends {E = Unit {0}} (written.bytes before) (written.bytes after) request (Ok tt)
    × ReadsAnswer (read.bytes before) (read.bytes after) (read.reads before) (read.reads after) result

-- a try that a failure of the link ended
abbrev pub IsByLink : Try → Type 0
IsByLink NoLine = Unit {0}
IsByLink NotSent = Unit {0}
IsByLink (Sent (Ok answer)) = ⊥
IsByLink (Sent (Err BadResponse)) = ⊥
IsByLink (Sent (Err EndsInside)) = ⊥
IsByLink (Sent (Err SourceFailed)) = Unit {0}

-- the dial of a port gave a line, the try was on it, and it came back
pub record OverLine {L : Type 0} (read written : Side L) (port : ℕ) (request : List ℕ) (old new : LinkData L) (try : Try) : Type 0 where
  pub before : L
  pub after : L
  pub given : LinkData L
  pub dials : Dials {E = LinkFailed} port old given (Ok before)
  pub line : IsOnLine read written request before after try
  pub back : new ≡ with_one_back given after

-- what a try at a port did to the link: it dialed that port once, and no other
abbrev pub TriesLink : {L : Type 0} → Side L → Side L → ℕ → List ℕ → LinkData L → LinkData L → Try → Type 0
TriesLink read written port request old new NoLine = new ≡ dialed port old
TriesLink read written port request old new NotSent = OverLine read written port request old new NotSent
TriesLink read written port request old new (Sent result) = OverLine read written port request old new (Sent result)

-- a try, and how the link's count of faults went on: it rose where a failure of the link ended the try
pub record IsTried {L : Type 0} (read written : Side L) (port : ℕ) (request : List ℕ) (old new : LinkData L) (faults_old faults_new : ℕ) (try : Try) : Type 0 where
  pub link : TriesLink read written port request old new try
  pub keeps : faults_old ≤ faults_new
  pub cause : IsByLink try → Rose faults_old faults_new

-- tries one after the other, each at the same port and with the same request
abbrev pub AreTried : {L : Type 0} → Side L → Side L → ℕ → List ℕ → LinkData L → LinkData L → ℕ → ℕ → List Try → Type 0
AreTried read written port request old new faults_old faults_new [] = (new ≡ old) × (faults_new ≡ faults_old)
AreTried {L = L} read written port request old new faults_old faults_new (try ∷ tries) =
    (between : LinkData L) × (faults : ℕ) × IsTried read written port request old between faults_old faults try
    × AreTried read written port request between new faults faults_new tries

-- the port that was dialed last, where tries at a port stand behind this one
abbrev pub port_behind : ℕ → Option ℕ → List Try → Option ℕ
port_behind port before [] = before
port_behind port before (try ∷ tries) = Some port

-- whether a try had a line
abbrev pub has_line : Try → Bool
has_line NoLine = false
has_line NotSent = true
has_line (Sent result) = true

-- whether the last dial gave a line, where tries stand behind the one that did so or not
abbrev pub given_behind : Bool → List Try → Bool
given_behind before [] = before
given_behind before (try ∷ tries) = given_behind (has_line try) tries

-- the responses that tries read, in order
abbrev pub answers_of : List Try → List AnswerData
answers_of [] = []
answers_of (NoLine ∷ tries) = answers_of tries
answers_of (NotSent ∷ tries) = answers_of tries
answers_of (Sent (Ok answer) ∷ tries) = answer ∷ answers_of tries
answers_of (Sent (Err fault) ∷ tries) = answers_of tries

-- a try as code tells it, with the body that the room holds behind it
abbrev pub try_of : Tried → List ℕ → Try
try_of TriedNoLine body = NoLine
try_of TriedNotSent body = NotSent
try_of (TriedSent result) body = Sent (loaded result body)
