-- What a client reads: one response, however its bytes were cut. Which bytes are a response is said by the words for writing one.
use Rattle.std.specs.Prelude.{◌≡◌, ◌≢◌, ℕ, ◌+◌, ◌<◌, ◌≤◌, Bool, false, IsTrue, List, [], ◌∷◌, ◌++◌, length, Option, Some, None, Result, Ok, Err}
use Rattle.std.specs.List.{concat}
use Rattle.fts_tables.specs.Counts.{Rose}
use Rattle.fts_wire.specs.Outside.{IsTakenOf, raised}
use Rattle.fts_wire.specs.Response.{has_phrase, has_methods, response_of}
use Rattle.fts_wire.specs.declared.answers.Answered.{Answered}
use Rattle.fts_wire.specs.declared.answers.AnswerFault.{AnswerFault}
use Rattle.fts_wire.specs.declared.answers.AnswerFault.TheVariants.{BadResponse, EndsInside, SourceFailed}
use Rattle.fts_wire.specs.declared.buffer.TheConstants.{PIECE_BYTES}
use Rattle.fts_wire.specs.declared.response.Allow.{Allow}
use Rattle.fts_wire.specs.declared.response.Reply.{Reply}

-- a response as a client sees it: its status and its body
pub record AnswerData : Type 0 where
  pub status : ℕ
  pub body : List ℕ

-- what contracts see of a room: the body that it holds
pub record AnswerRoomData : Type 0 where
  pub body : List ℕ

-- what an answer lends
abbrev pub answer_data : Answered → AnswerData
answer_data answered = record { status = answered.status; body = answered.body.now }

-- what a client sees of a reply
abbrev pub answer_of : Reply → AnswerData
answer_of reply = record { status = reply.status; body = reply.body }

-- bytes are a response, whole and with nothing behind it, whose body is within the limit of a client
pub record IsResponse (bytes : List ℕ) (answer : AnswerData) : Type 0 where
  pub allow : Allow
  pub close : Bool
  pub phrase : IsTrue (has_phrase answer.status)
  pub methods : IsTrue (has_methods answer.status allow)
  pub few : length answer.body ≤ 8389632
  pub spelled : bytes ≡ response_of (record { status = answer.status; allow = allow; body = answer.body }) false close

-- some bytes behind these make them a response
pub record BeginsResponse (bytes : List ℕ) : Type 0 where
  pub behind : List ℕ
  pub answer : AnswerData
  pub whole : IsResponse (bytes ++ behind) answer

-- some bytes behind these make them a response, and one byte is wanted at least
pub record IsInside (bytes : List ℕ) : Type 0 where
  pub begins : BeginsResponse bytes
  pub wanting : begins.behind ≢ []

-- bytes that begin with a response
pub record BeginsWith (bytes : List ℕ) (answer : AnswerData) : Type 0 where
  pub response : List ℕ
  pub behind : List ℕ
  pub parts : bytes ≡ response ++ behind
  pub whole : IsResponse response answer

-- a piece was read behind bytes that are short of a response: so nothing is read past the piece in which it ends
pub record IsReadInside (bytes piece : List ℕ) : Type 0 where
  pub inside : IsInside bytes
  pub some : 0 < length piece
  pub small : length piece ≤ PIECE_BYTES

-- these pieces were read, one after another
abbrev pub AreReadInside : List ℕ → List (List ℕ) → Type 0
AreReadInside bytes [] = Unit {0}
AreReadInside bytes (piece ∷ pieces) = IsReadInside bytes piece × AreReadInside (bytes ++ piece) pieces

-- what was found in all the bytes that were taken, behind which so much is left, where that is told
abbrev pub FindsAnswer : List ℕ → Option (List ℕ) → Result AnswerData AnswerFault → Type 0
FindsAnswer taken left (Ok answer) = BeginsWith taken answer
FindsAnswer taken left (Err BadResponse) = BeginsResponse taken → ⊥
FindsAnswer taken None (Err EndsInside) = IsInside taken
FindsAnswer taken (Some rest) (Err EndsInside) = IsInside taken × (rest ≡ [])
FindsAnswer taken left (Err SourceFailed) = IsInside taken

-- how many reads of a call gave no byte: the one that found the end or failed, which is the last
abbrev pub reads_behind : Result AnswerData AnswerFault → ℕ
reads_behind (Ok answer) = 0
reads_behind (Err BadResponse) = 0
reads_behind (Err EndsInside) = 1
reads_behind (Err SourceFailed) = 1

-- What reading a response did: to what the source had left, to its count of reads, and to the bytes that were taken of it, a piece with each read.
pub record ReadsAnswer (before after : Option (List ℕ)) (old new : ℕ) (result : Result AnswerData AnswerFault) : Type 0 where
  pub pieces : List (List ℕ)
  pub inside : AreReadInside [] pieces
  pub from_source : IsTakenOf before after (concat pieces)
  pub counted : new ≡ raised old (length pieces + reads_behind result)
  pub finds : FindsAnswer (concat pieces) after result

-- a read failed only where the source's count rose
abbrev pub AnswerCause : Result AnswerData AnswerFault → ℕ → ℕ → Type 0
AnswerCause (Ok answer) old new = Unit {0}
AnswerCause (Err BadResponse) old new = Unit {0}
AnswerCause (Err EndsInside) old new = Unit {0}
AnswerCause (Err SourceFailed) old new = Rose old new

-- what a room holds behind a read: the response's body, and nothing behind a fault
abbrev pub held_behind : Result AnswerData AnswerFault → AnswerRoomData
held_behind (Ok answer) = record { body = answer.body }
held_behind (Err fault) = record { body = [] }

-- a result as contracts see it
abbrev pub result_data : Result Answered AnswerFault → Result AnswerData AnswerFault
result_data (Ok answered) = Ok (answer_data answered)
result_data (Err fault) = Err fault

-- what a load found, with the body that the room holds behind it
abbrev pub loaded : Result ℕ AnswerFault → List ℕ → Result AnswerData AnswerFault
loaded (Ok status) body = Ok (record { status = status; body = body })
loaded (Err fault) body = Err fault

-- what reading a response did, and what its room holds once the response is let go
pub record IsNextAnswer (before after : Option (List ℕ)) (old new : ℕ) (room : AnswerRoomData) (result : Result Answered AnswerFault) : Type 0 where
  pub reads : ReadsAnswer before after old new (result_data result)
  pub held : room ≡ held_behind (result_data result)
