-- What a look at bytes says of the response that they may be the beginning of.
use Rattle.std.specs.Prelude.{◌≡◌, ℕ, ◌+◌, ◌<◌, ◌≤◌, ◌⊎◌, Bool, true, false, IsTrue, List, ◌++◌, length, take, drop, get_or, Option, Some, None}
use Rattle.std.specs.Char.{is_ascii_digit}
use Rattle.std.specs.Str.{all_ascii_digits}
use Rattle.std.specs.Str.Parse.{digits_value}
use Rattle.fts_wire.specs.Response.{has_phrase, has_methods, head_of, response_of}
use Rattle.fts_wire.specs.NextAnswers.{BeginsResponse, IsInside}
use Rattle.fts_wire.specs.declared.answer_look.AnswerHead.{AnswerHead}
use Rattle.fts_wire.specs.declared.answer_look.AnswerLook.{AnswerLook}
use Rattle.fts_wire.specs.declared.answer_look.AnswerLook.TheVariants.{Short, Refused, Found}
use Rattle.fts_wire.specs.declared.response.Allow.{Allow}
use Rattle.fts_wire.specs.declared.response.Allow.TheVariants.{Jobs, Job, Get, File}

-- bytes begin with the head of a response, behind which stands its body
pub record AnswerStands (bytes : List ℕ) (head : AnswerHead) : Type 0 where
  pub allow : Allow
  pub close : Bool
  pub phrase : IsTrue (has_phrase head.status)
  pub methods : IsTrue (has_methods head.status allow)
  pub few : head.body ≤ 8389632
  pub size : length (head_of head.status head.body allow close) ≡ head.size
  pub parts : bytes ≡ head_of head.status head.body allow close ++ drop head.size bytes

-- what a look says, where a refusal says this
abbrev pub SeesAnswer : List ℕ → Type 0 → AnswerLook → Type 0
SeesAnswer bytes IsRefused Short = IsInside bytes
SeesAnswer bytes IsRefused Refused = IsRefused
SeesAnswer bytes IsRefused (Found head) = AnswerStands bytes head

-- no bytes behind these make them a response of this status with these lines in its head
abbrev pub IsNoneWith : List ℕ → ℕ → Allow → Bool → Type 0
IsNoneWith bytes status allow close = (body behind : List ℕ) → length body ≤ 8389632
    → bytes ++ behind ≡ response_of (record { status = status; allow = allow; body = body }) false close → ⊥

-- nor one of this status
abbrev pub IsNoneOf : List ℕ → ℕ → Type 0
IsNoneOf bytes status = (allow : Allow) (close : Bool) → IsTrue (has_methods status allow) → IsNoneWith bytes status allow close

-- one of these begins the other
abbrev pub Follows : List ℕ → List ℕ → Type 0
Follows bytes head = (rest : List ℕ) × ((bytes ≡ head ++ rest) ⊎ (head ≡ bytes ++ rest))

-- the bytes follow no head of this status, with this length of the body and these methods
abbrev pub IsNoneHeaded : List ℕ → ℕ → ℕ → Allow → Type 0
IsNoneHeaded bytes status n allow = (close : Bool) → Follows bytes (head_of status n allow close) → ⊥

-- nor a head of a refusal of a method
pub record IsNoneNamed (bytes : List ℕ) (n : ℕ) : Type 0 where
  pub jobs : IsNoneHeaded bytes 405 n Jobs
  pub job : IsNoneHeaded bytes 405 n Job
  pub get : IsNoneHeaded bytes 405 n Get
  pub file : IsNoneHeaded bytes 405 n File

-- the length that the bytes give of the body of a response of this status: whichever response they begin, they follow a head with this length
abbrev pub IsLengthIn : List ℕ → ℕ → Option ℕ → Type 0
IsLengthIn bytes status None = IsNoneOf bytes status
IsLengthIn bytes status (Some n) = (n ≤ 8389632) × ((allow : Allow) (close : Bool) (body behind : List ℕ) → length body ≤ 8389632
    → bytes ++ behind ≡ response_of (record { status = status; allow = allow; body = body }) false close → Follows bytes (head_of status n allow close))

-- digits at the front of bytes, so many
pub record LeadsDigits (bytes : List ℕ) (count : ℕ) : Type 0 where
  pub within : count ≤ length bytes
  pub digits : all_ascii_digits (take count bytes) ≡ true

-- all digits at the front of bytes, which write this number
pub record LeadsNumber (bytes : List ℕ) (number : ℕ) : Type 0 where
  pub count : ℕ
  pub leads : LeadsDigits bytes count
  pub number_is : number ≡ digits_value 10 (take count bytes)
  pub few : number ≤ 8389632
  pub ends : count < length bytes → is_ascii_digit (get_or bytes count 0) ≡ false

-- digits at the front of bytes write a number past the limit
pub record LeadsTooMany (bytes : List ℕ) : Type 0 where
  pub count : ℕ
  pub leads : LeadsDigits bytes count
  pub many : 8389632 < digits_value 10 (take count bytes)

-- the number that the digits at the front of bytes write, within the limit
abbrev pub IsLeading : List ℕ → Option ℕ → Type 0
IsLeading bytes None = LeadsTooMany bytes
IsLeading bytes (Some number) = LeadsNumber bytes number

-- what a look says of a whole response
abbrev pub SeesWhole : List ℕ → AnswerLook → Type 0
SeesWhole bytes Short = IsInside bytes
SeesWhole bytes Refused = BeginsResponse bytes → ⊥
SeesWhole bytes (Found head) = AnswerStands bytes head × (head.size + head.body ≤ length bytes)

-- the first of two looks that is no refusal
abbrev pub first_found : AnswerLook → AnswerLook → AnswerLook
first_found Refused other = other
first_found Short other = Short
first_found (Found head) other = Found head
