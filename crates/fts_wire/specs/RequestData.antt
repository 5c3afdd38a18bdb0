-- What contracts see of a head and of a request.
use Rattle.std.specs.Prelude.{ℕ, Bool, ◌==◌, nat_lt, if◌then◌else◌, List, length, Option, Some, None}
use Rattle.std.specs.List.{position_or_len, before_first, after_first}

-- a head: how many bytes of CR and LF stand before it, its length, that of its body, method and target, and whether the connection ends behind it
pub record HeadData : Type 0 where
  pub before : ℕ
  pub size : ℕ
  pub body : ℕ
  pub method : List ℕ
  pub target : List ℕ
  pub close : Bool

-- a request: its method, its target split at the first question mark, its body, and whether the connection ends behind it
pub record RequestData : Type 0 where
  pub method : List ℕ
  pub path : List ℕ
  pub query : Option (List ℕ)
  pub body : List ℕ
  pub close : Bool

abbrev pub is_question : ℕ → Bool
is_question b = b == 63

-- the path of a target, and its query, where it has a question mark
abbrev pub path_of : List ℕ → List ℕ
path_of target = before_first is_question target

abbrev pub query_of : List ℕ → Option (List ℕ)
query_of target = if nat_lt (position_or_len is_question target) (length target) then Some (after_first is_question target) else None

-- the request of a head with this body
abbrev pub asked : HeadData → List ℕ → RequestData
asked head body = record { method = head.method; path = path_of head.target; query = query_of head.target; body = body; close = head.close }
