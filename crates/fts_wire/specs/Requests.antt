-- The requests that stand in bytes, one after another, and what comes behind them.
use Rattle.std.specs.Prelude.{◌≡◌, ℕ, ◌+◌, Bool, true, false, nat_le, if◌then◌else◌, List, [], ◌∷◌, length, take, drop}
use Rattle.std.specs.List.{list_all}
use Rattle.httparse.specs.Pieces.{is_newline}
use Rattle.fts_wire.specs.RequestData.{HeadData, RequestData, asked}
use Rattle.fts_wire.specs.Look.{Sight, Short, Refused, Headed, sight_of}
use Rattle.fts_wire.specs.declared.fault.WireFault.{WireFault}

-- what comes first in bytes that are all there is: nothing but CR and LF, a part of a request, what is refused, or a request and the bytes behind it
pub data Next : Type 0 where
  Closed : Next
  EndsInside : Next
  Refuses : WireFault → Next
  Asks : RequestData → List ℕ → Next

-- less than a head, at the end of the input
abbrev pub at_end : List ℕ → Next
at_end bytes = if list_all is_newline bytes then Closed else EndsInside

-- the length of a request, with what stands before its head
abbrev pub request_size : HeadData → ℕ
request_size head = head.before + head.size + head.body

-- the request of a head, and the bytes behind its body
abbrev pub asks : HeadData → List ℕ → Next
asks head bytes = Asks (asked head (take head.body (drop (head.before + head.size) bytes))) (drop (request_size head) bytes)

abbrev pub next_by : Sight → List ℕ → Next
next_by Short bytes = at_end bytes
next_by (Refused fault) bytes = Refuses fault
next_by (Headed head) bytes = if nat_le (request_size head) (length bytes) then asks head bytes else EndsInside

abbrev pub next_of : List ℕ → Next
next_of bytes = next_by (sight_of bytes) bytes

-- more bytes may change what comes first
abbrev pub is_open : Next → Bool
is_open Closed = true
is_open EndsInside = true
is_open (Refuses fault) = false
is_open (Asks request rest) = false

-- no whole request stands in these bytes yet, and none is excluded
abbrev pub IsShort : List ℕ → Type 0
IsShort bytes = is_open (next_of bytes) ≡ true

-- bytes are these requests, one after another, and then this rest
abbrev pub AreRequests : List ℕ → List RequestData → List ℕ → Type 0
AreRequests bytes [] rest = rest ≡ bytes
AreRequests bytes (request ∷ more) rest = (behind : List ℕ) × ((next_of bytes ≡ Asks request behind) × AreRequests behind more rest)
