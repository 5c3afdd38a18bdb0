-- All requests of an input, one after another, and how it ends behind them (HTTP/1.1, RFC 9112, sections 2, 6 and 9.6).
-- What comes first in bytes is told by fts_wire; here one follows the other, up to an end or to as many requests as are read of an input.
use Rattle.std.specs.Prelude.{◌≡◌, ℕ, zero, suc, if◌then◌else◌, List, [], ◌∷◌, ◌++◌}
use Rattle.fts_wire.specs.RequestData.{RequestData}
use Rattle.fts_wire.specs.Requests.{Next, Closed as NextClosed, EndsInside as NextInside, Refuses, Asks, next_of}
use Rattle.fts_wire.specs.declared.fault.WireFault.{WireFault}

-- how an input ends: with nothing but CR and LF left, inside a request, by bytes that are refused, by a request that says close, or by
-- as many requests as are read of an input
pub data InputEnd : Type 0 where
  Closed : InputEnd
  EndsInside : InputEnd
  Refused : WireFault → InputEnd
  SaysClose : InputEnd
  Many : InputEnd

-- an input: its requests in order, and its end behind them
pub record Input : Type 0 where
  pub requests : List RequestData
  pub end : InputEnd

-- an input without a request
abbrev pub no_request : InputEnd → Input
no_request end = record { requests = []; end = end }

-- a request, and an input behind it
abbrev pub request_then : RequestData → Input → Input
request_then request behind = record { requests = request ∷ behind.requests; end = behind.end }

-- an input by what comes first in it, and by how what is behind a request is read; behind one that says close nothing is
abbrev pub input_by : (List ℕ → Input) → Next → Input
input_by read NextClosed = no_request Closed
input_by read NextInside = no_request EndsInside
input_by read (Refuses fault) = no_request (Refused fault)
input_by read (Asks request rest) = request_then request (if request.close then no_request SaysClose else read rest)

-- the input that bytes are, of which at most so many requests are read
abbrev pub input_of : ℕ → List ℕ → Input
input_of zero bytes = no_request Many
input_of (suc most) bytes = input_by (input_of most) (next_of bytes)

-- these requests are the first of those
abbrev pub Begins : List RequestData → List RequestData → Type 0
Begins few all = (more : List RequestData) × (all ≡ few ++ more)

-- no more bytes can change an end: a fault of the framing, a request that says close, or as many requests as are read
abbrev pub IsSettled : InputEnd → Type 0
IsSettled Closed = ⊥
IsSettled EndsInside = ⊥
IsSettled (Refused fault) = Unit {0}
IsSettled SaysClose = Unit {0}
IsSettled Many = Unit {0}
