-- An input is read as its requests and its end stand in the bytes, and in no other way.
use Rattle.std.proofs.Common.{◌≡◌, ℕ, zero, suc, Bool, true, false, cond, List, [], ◌∷◌, length, None, refl, ap, ◌∙◌, sym, arith, subst}
use Rattle.std.specs.Prelude.{nat_le}
use Rattle.std.proofs.lemmas.Bool.{cond_both, true≢false}
use Rattle.fts_wire.specs.RequestData.{RequestData}
use Rattle.fts_wire.specs.Look.{Sight, Short, Refused as SightRefused, Headed, sight_of}
use Rattle.fts_wire.specs.Requests.{Next, Closed as NextClosed, EndsInside as NextInside, Refuses, Asks, is_open, next_by, next_of, asks, request_size, AreRequests}
use Rattle.fts_wire.specs.declared.fault.WireFault.{WireFault}
use Rattle.fts_wire.proofs.Bounds.{IsAnswered, refused_answered}
use Rattle.fts_wire.proofs.Next.{known_short}
use Rattle.fts_laws.specs.Inputs.{Input, InputEnd, Closed, EndsInside, Refused, SaysClose, Many, no_request, request_then, input_by, input_of}
use Rattle.fts_laws.specs.Ends.{LastCloses, EndsBehind, Stands}

-- a request before others of which the last says close
last_further : (request : RequestData) (requests : List RequestData) → request.close ≡ false → LastCloses requests → LastCloses (request ∷ requests)
last_further request [] goes closes = absurd closes
last_further request (next ∷ requests) goes closes = (goes, closes)

-- an end behind one request more
ends_further : (most : ℕ) (request : RequestData) (requests : List RequestData) (rest : List ℕ) (end : InputEnd) → request.close ≡ false
    → EndsBehind most requests rest end → EndsBehind (suc most) (request ∷ requests) rest end
ends_further most request requests rest SaysClose goes ends = (last_further request requests goes ends.0, omega (arith, ends.1))
ends_further most request requests rest Many goes ends = ((goes, ends.0), omega (arith, ends.1))
ends_further most request requests rest _ goes ends = (((goes, ends.0.0), omega (arith, ends.0.1)), ends.1)

-- a request, and what is behind it by whether it says close
stands_behind : (most : ℕ) (bytes rest : List ℕ) (request : RequestData) (read : Input) (close : Bool) → request.close ≡ close
    → next_of bytes ≡ Asks request rest → Stands most rest read → Stands (suc most) bytes (request_then request (cond close (no_request SaysClose) read))
stands_behind most bytes rest request read true says first stands =
    record { rest = rest; requests = (rest, (first, refl)); ends = (says, omega arith) }
stands_behind most bytes rest request read false says first stands = record {
  rest = stands.rest;
  requests = (rest, (first, stands.requests));
  ends = ends_further most request read.requests stands.rest read.end says stands.ends;
}

-- what comes first, and what is behind it
stands_by : (most : ℕ) (bytes : List ℕ) (next : Next) → next_of bytes ≡ next → ((rest : List ℕ) → Stands most rest (input_of most rest))
    → Stands (suc most) bytes (input_by (input_of most) next)
stands_by most bytes (Asks request rest) first each = stands_behind most bytes rest request (input_of most rest) request.close refl first (each rest)
stands_by most bytes _ first each = record { rest = bytes; requests = refl; ends = ((tt, omega arith), first) }

-- every input stands in its bytes
pub input_stands : (most : ℕ) (bytes : List ℕ) → Stands most bytes (input_of most bytes)
input_stands zero bytes = record { rest = bytes; requests = refl; ends = (tt, refl) }
input_stands (suc most) bytes = stands_by most bytes (next_of bytes) refl (λ rest. input_stands most rest)

-- no request, where at least one is read
alone_none : (most : ℕ) (rest : List ℕ) (end : InputEnd) → EndsBehind (suc most) [] rest end → input_of (suc most) rest ≡ no_request end
alone_none most rest Closed ends = ap (input_by (input_of most)) ends.1
alone_none most rest EndsInside ends = ap (input_by (input_of most)) ends.1
alone_none most rest (Refused fault) ends = ap (input_by (input_of most)) ends.1
alone_none most rest SaysClose ends = absurd ends.0
alone_none most rest Many ends = absurd (omega (arith, ends.1))

-- no request, where none is read
alone_zero : (rest : List ℕ) (end : InputEnd) → EndsBehind 0 [] rest end → no_request Many ≡ no_request end
alone_zero rest Closed ends = absurd (omega (arith, ends.0.1))
alone_zero rest EndsInside ends = absurd (omega (arith, ends.0.1))
alone_zero rest (Refused fault) ends = absurd (omega (arith, ends.0.1))
alone_zero rest SaysClose ends = absurd ends.0
alone_zero rest Many ends = refl

-- more requests than are read
alone_over : (request : RequestData) (requests : List RequestData) (rest : List ℕ) (end : InputEnd) → EndsBehind 0 (request ∷ requests) rest end → ⊥
alone_over request requests rest Closed ends = omega (arith, ends.0.1)
alone_over request requests rest EndsInside ends = omega (arith, ends.0.1)
alone_over request requests rest (Refused fault) ends = omega (arith, ends.0.1)
alone_over request requests rest SaysClose ends = omega (arith, ends.1)
alone_over request requests rest Many ends = omega (arith, ends.1)

-- a request behind which it goes on, and what the end behind the others is
further : (most : ℕ) (request : RequestData) (requests : List RequestData) (read : Input) (end : InputEnd) → request.close ≡ false
    → read ≡ record { requests = requests; end = end }
    → request_then request (cond request.close (no_request SaysClose) read) ≡ record { requests = request ∷ requests; end = end }
further most request requests read end goes is =
    ap (λ close. request_then request (cond close (no_request SaysClose) read)) goes ∙ ap (request_then request) is

-- a request, and the others behind it
alone_behind : (most : ℕ) (request : RequestData) (requests : List RequestData) (rest : List ℕ) (read : Input) (end : InputEnd)
    → (EndsBehind most requests rest end → read ≡ record { requests = requests; end = end }) → EndsBehind (suc most) (request ∷ requests) rest end
    → request_then request (cond request.close (no_request SaysClose) read) ≡ record { requests = request ∷ requests; end = end }
alone_behind most request requests rest read Closed each ends =
    further most request requests read Closed ends.0.0.0 (each ((ends.0.0.1, omega (arith, ends.0.1)), ends.1))
alone_behind most request requests rest read EndsInside each ends =
    further most request requests read EndsInside ends.0.0.0 (each ((ends.0.0.1, omega (arith, ends.0.1)), ends.1))
alone_behind most request requests rest read (Refused fault) each ends =
    further most request requests read (Refused fault) ends.0.0.0 (each ((ends.0.0.1, omega (arith, ends.0.1)), ends.1))
alone_behind most request [] rest read SaysClose each ends =
    ap (λ close. request_then request (cond close (no_request SaysClose) read)) ends.0
alone_behind most request (next ∷ requests) rest read SaysClose each ends =
    further most request (next ∷ requests) read SaysClose ends.0.0 (each (ends.0.1, omega (arith, ends.1)))
alone_behind most request requests rest read Many each ends =
    further most request requests read Many ends.0.0 (each (ends.0.1, omega (arith, ends.1)))

-- what stands so in the bytes is the input
alone_by : (most : ℕ) (bytes : List ℕ) (requests : List RequestData) (rest : List ℕ) (end : InputEnd) → AreRequests bytes requests rest
    → EndsBehind most requests rest end → input_of most bytes ≡ record { requests = requests; end = end }
alone_by zero bytes [] rest end are ends = alone_zero rest end ends
alone_by zero bytes (request ∷ requests) rest end are ends = absurd (alone_over request requests rest end ends)
alone_by (suc most) bytes [] rest end are ends = ap (input_of (suc most)) (sym are) ∙ alone_none most rest end ends
alone_by (suc most) bytes (request ∷ requests) rest end are ends =
    ap (input_by (input_of most)) are.1.0
    ∙ alone_behind most request requests rest (input_of most are.0) end (alone_by most are.0 requests rest end are.1.1) ends

pub stands_alone : (most : ℕ) (bytes : List ℕ) (input : Input) → Stands most bytes input → input_of most bytes ≡ input
stands_alone most bytes input stands = alone_by most bytes input.requests stands.rest input.end stands.requests stands.ends

-- what is refused has a response
abbrev IsAnsweredNext : Next → Type 0
IsAnsweredNext NextClosed = Unit {0}
IsAnsweredNext NextInside = Unit {0}
IsAnsweredNext (Refuses fault) = IsAnswered fault
IsAnsweredNext (Asks request rest) = Unit {0}

pub refuses_answered : (bytes : List ℕ) (fault : WireFault) → next_of bytes ≡ Refuses fault → IsAnswered fault
refuses_answered bytes fault first = by (sight_of bytes) refl
  where
    by : (sight : Sight) → sight_of bytes ≡ sight → IsAnswered fault
    by Short is = absurd (true≢false (sym (known_short bytes None is) ∙ ap is_open first))
    by (SightRefused other) is = subst IsAnsweredNext (sym (ap (λ s. next_by s bytes) is) ∙ first) (refused_answered bytes other is)
    by (Headed head) is = subst IsAnsweredNext (sym (ap (λ s. next_by s bytes) is) ∙ first)
        (cond_both (nat_le (request_size head) (length bytes)) (asks head bytes) NextInside IsAnsweredNext (λ _. tt) (λ _. tt))

-- so has an end
pub end_answered : (most : ℕ) (bytes : List ℕ) (fault : WireFault) → (input_of most bytes).end ≡ Refused fault → IsAnswered fault
end_answered most bytes fault is =
    let stands = input_stands most bytes in
    refuses_answered stands.rest fault (subst (EndsBehind most (input_of most bytes).requests stands.rest) is stands.ends).1
