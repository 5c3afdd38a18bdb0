-- An input and the same with more behind it, a request at a time.
use Rattle.std.proofs.Common.{◌≡◌, ℕ, zero, suc, Bool, true, false, cond, List, [], ◌∷◌, ◌++◌, refl, ap, sym, subst, append-nil}
use Rattle.fts_wire.specs.RequestData.{RequestData}
use Rattle.fts_wire.specs.Requests.{Next, Closed as NextClosed, EndsInside as NextInside, Refuses, Asks, next_of}
use Rattle.fts_wire.proofs.Stable.{StaysNext, next_more}
use Rattle.fts_laws.specs.Inputs.{Input, InputEnd, Closed, EndsInside, Refused, SaysClose, Many, no_request, request_then, input_by, input_of, Begins, IsSettled}

-- what an input keeps with more behind it
pub record Keeps (old new : Input) : Type 0 where
  pub begins : Begins old.requests new.requests
  pub settled : IsSettled old.end → new ≡ old

keeps_same : (input : Input) → Keeps input input
keeps_same input = record { begins = ([], sym (append-nil input.requests)); settled = λ _. refl }

-- an input without a request, and an end that may change
keeps_none : (end : InputEnd) (new : Input) → (IsSettled end → ⊥) → Keeps (no_request end) new
keeps_none end new unsettled = record { begins = (new.requests, refl); settled = λ settled. absurd (unsettled settled) }

-- the same request before both
keeps_request : (request : RequestData) (old new : Input) → Keeps old new → Keeps (request_then request old) (request_then request new)
keeps_request request old new keeps = record {
  begins = (keeps.begins.0, ap (λ requests. request ∷ requests) keeps.begins.1);
  settled = λ settled. ap (request_then request) (keeps.settled settled);
}

-- what is behind a request, where it is read on
keeps_behind : (close : Bool) (old new : Input) → Keeps old new → Keeps (cond close (no_request SaysClose) old) (cond close (no_request SaysClose) new)
keeps_behind true old new keeps = keeps_same (no_request SaysClose)
keeps_behind false old new keeps = keeps

-- what comes first, and what is behind it
keeps_by : (read : List ℕ → Input) (more : List ℕ) → ((bytes : List ℕ) → Keeps (read bytes) (read (bytes ++ more)))
    → (old new : Next) → StaysNext old more new → Keeps (input_by read old) (input_by read new)
keeps_by read more each NextClosed new stays = keeps_none Closed (input_by read new) (λ settled. settled)
keeps_by read more each NextInside new stays = keeps_none EndsInside (input_by read new) (λ settled. settled)
keeps_by read more each (Refuses fault) new stays =
    subst (λ next. Keeps (no_request (Refused fault)) (input_by read next)) (sym stays) (keeps_same (no_request (Refused fault)))
keeps_by read more each (Asks request rest) new stays =
    subst (λ next. Keeps (input_by read (Asks request rest)) (input_by read next)) (sym stays)
    (keeps_request request (cond request.close (no_request SaysClose) (read rest)) (cond request.close (no_request SaysClose) (read (rest ++ more)))
    (keeps_behind request.close (read rest) (read (rest ++ more)) (each rest)))

-- every input
pub keeps_input : (most : ℕ) (bytes more : List ℕ) → Keeps (input_of most bytes) (input_of most (bytes ++ more))
keeps_input zero bytes more = keeps_same (no_request Many)
keeps_input (suc most) bytes more =
    keeps_by (input_of most) more (λ rest. keeps_input most rest more) (next_of bytes) (next_of (bytes ++ more)) (next_more bytes more)
