-- How a connection grows by one request at a time: what its loop needs.
use Rattle.std.proofs.Common.{◌≡◌, ℕ, suc, ◌+◌, List, [], ◌∷◌, ◌++◌, length, Option, Some, None, Ok, refl, ap, sym, ◌∙◌, subst, arith, append_assoc, append-nil}
use Rattle.std.specs.List.{concat}
use Rattle.std.proofs.lemmas.List.Folds.{concat-append}
use Rattle.std.specs.Prelude.{true, false}
use Rattle.fts_wire.specs.RequestData.{RequestData}
use Rattle.fts_wire.specs.Requests.{next_of, AreRequests, Asks}
use Rattle.fts_wire.specs.RoomData.{RoomData}
use Rattle.fts_wire.specs.Taken.{IsNext}
use Rattle.fts_wire.specs.declared.response.Reply.{Reply}
use Rattle.fts_session.specs.Connections.{Reading, Exchange, response_to, responses_from, GoOn, GoOnToLast, AreRequestsIn, Loads, AreLoaded, AreServed}

-- one exchange more was served
pub served_more : {S : Type 0} (Answers : S → RequestData → Reply → S → Type 0) (Follows : S → S → Type 0) (start middle answered after : S) (exchanges : List Exchange) (exchange : Exchange)
    → AreServed Answers Follows start exchanges middle → Answers middle exchange.request exchange.reply answered → Follows answered after
    → AreServed Answers Follows start (exchanges ++ exchange ∷ []) after
served_more Answers Follows start middle answered after [] exchange served now next =
    (answered, (after, (subst (λ s. Answers s exchange.request exchange.reply answered) served now, (next, refl))))
served_more Answers Follows start middle answered after (first ∷ exchanges) exchange served now next =
    (served.0, (served.1.0, (served.1.1.0, (served.1.1.1.0, served_more Answers Follows served.1.0 middle answered after exchanges exchange served.1.1.1.1 now next))))

-- its response is the last
pub response_more : (before : ℕ) (exchanges : List Exchange) (exchange : Exchange)
    → responses_from before (exchanges ++ exchange ∷ []) ≡ responses_from before exchanges ++ response_to (before + length exchanges) exchange ∷ []
response_more before [] exchange = ap (λ (n : ℕ). response_to n exchange ∷ []) (omega arith)
response_more before (first ∷ exchanges) exchange =
    ap (λ rest. response_to before first ∷ rest) (response_more (suc before) exchanges exchange
    ∙ ap (λ (n : ℕ). responses_from (suc before) exchanges ++ response_to n exchange ∷ []) (omega arith))

-- the connection goes on behind one request more
pub goes_on : (exchanges : List Exchange) (exchange : Exchange) → GoOn exchanges → exchange.request.close ≡ false → GoOn (exchanges ++ exchange ∷ [])
goes_on [] exchange go_on closes = (closes, tt)
goes_on (first ∷ exchanges) exchange go_on closes = (go_on.0, goes_on exchanges exchange go_on.1 closes)

-- and up to it, whatever it says
pub goes_to : (exchanges : List Exchange) (exchange : Exchange) → GoOn exchanges → GoOnToLast (exchanges ++ exchange ∷ [])
goes_to [] exchange go_on = tt
goes_to (first ∷ []) exchange go_on = (go_on.0, tt)
goes_to (first ∷ second ∷ exchanges) exchange go_on = (go_on.0, goes_to (second ∷ exchanges) exchange go_on.1)

-- one request more at the end of those that stand in bytes
request_more : (bytes : List ℕ) (requests : List RequestData) (rest : List ℕ) (request : RequestData) (behind : List ℕ)
    → AreRequests bytes requests rest → next_of rest ≡ Asks request behind → AreRequests bytes (requests ++ request ∷ []) behind
request_more bytes [] rest request behind r e = (behind, (subst (λ (b : List ℕ). next_of b ≡ Asks request behind) r e, refl))
request_more bytes (first ∷ requests) rest request behind r e = (r.0, (r.1.0, request_more r.0 requests rest request behind r.1.1 e))

-- the same of bytes that may be told
pub requests_more : (bytes between after : Option (List ℕ)) (requests : List RequestData) (room : RoomData)
    → AreRequestsIn bytes requests between → IsNext between after room (Ok true) → AreRequestsIn bytes (requests ++ room.request ∷ []) after
requests_more None between after requests room r next = subst (λ x. IsNext x after room (Ok true)) r next
requests_more (Some bytes) None after requests room r next = absurd r
requests_more (Some bytes) (Some rest) None requests room r next = absurd next
requests_more (Some bytes) (Some rest) (Some behind) requests room r next = request_more bytes requests rest room.request behind r next

-- one load more at the end of those that found a request
pub loaded_more : (kept : List ℕ) (before : Reading) (requests : List RequestData) (behind : List ℕ) (between after : Reading) (room : RoomData)
    → AreLoaded kept before requests behind between → Loads behind between after room (Ok true)
    → AreLoaded kept before (requests ++ room.request ∷ []) room.kept after
loaded_more kept before [] behind between after room loaded load = (
  after,
  (
    room,
    (
      subst (λ (b : Reading). Loads kept b after room (Ok true)) loaded.1 (subst (λ (k : List ℕ). Loads k between after room (Ok true)) loaded.0 load),
      (refl, (refl, refl)),
    ),
  ),
)
loaded_more kept before (request ∷ requests) behind between after room loaded load =
    (loaded.0, (loaded.1.0, (loaded.1.1.0, (loaded.1.1.1.0, loaded_more loaded.1.0.kept loaded.0 requests behind between after room loaded.1.1.1.1 load))))

-- one response more behind those that were written
pub concat-push : (held : List ℕ) (responses : List (List ℕ)) (response : List ℕ) → (held ++ concat responses) ++ response ≡ held ++ concat (responses ++ response ∷ [])
concat-push held responses response =
    append_assoc held (concat responses) response
    ∙ ap (λ (xs : List ℕ). held ++ (concat responses ++ xs)) (sym (append-nil response))
    ∙ ap (λ (xs : List ℕ). held ++ xs) (sym (concat-append responses (response ∷ [])))
