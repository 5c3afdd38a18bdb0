-- A turn of a connection's loop, whoever answers, and the ways in which the connection ends.
use Rattle.std.proofs.Common.{◌≡◌, inl, inr, ℕ, ◌+◌, ◌<◌, ◌≤◌, Bool, true, false, List, [], ◌∷◌, ◌++◌, length, Option, Some, None, Result, Ok, Err, refl, ap, sym, ◌∙◌, subst, arith, append-nil, length-append}
use Rattle.std.specs.List.{concat}
use Rattle.std.proofs.lemmas.List.{map-append}
use Rattle.fts_tables.specs.declared.limits.TheConstants.{MAX_REQUESTS}
use Rattle.fts_wire.specs.RequestData.{RequestData}
use Rattle.fts_wire.specs.RoomData.{RoomData}
use Rattle.fts_wire.specs.Taken.{pending}
use Rattle.fts_wire.specs.Response.{response_of, Sends}
use Rattle.fts_wire.specs.Faults.{status_of, rule_of, message_of}
use Rattle.fts_wire.specs.declared.fault.WireFault.{WireFault}
use Rattle.fts_wire.specs.declared.fault.WireFault.TheVariants.{EndsInside, SourceFailed}
use Rattle.fts_wire.specs.declared.outside.SinkFailed.{SinkFailed}
use Rattle.fts_wire.specs.declared.response.Reply.{Reply}
use Rattle.fts_routes.specs.Refusals.{refusal_of, IsOrNoMemory}
use Rattle.fts_session.specs.Connections.{Reading, Exchange, requests_of, responses_of, response_to, AreRequestsIn, Loads, AreLoaded, GoOn, TriesOneMore, AreWritten, AreCutShort, IsRefusal, end_by, IsRefused, Ends, AreServed, IsConnection}
use Rattle.fts_session.specs.declared.ends.LineEnd.{LineEnd}
use Rattle.fts_session.specs.declared.ends.LineEnd.TheVariants as line_ends
use Rattle.fts_session.proofs.Keeping.{none_more}
use Rattle.fts_session.proofs.Growth.{served_more, response_more, requests_more, loaded_more, goes_on, goes_to, concat-push}

-- one response more was written
written_more : (held between after : Option (List ℕ)) (responses : List (List ℕ)) (response : List ℕ) → AreWritten held between responses
    → Sends {E = SinkFailed} between after response (Ok tt) → AreWritten held after (responses ++ response ∷ [])
written_more None between after responses response w sent = subst (λ x. Sends {E = SinkFailed} x after response (Ok tt)) w sent
written_more (Some held) between None responses response w sent = absurd (subst (λ x. Sends {E = SinkFailed} x None response (Ok tt)) w sent)
written_more (Some held) between (Some now) responses response w sent =
    let behind : now ≡ (held ++ concat responses) ++ response = subst (λ x. Sends {E = SinkFailed} x (Some now) response (Ok tt)) w sent in
    ap (λ (xs : List ℕ). Some xs) (behind ∙ concat-push held responses response)

-- one response more was cut short
cut_more : (held between after : Option (List ℕ)) (responses : List (List ℕ)) (response : List ℕ) (e : SinkFailed) → AreWritten held between responses
    → Sends between after response (Err e) → AreCutShort held after (responses ++ response ∷ [])
cut_more held between after responses response e w sent =
    record { whole = responses; last = response; all = refl; failed = e; cut = subst (λ x. Sends x after response (Err e)) w sent }

-- the response to a fault of the framing
pub refusal_of_reply : (fault : WireFault) (status rule : ℕ) (message : List ℕ) (reply : Reply) → status_of fault ≡ Some status → rule_of fault ≡ Some rule
    → message_of fault ≡ Some message → IsOrNoMemory reply (refusal_of message rule status) → IsRefusal fault status (response_of reply false true)
refusal_of_reply fault status rule message reply s r m (inl e) = record {
  rule = rule;
  message = message;
  has_status = s;
  has_rule = r;
  has_message = m;
  is = inl (ap (λ (x : Reply). response_of x false true) e);
}
refusal_of_reply fault status rule message reply s r m (inr e) = record {
  rule = rule;
  message = message;
  has_status = s;
  has_rule = r;
  has_message = m;
  is = inr (ap (λ (x : Reply). response_of x false true) e);
}

-- a refusal does not end by a read
not_read : (status : ℕ) (result : Result (Unit {0}) SinkFailed) → end_by status result ≡ line_ends.SourceFailed → ⊥
not_read status (Ok sent) e = cc
not_read status (Err failed) e = cc

pub refused_not_read : (before after : Option (List ℕ)) (fault : WireFault) (end : LineEnd) → IsRefused before after fault end → end ≡ line_ends.SourceFailed → ⊥
refused_not_read before after fault end r e = not_read r.status r.result (sym r.ended ∙ e)

requests_none : (bytes : Option (List ℕ)) → AreRequestsIn bytes [] bytes
requests_none None = refl
requests_none (Some bytes) = refl

written_none : (held : Option (List ℕ)) → AreWritten held held []
written_none None = refl
written_none (Some held) = ap (λ (x : List ℕ). Some x) (sym (append-nil held))

module _ {S : Type 0} (Answers : S → RequestData → Reply → S → Type 0) (Follows : S → S → Type 0)
    (kept : List ℕ) (start : S) (input : Reading) (held : Option (List ℕ)) where
  -- so many requests were answered, and their responses written
  pub record InProgress (n : ℕ) (behind : List ℕ) (now : Reading) (output : Option (List ℕ)) (here : S) : Type 0 where
    pub exchanges : List Exchange
    pub count : length exchanges ≡ n
    pub go_on : GoOn exchanges
    pub served : AreServed Answers Follows start exchanges here
    pub loaded : AreLoaded kept input (requests_of exchanges) behind now
    pub requests : AreRequestsIn (pending kept input.left) (requests_of exchanges) (pending behind now.left)
    pub written : AreWritten held output (responses_of exchanges)

  -- an end behind exchanges whose responses were written
  connects : (end : LineEnd) (left : Reading) (output : Option (List ℕ)) (here : S) (exchanges : List Exchange) (behind : List ℕ) (between : Reading)
      → length exchanges ≤ MAX_REQUESTS → AreLoaded kept input (requests_of exchanges) behind between
      → AreRequestsIn (pending kept input.left) (requests_of exchanges) (pending behind between.left) → AreServed Answers Follows start exchanges here
      → Ends exchanges false behind between left held output end
      → IsConnection Answers Follows kept start here input left held output end
  connects end left output here exchanges behind between few loaded requests served ends = record {
    served = exchanges;
    last = [];
    few = omega (arith, ap (λ (l : List Exchange). length l) (none_more exchanges), few);
    behind = behind;
    between = between;
    loaded = subst (λ (l : List Exchange). AreLoaded kept input (requests_of l) behind between) (sym (none_more exchanges)) loaded;
    requests = subst (λ (l : List Exchange). AreRequestsIn (pending kept input.left) (requests_of l) (pending behind between.left)) (sym (none_more exchanges)) requests;
    middle = here;
    answered = served;
    unwritten = refl;
    ends = subst (λ (l : List Exchange). Ends l false behind between left held output end) (sym (none_more exchanges)) ends;
  }

  -- nothing was answered yet
  pub begun : (here : S) → here ≡ start → InProgress 0 kept input held here
  begun here same = record {
    exchanges = [];
    count = refl;
    go_on = tt;
    served = same;
    loaded = (refl, refl);
    requests = requests_none (pending kept input.left);
    written = written_none held;
  }

  module _ (n : ℕ) (behind : List ℕ) (now : Reading) (output : Option (List ℕ)) (here : S) (so_far : InProgress n behind now output here) where
    -- the requests with one more
    asked : (room : RoomData) (reply : Reply) → requests_of so_far.exchanges ++ room.request ∷ [] ≡ requests_of (so_far.exchanges ++ record { request = room.request; reply = reply } ∷ [])
    asked room reply = sym (map-append (λ (e : Exchange). e.request) so_far.exchanges (record { request = room.request; reply = reply } ∷ []))

    -- they were loaded
    loaded_with : (input2 : Reading) (room : RoomData) (reply : Reply) → Loads behind now input2 room (Ok true)
        → AreLoaded kept input (requests_of (so_far.exchanges ++ record { request = room.request; reply = reply } ∷ [])) room.kept input2
    loaded_with input2 room reply load = subst (λ (rs : List RequestData). AreLoaded kept input rs room.kept input2) (asked room reply)
        (loaded_more kept input (requests_of so_far.exchanges) behind now input2 room so_far.loaded load)

    -- they stand in the bytes
    requests_with : (input2 : Reading) (room : RoomData) (reply : Reply) → Loads behind now input2 room (Ok true)
        → AreRequestsIn (pending kept input.left) (requests_of (so_far.exchanges ++ record { request = room.request; reply = reply } ∷ [])) (pending room.kept input2.left)
    requests_with input2 room reply load = subst (λ (rs : List RequestData). AreRequestsIn (pending kept input.left) rs (pending room.kept input2.left)) (asked room reply)
        (requests_more (pending kept input.left) (pending behind now.left) (pending room.kept input2.left) (requests_of so_far.exchanges) room so_far.requests load.next)

    -- the responses with one more
    responses_with : (room : RoomData) (reply : Reply)
        → responses_of so_far.exchanges ++ response_to n (record { request = room.request; reply = reply }) ∷ []
        ≡ responses_of (so_far.exchanges ++ record { request = room.request; reply = reply } ∷ [])
    responses_with room reply =
        let count_is : n ≡ 0 + length so_far.exchanges = omega (arith, so_far.count) in
        ap (λ (k : ℕ). responses_of so_far.exchanges ++ response_to k (record { request = room.request; reply = reply }) ∷ []) count_is
        ∙ sym (response_more 0 so_far.exchanges (record { request = room.request; reply = reply }))

    -- they were written
    written_with : (output2 : Option (List ℕ)) (room : RoomData) (reply : Reply)
        → Sends {E = SinkFailed} output output2 (response_to n (record { request = room.request; reply = reply })) (Ok tt)
        → AreWritten held output2 (responses_of (so_far.exchanges ++ record { request = room.request; reply = reply } ∷ []))
    written_with output2 room reply sent = subst (AreWritten held output2) (responses_with room reply)
        (written_more held output output2 (responses_of so_far.exchanges) (response_to n (record { request = room.request; reply = reply })) so_far.written sent)

    -- a request more, that was answered, whose response was written, and what follows was done; the connection goes on
    pub turn : (input2 : Reading) (output2 : Option (List ℕ)) (room : RoomData) (reply : Reply) (answered next : S)
        → Loads behind now input2 room (Ok true) → Answers here room.request reply answered → Follows answered next
        → Sends {E = SinkFailed} output output2 (response_to n (record { request = room.request; reply = reply })) (Ok tt)
        → room.request.close ≡ false
        → InProgress (n + 1) room.kept input2 output2 next
    turn input2 output2 room reply answered next load answers follows sent goes = record {
      exchanges = so_far.exchanges ++ record { request = room.request; reply = reply } ∷ [];
      count = length-append so_far.exchanges (record { request = room.request; reply = reply } ∷ []) ∙ ap (λ (x : ℕ). x + 1) so_far.count;
      go_on = goes_on so_far.exchanges (record { request = room.request; reply = reply }) so_far.go_on goes;
      served = served_more Answers Follows start here answered next so_far.exchanges (record { request = room.request; reply = reply }) so_far.served answers follows;
      loaded = loaded_with input2 room reply load;
      requests = requests_with input2 room reply load;
      written = written_with output2 room reply sent;
    }

    -- a request more that says close, that was answered, whose response was written, and what follows was done
    pub closed_by : (input2 : Reading) (output2 : Option (List ℕ)) (room : RoomData) (reply : Reply) (answered next : S) → n < MAX_REQUESTS
        → Loads behind now input2 room (Ok true) → Answers here room.request reply answered → Follows answered next
        → Sends {E = SinkFailed} output output2 (response_to n (record { request = room.request; reply = reply })) (Ok tt)
        → room.request.close ≡ true
        → IsConnection Answers Follows kept start next input input2 held output2 line_ends.Closed
    closed_by input2 output2 room reply answered next few load answers follows sent closes =
        connects line_ends.Closed input2 output2 next (so_far.exchanges ++ record { request = room.request; reply = reply } ∷ []) room.kept input2
        (omega (arith, length-append so_far.exchanges (record { request = room.request; reply = reply } ∷ []), so_far.count, few))
        (loaded_with input2 room reply load) (requests_with input2 room reply load)
        (served_more Answers Follows start here answered next so_far.exchanges (record { request = room.request; reply = reply }) so_far.served answers follows) (
          inl (record {
            by_close = record { others = so_far.exchanges; last = record { request = room.request; reply = reply }; all = refl; go_on = so_far.go_on; closes = closes };
            unread = refl;
          }),
          written_with output2 room reply sent,
        )

    -- a request more, whose response was cut short
    pub cut : (input2 : Reading) (output2 : Option (List ℕ)) (room : RoomData) (reply : Reply) (answered : S) (e : SinkFailed) → n < MAX_REQUESTS
        → Loads behind now input2 room (Ok true) → Answers here room.request reply answered
        → Sends output output2 (response_to n (record { request = room.request; reply = reply })) (Err e)
        → IsConnection Answers Follows kept start answered input input2 held output2 line_ends.SinkFailed
    cut input2 output2 room reply answered e few load answers sent = record {
      served = so_far.exchanges;
      last = record { request = room.request; reply = reply } ∷ [];
      few = omega (arith, length-append so_far.exchanges (record { request = room.request; reply = reply } ∷ []), so_far.count, few);
      behind = room.kept;
      between = input2;
      loaded = loaded_with input2 room reply load;
      requests = requests_with input2 room reply load;
      middle = here;
      answered = so_far.served;
      unwritten = answers;
      ends = (
        goes_to so_far.exchanges (record { request = room.request; reply = reply }) so_far.go_on,
        (
          refl,
          subst (AreCutShort held output2) (responses_with room reply)
              (cut_more held output output2 (responses_of so_far.exchanges) (response_to n (record { request = room.request; reply = reply })) e so_far.written sent),
        ),
      );
    }

    -- an end behind the requests that were answered
    ends_so : (end : LineEnd) (input2 : Reading) (output2 : Option (List ℕ)) → n ≤ MAX_REQUESTS
        → Ends so_far.exchanges false behind now input2 held output2 end
        → IsConnection Answers Follows kept start here input input2 held output2 end
    ends_so end input2 output2 few ends = connects end input2 output2 here so_far.exchanges behind now (omega (arith, so_far.count, few))
        so_far.loaded so_far.requests so_far.served ends

    -- one load more was tried
    tries : (input2 : Reading) (room : RoomData) (result : Result Bool WireFault) → n < MAX_REQUESTS → Loads behind now input2 room result
        → TriesOneMore so_far.exchanges behind now input2 result
    tries input2 room result few load = record { go_on = so_far.go_on; few = omega (arith, so_far.count, few); loads = (room, load) }

    -- the input ended between requests
    pub closed : (input2 : Reading) (room : RoomData) → n < MAX_REQUESTS → Loads behind now input2 room (Ok false)
        → IsConnection Answers Follows kept start here input input2 held output line_ends.Closed
    closed input2 room few load = ends_so line_ends.Closed input2 output (omega (arith, few)) (inr (tries input2 room (Ok false) few load), so_far.written)

    -- the input ended inside a request
    pub ended_inside : (input2 : Reading) (room : RoomData) → n < MAX_REQUESTS → Loads behind now input2 room (Err EndsInside)
        → IsConnection Answers Follows kept start here input input2 held output line_ends.EndsInside
    ended_inside input2 room few load = ends_so line_ends.EndsInside input2 output (omega (arith, few)) (tries input2 room (Err EndsInside) few load, so_far.written)

    -- a read failed
    pub read_failed : (input2 : Reading) (room : RoomData) → n < MAX_REQUESTS → Loads behind now input2 room (Err SourceFailed)
        → IsConnection Answers Follows kept start here input input2 held output line_ends.SourceFailed
    read_failed input2 room few load = ends_so line_ends.SourceFailed input2 output (omega (arith, few)) (tries input2 room (Err SourceFailed) few load, so_far.written)

    -- as many requests were answered as there may be
    pub many : n ≡ MAX_REQUESTS → IsConnection Answers Follows kept start here input now held output line_ends.Many
    many all = ends_so line_ends.Many now output (omega (arith, all)) (so_far.go_on, (so_far.count ∙ all, (refl, so_far.written)))

    -- what came was refused, and that is the end that the writing of it makes
    refused_by : (input2 : Reading) (output2 : Option (List ℕ)) (room : RoomData) (fault : WireFault) (status : ℕ) (response : List ℕ)
        (result : Result (Unit {0}) SinkFailed) → n < MAX_REQUESTS
        → Loads behind now input2 room (Err fault) → IsRefusal fault status response → Sends output output2 response result
        → IsConnection Answers Follows kept start here input input2 held output2 (end_by status result)
    refused_by input2 output2 room fault status response (Ok sent) few load refusal sends =
        ends_so (line_ends.Refused status) input2 output2 (omega (arith, few)) (
          fault,
          record {
            tries = tries input2 room (Err fault) few load;
            written = (response, (refusal, written_more held output output2 (responses_of so_far.exchanges) response so_far.written sends));
          },
        )
    refused_by input2 output2 room fault status response (Err e) few load refusal sends = ends_so line_ends.SinkFailed input2 output2 (omega (arith, few)) (
      fault,
      (
        status,
        record {
          tries = tries input2 room (Err fault) few load;
          written = (response, (refusal, cut_more held output output2 (responses_of so_far.exchanges) response e so_far.written sends));
        },
      ),
    )

    -- what came was refused
    pub refused : (input2 : Reading) (output2 : Option (List ℕ)) (room : RoomData) (fault : WireFault) (end : LineEnd) → n < MAX_REQUESTS
        → Loads behind now input2 room (Err fault) → IsRefused output output2 fault end
        → IsConnection Answers Follows kept start here input input2 held output2 end
    refused input2 output2 room fault end few load r =
        subst (λ x. IsConnection Answers Follows kept start here input input2 held output2 x) (sym r.ended)
        (refused_by input2 output2 room fault r.status r.response r.result few load r.refusal r.sent)
