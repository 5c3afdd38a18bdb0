-- Sessions by rows that compute: no byte comes, and one request for a path that there is not.
use Rattle.std.proofs.Common.{◌≡◌, refl, inl, inr, sym, subst, ℕ, Bool, true, false, List, [], ◌∷◌, Some, None, arith}
use Rattle.std.specs.Prelude.{codes}
use Rattle.std.specs.Str.{is_utf8, chars}
use Rattle.std.specs.Fmt.{digits}
use Rattle.httparse.proofs.OnLiterals.{httparse_on_literals}
use Rattle.json.specs.Print.{escape_byte}
use Rattle.fts_wire.specs.RequestData.{RequestData}
use Rattle.fts_wire.specs.Requests.{next_of, Asks}
use Rattle.fts_record.specs.Spelling.{spelled, command_bytes, number_bytes, text_bytes, settings_bytes, endpoint_bytes, link_bytes, weight_bytes}
use Rattle.fts_keep.specs.Keeps.{bodies_of}
use Rattle.fts_workers.specs.declared.ends.RoundEnd.{RoundEnd}
use Rattle.fts_workers.specs.declared.ends.RoundEnd.TheVariants.{Clear, Busy, DiskFailed, JournalFull, Memory}
use Rattle.fts_routes.specs.Replies.{AsDefined, said_so}
use Rattle.fts_session.specs.Connections.{Exchange, reading_of, GoOnToLast, AreWritten, responses_of}
use Rattle.fts_session.specs.Sessions.{IsSession, said_at}
use Rattle.fts_session.specs.declared.ends.LineEnd.TheVariants.{Closed}
use Rattle.fts_session.specs.declared.ends.SessionEnd.{SessionEnd}
use Rattle.fts_workers_trial.proofs.Rows.{the_moment, at_list, restarted, idle-round}

-- a clear round is not busy
is_clear : RoundEnd → Type 0
is_clear Clear = Unit {0}
is_clear (Busy held) = ⊥
is_clear DiskFailed = ⊥
is_clear (JournalFull used) = ⊥
is_clear Memory = ⊥

clear-is-not-busy : (held : ℕ) → Clear ≡ Busy held → ⊥
unfolding is_clear
clear-is-not-busy held same = subst is_clear same tt

-- the connection ends with its bytes, or by a request, and the last round is clear
abbrev pub ends_well : SessionEnd
ends_well = record { line = Closed; last = Clear }

-- ---- no byte comes: one read finds that, nothing is written, and one round finds nothing to claim

pub empty-input : (own : Bool) → IsSession own [] 4 (reading_of (Some []) 0) (reading_of (Some []) 1) (Some []) (Some []) ends_well (at_list restarted) (at_list restarted)
unfolding spelled command_bytes number_bytes text_bytes settings_bytes endpoint_bytes link_bytes weight_bytes
empty-input own = record {
  between = at_list restarted;
  connection = record {
    served = [];
    last = [];
    few = omega arith;
    behind = [];
    between = reading_of (Some []) 0;
    loaded = (refl, refl);
    requests = refl;
    middle = at_list restarted;
    answered = refl;
    unwritten = refl;
    ends = (
      inr (record {
        go_on = tt;
        few = omega arith;
        loads = (
          record { request = record { method = []; path = []; query = None; body = []; close = false }; kept = [] },
          record {
            next = (refl, refl);
            taken = record {
              bytes = [];
              takes = record { pieces = []; each = tt; from_source = refl; onto_kept = refl; counted = refl };
              stands = (refl, (refl, refl));
            };
          },
        );
      }),
      refl,
    );
  };
  rounds = (0, (idle-round, clear-is-not-busy));
}

-- ---- one request for a path that there is not: it is read at once, answered and followed by a round, and says close

abbrev asking : List ℕ
asking = codes "GET /nowhere HTTP/1.1\r\nConnection: close\r\n\r\n"

abbrev request : RequestData
request = record { method = codes "GET"; path = codes "/nowhere"; query = None; body = []; close = true }

abbrev exchange : Exchange
exchange = record { request = request; reply = (said_so AsDefined (said_at (at_list restarted) (bodies_of restarted) request the_moment)).reply }

abbrev response : List ℕ
response = codes "HTTP/1.1 404 Not Found\r\nContent-Type: application/json\r\nContent-Length: 45\r\nConnection: close\r\n\r\n{\"message\":\"no route\",\"rule\":30,\"status\":404}"

request-there : next_of asking ≡ Asks request []
unfolding httparse_on_literals is_utf8 chars lib.Utf8.encode
request-there = refl

response-to-it : responses_of (exchange ∷ []) ≡ response ∷ []
unfolding digits escape_byte
response-to-it = refl

one-request : IsSession true [] 4 (reading_of (Some asking) 0) (reading_of (Some []) 1) (Some []) (Some response) ends_well (at_list restarted) (at_list restarted)
unfolding spelled command_bytes number_bytes text_bytes settings_bytes endpoint_bytes link_bytes weight_bytes digits escape_byte
one-request = record {
  between = at_list restarted;
  connection = record {
    served = exchange ∷ [];
    last = [];
    few = omega arith;
    behind = [];
    between = reading_of (Some []) 1;
    loaded = (
      reading_of (Some []) 1,
      (
        record { request = request; kept = [] },
        (
          record {
            next = request-there;
            taken = record {
              bytes = asking;
              takes = record {
                pieces = asking ∷ [];
                each = (record { short = refl; some = omega arith; small = omega arith }, tt);
                from_source = refl;
                onto_kept = refl;
                counted = refl;
              };
              stands = request-there;
            };
          },
          (refl, (refl, refl)),
        ),
      ),
    );
    requests = ([], (request-there, refl));
    middle = at_list restarted;
    answered = (
      at_list restarted,
      (
        at_list restarted,
        (
          record {
            now = the_moment;
            moment = (refl, refl);
            words = refl;
            kept = refl;
            bodies = bodies_of restarted;
            shown = record { counted = refl; spelled = λ own. refl };
            way = AsDefined;
            cause = tt;
            instead = tt;
            counts = omega arith;
            replies = refl;
            listed = refl;
            filled = refl;
            doubt = inl refl;
          },
          ((Clear, idle-round), refl),
        ),
      ),
    );
    unwritten = refl;
    ends = (
      inl (record { by_close = record { others = []; last = exchange; all = refl; go_on = tt; closes = refl }; unread = refl }),
      refl,
    );
  };
  rounds = (0, (idle-round, clear-is-not-busy));
}

-- ---- what the definitions refuse

-- a byte is written though nothing was asked
byte-without-a-request : AreWritten (Some []) (Some (65 ∷ [])) (responses_of []) → ⊥
byte-without-a-request written = absurd cc

is_no : Bool → Type 0
is_no true = ⊥
is_no false = Unit {0}

-- a request is answered behind one that said close, and then a write fails
behind-close : (first second : Exchange) → first.request.close ≡ true → GoOnToLast (first ∷ second ∷ []) → ⊥
unfolding is_no
behind-close first second close goes_on = subst is_no close (subst is_no (sym goes_on.0) tt)
