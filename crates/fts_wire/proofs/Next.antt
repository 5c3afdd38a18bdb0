-- What stands in the bytes that were taken is what comes next of all that there is.
use Rattle.std.proofs.Common.{◌≡◌, ℕ, suc, ◌+◌, ◌<◌, ◌≤◌, Bool, true, false, cond, List, [], ◌∷◌, ◌++◌, length, take, drop, Option, Some, None, Result, Ok, Err, refl, ap, sym, ◌∙◌, arith, subst, append-nil, append_assoc, length-append, length-drop}
use Rattle.std.specs.Prelude.{nat_le, ◌&&◌, ◌==◌, IfSome, MatchBool, is_some}
use Rattle.std.specs.List.{concat, list_all}
use Rattle.std.proofs.lemmas.Bool.{cond_both, cond-true, cond-false, le-leb, lt-leb, and_parts, false_from_ne_true, false≢true, true≢false, eqb-true, eqb-false}
use Rattle.std.proofs.lemmas.List.{drop-append-le, take-append-le}
use Rattle.httparse.specs.Pieces.{is_newline}
use Rattle.fts_wire.specs.declared.fault.WireFault.{WireFault}
use Rattle.fts_wire.specs.declared.fault.WireFault.TheVariants.{EndsInside as EndsInsideFault, SourceFailed}
use Rattle.fts_wire.specs.declared.look.Head.{Head}
use Rattle.fts_wire.specs.RequestData.{RequestData}
use Rattle.fts_wire.specs.Look.{Refused, Headed, blanks, sight_of, head_at, head_in, head_bytes, IsSpanned, StandsAt}
use Rattle.fts_wire.specs.RoomData.{RoomData}
use Rattle.fts_wire.specs.Room.{request_at, taken_by}
use Rattle.fts_wire.specs.Requests.{next_of, next_by, at_end, asks, is_open, IsShort, Closed, EndsInside, Refuses, Asks}
use Rattle.fts_wire.specs.Taken.{pending, IsNext, IsUsedUp, LooksLike, Takes, StandsIn, reads_without, IsTaken, IsKnown}
use Rattle.fts_wire.proofs.Bounds.{IsAnswered, refused_answered}
use Rattle.fts_wire.proofs.Stable.{Stays, StaysNext, sight_more, next_more}

-- a request that stands in bytes stands in them with more behind
pub request_more : (bytes more rest : List ℕ) (request : RequestData) → next_of bytes ≡ Asks request rest
    → next_of (bytes ++ more) ≡ Asks request (rest ++ more)
request_more bytes more rest request e = subst (λ n. StaysNext n more (next_of (bytes ++ more))) e (next_more bytes more)

-- bytes that are refused are refused with more behind
pub refused_more : (bytes more : List ℕ) (fault : WireFault) → next_of bytes ≡ Refuses fault → next_of (bytes ++ more) ≡ Refuses fault
refused_more bytes more fault e = subst (λ n. StaysNext n more (next_of (bytes ++ more))) e (next_more bytes more)

-- the bytes at hand and what is left behind them are all that was to come
all_bytes : (kept left bytes rest : List ℕ) (old new more : ℕ) → Takes kept (Some left) bytes (Some rest) old new more → kept ++ left ≡ bytes ++ rest
all_bytes kept left bytes rest old new more t =
    ap (λ xs. kept ++ xs) t.from_source ∙ sym (append_assoc kept (concat t.pieces) rest) ∙ ap (λ xs. xs ++ rest) (sym t.onto_kept)

stands_next : (bytes rest : List ℕ) (room : RoomData) (result : Result Bool WireFault) → StandsIn bytes (Some rest) room result
    → IsNext (Some (bytes ++ rest)) (Some (room.kept ++ rest)) room result
stands_next bytes rest room (Ok true) s = request_more bytes rest room.kept room.request s
stands_next bytes rest room (Ok false) s =
    let all : bytes ++ rest ≡ bytes = ap (λ xs. bytes ++ xs) s.1.0 ∙ append-nil bytes in
    (ap next_of all ∙ s.0, ap (λ xs. xs ++ rest) s.1.1 ∙ s.1.0)
stands_next bytes rest room (Err EndsInsideFault) s = ap next_of (ap (λ xs. bytes ++ xs) s.1.0 ∙ append-nil bytes) ∙ s.0
stands_next bytes rest room (Err SourceFailed) s = (ap (λ xs. xs ++ rest) s.1, subst IsShort (sym s.1) s.0)
stands_next bytes rest room (Err fault) s = refused_more bytes rest fault s.0

-- what a call found in what it took is what it found next
pub next_from_taken : (kept : List ℕ) (before after : Option (List ℕ)) (old new : ℕ) (room : RoomData) (result : Result Bool WireFault)
    → IsTaken kept before after old new room result → IsNext (pending kept before) (pending room.kept after) room result
next_from_taken kept None after old new room result t = ap (pending room.kept) t.takes.from_source
next_from_taken kept (Some left) None old new room result t = absurd t.takes.from_source
next_from_taken kept (Some left) (Some rest) old new room result t =
    subst (λ all. IsNext (Some all) (Some (room.kept ++ rest)) room result)
    (sym (all_bytes kept left t.bytes rest old new (reads_without result) t.takes)) (stands_next t.bytes rest room result t.stands)

-- a whole request
whole : (bytes : List ℕ) (head : Head) → StandsAt bytes head → taken_by head ≤ length bytes
    → next_of bytes ≡ Asks (request_at bytes head) (drop (taken_by head) bytes)
whole bytes head at within =
    ap (λ s. next_by s bytes) at.sight
    ∙ cond-true (nat_le (taken_by head) (length bytes)) (asks (head_at bytes head) bytes) EndsInside (le-leb (taken_by head) (length bytes) within)

-- a part of a body
pub part : (bytes : List ℕ) (head : Head) → StandsAt bytes head → length bytes < taken_by head → next_of bytes ≡ EndsInside
part bytes head at short =
    ap (λ s. next_by s bytes) at.sight
    ∙ cond-false (nat_le (taken_by head) (length bytes)) (asks (head_at bytes head) bytes) EndsInside (lt-leb (taken_by head) (length bytes) short)

all_blank_if : (t : Bool) (n m : ℕ) (rest : Bool) → (n ≡ m → rest ≡ true) → cond t (1 + n) 0 ≡ suc m → (t && rest) ≡ true
all_blank_if true n m rest tail e = tail (omega (arith, e))
all_blank_if false n m rest tail e = absurd (omega (arith, e))

-- bytes of CR and LF alone
all_blank : (bytes : List ℕ) → blanks bytes ≡ length bytes → list_all is_newline bytes ≡ true
all_blank [] e = refl
all_blank (b ∷ bytes) e = all_blank_if (is_newline b) (blanks bytes) (length bytes) (list_all is_newline bytes) (all_blank bytes) e

blank_all : (bytes : List ℕ) → list_all is_newline bytes ≡ true → blanks bytes ≡ length bytes
blank_all [] e = refl
blank_all (b ∷ bytes) e =
    let parts = and_parts (is_newline b) (list_all is_newline bytes) e in
    cond-true (is_newline b) (1 + blanks bytes) 0 parts.0 ∙ omega (arith, blank_all bytes parts.1)

-- what is known of bytes that are less than a request says that they are
pub known_short : (bytes : List ℕ) (found : Option Head) → IsKnown bytes found → IsShort bytes
known_short bytes None short =
    ap (λ s. is_open (next_by s bytes)) short ∙ cond_both (list_all is_newline bytes) Closed EndsInside (λ n. is_open n ≡ true) (λ _. refl) (λ _. refl)
known_short bytes (Some head) known = ap is_open (part bytes head known.0 known.1)

-- a head that was found is the same with more behind
pub stands_more : (bytes more : List ℕ) (head : Head) → StandsAt bytes head → StandsAt (bytes ++ more) head
stands_more bytes more head at =
    let own : head_bytes bytes head ≡ head_bytes (bytes ++ more) head =
    sym (ap (take head.size) (drop-append-le head.before bytes more (omega (arith, at.within)))
    ∙ take-append-le head.size (drop head.before bytes) more (omega (arith, at.within, length-drop head.before bytes))) in record {
      sight = subst (λ s. Stays s (sight_of (bytes ++ more))) at.sight (sight_more bytes more) ∙ ap (λ xs. Headed (head_in xs head)) own;
      within = omega (arith, at.within, length-append bytes more);
      spans = subst (λ xs. IsSpanned xs head) own at.spans;
    }

pub known_more : (bytes more : List ℕ) (found : Option Head) → IsKnown bytes found → IfSome found (StandsAt (bytes ++ more))
known_more bytes more None known = tt
known_more bytes more (Some head) known = stands_more bytes more head known.0

fault_stands : (bytes : List ℕ) (left : Option (List ℕ)) (faults faults2 : ℕ) (room : RoomData) (fault : WireFault)
    → LooksLike bytes left faults faults2 (Err fault) → room.kept ≡ bytes → StandsIn bytes left room (Err fault)
fault_stands bytes left faults faults2 room EndsInsideFault h k = (h.0, (h.1, k))
fault_stands bytes left faults faults2 room SourceFailed h k = (h.0, k)
fault_stands bytes left faults faults2 room fault h k = (h, k)

-- a fault, by the look that a fill ended with
pub taken_fault : (kept : List ℕ) (before after : Option (List ℕ)) (old new : ℕ) (bytes : List ℕ) (faults faults2 : ℕ) (room : RoomData) (fault : WireFault)
    → Takes kept before bytes after old new (reads_without (Err fault)) → LooksLike bytes after faults faults2 (Err fault) → room.kept ≡ bytes
    → IsTaken kept before after old new room (Err fault)
taken_fault kept before after old new bytes faults faults2 room fault t h k =
    record { bytes = bytes; takes = t; stands = fault_stands bytes after faults faults2 room fault h k }

-- the end of the input between requests
pub taken_closed : (kept : List ℕ) (before after : Option (List ℕ)) (old new : ℕ) (bytes : List ℕ) (room : RoomData)
    → Takes kept before bytes after old new 1 → next_of bytes ≡ Closed → IsUsedUp after → room.kept ≡ [] → IsTaken kept before after old new room (Ok false)
taken_closed kept before after old new bytes room t none used k = record { bytes = bytes; takes = t; stands = (none, (used, k)) }

-- a request
pub taken_asked : (kept : List ℕ) (before after : Option (List ℕ)) (old new : ℕ) (bytes : List ℕ) (head : Head)
    → Takes kept before bytes after old new 0 → StandsAt bytes head → taken_by head ≤ length bytes
    → IsTaken kept before after old new (record { request = request_at bytes head; kept = drop (taken_by head) bytes }) (Ok true)
taken_asked kept before after old new bytes head t at within = record { bytes = bytes; takes = t; stands = whole bytes head at within }

-- what the end of the input is behind bytes in which no head has ended
pub no_head_end : (bytes : List ℕ) (found : Option Head) (n : ℕ) → IsKnown bytes found → is_some found ≡ false → n ≡ blanks bytes
    → MatchBool (n == length bytes) (next_of bytes ≡ Closed) (next_of bytes ≡ EndsInside)
no_head_end bytes (Some head) n known none count = absurd (true≢false none)
no_head_end bytes None n short none count = by (n == length bytes) refl
  where
    next : next_of bytes ≡ at_end bytes
    next = ap (λ s. next_by s bytes) short

    by : (t : Bool) → n == length bytes ≡ t → MatchBool t (next_of bytes ≡ Closed) (next_of bytes ≡ EndsInside)
    by true e = next ∙ cond-true (list_all is_newline bytes) Closed EndsInside (all_blank bytes (sym count ∙ eqb-true n (length bytes) e))
    by false e = next ∙ cond-false (list_all is_newline bytes) Closed EndsInside
        (false_from_ne_true (list_all is_newline bytes) (λ all. eqb-false n (length bytes) e (count ∙ blank_all bytes all)))

-- bytes that a look refuses are refused
refused_looks : (bytes : List ℕ) (left : Option (List ℕ)) (old new : ℕ) (fault : WireFault) → sight_of bytes ≡ Refused fault → IsAnswered fault
    → LooksLike bytes left old new (Err fault)
refused_looks bytes left old new EndsInsideFault e answered = absurd (false≢true answered)
refused_looks bytes left old new SourceFailed e answered = absurd (false≢true answered)
refused_looks bytes left old new fault e answered = ap (λ s. next_by s bytes) e

refused_reads : (fault : WireFault) → IsAnswered fault → reads_without (Err fault) ≡ 0
refused_reads EndsInsideFault answered = absurd (false≢true answered)
refused_reads SourceFailed answered = absurd (false≢true answered)
refused_reads fault answered = refl

pub looks_refused : (bytes : List ℕ) (left : Option (List ℕ)) (old new : ℕ) (fault : WireFault) → sight_of bytes ≡ Refused fault
    → LooksLike bytes left old new (Err fault)
looks_refused bytes left old new fault e = refused_looks bytes left old new fault e (refused_answered bytes fault e)

pub takes_refused : (kept : List ℕ) (before : Option (List ℕ)) (bytes : List ℕ) (after : Option (List ℕ)) (old new : ℕ) (fault : WireFault)
    → sight_of bytes ≡ Refused fault
    → Takes kept before bytes after old new 0 → Takes kept before bytes after old new (reads_without (Err fault))
takes_refused kept before bytes after old new fault e t =
    subst (Takes kept before bytes after old new) (sym (refused_reads fault (refused_answered bytes fault e))) t
