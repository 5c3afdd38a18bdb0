-- What was taken of a source, a piece at a time, and how often it was read.
use Rattle.std.proofs.Common.{◌≡◌, ℕ, zero, suc, ◌+◌, ◌<◌, List, [], ◌∷◌, ◌++◌, length, take, Option, Some, None, Ok, refl, ap, sym, ◌∙◌, arith, subst, append_assoc, append-nil, length-append}
use Rattle.std.specs.Prelude.{IfSome}
use Rattle.std.specs.List.{concat}
use Rattle.std.proofs.lemmas.List.{take-append-drop, nil_from_length}
use Rattle.std.proofs.lemmas.List.Folds.{concat-append}
use Rattle.fts_wire.specs.Outside.{Reads, IsTakenOf, raised}
use Rattle.fts_wire.specs.Piece.{AddsPiece}
use Rattle.fts_wire.specs.Requests.{IsShort}
use Rattle.fts_wire.specs.Taken.{Takes, AreRead, IsRead, IsUsedUp}

-- nothing is taken at first
pub none_taken : (left : Option (List ℕ)) → IsTakenOf left left []
none_taken None = refl
none_taken (Some left) = refl

-- what was taken, and then more
pub taken_then : (before mid after : Option (List ℕ)) (first second : List ℕ) → IsTakenOf before mid first → IsTakenOf mid after second
    → IsTakenOf before after (first ++ second)
taken_then None mid after first second t u = subst (λ m. IsTakenOf m after second) t u
taken_then (Some left) None after first second t u = absurd t
taken_then (Some left) (Some rest) None first second t u = absurd u
taken_then (Some left) (Some rest) (Some behind) first second t u = t ∙ ap (λ xs. first ++ xs) u ∙ sym (append_assoc first second behind)

-- a read gives the front of its buffer
pub gives_piece : (E : Type 0) (before after : Option (List ℕ)) (into : List ℕ) (n : ℕ)
    → Reads {E = E} before after into (Ok n) → IsTakenOf before after (take n into)
gives_piece E None after into n h = h
gives_piece E (Some left) None into n h = absurd h
gives_piece E (Some left) (Some rest) into n h =
    sym (ap (λ xs. xs ++ rest) h.taken ∙ ap (λ ys. take n left ++ ys) h.rest ∙ take-append-drop n left)

-- at least a byte, where there is one
pub gives_some : (E : Type 0) (before after : Option (List ℕ)) (into : List ℕ) (n : ℕ) → 0 < length into
    → Reads {E = E} before after into (Ok n) → IfSome before (λ left. 0 < length left → 0 < n)
gives_some E None after into n some h = tt
gives_some E (Some left) None into n some h = absurd h
gives_some E (Some left) (Some rest) into n some h = λ more. h.some more some

-- a count that went up once more
pub raised_more : (count n : ℕ) → raised (raised count n) 1 ≡ raised count (suc n)
raised_more count zero = refl
raised_more count (suc n) = omega arith

-- a piece more behind those that were read
pub AreRead-push : (kept : List ℕ) (pieces : List (List ℕ)) (piece : List ℕ) → AreRead kept pieces → IsRead (kept ++ concat pieces) piece
    → AreRead kept (pieces ++ piece ∷ [])
AreRead-push kept [] piece each one = (subst (λ xs. IsRead xs piece) (append-nil kept) one, tt)
AreRead-push kept (first ∷ pieces) piece each one =
    (each.0, AreRead-push (kept ++ first) pieces piece each.1 (subst (λ xs. IsRead xs piece) (sym (append_assoc kept first (concat pieces))) one))

pub concat-push : (pieces : List (List ℕ)) (piece : List ℕ) → concat (pieces ++ piece ∷ []) ≡ concat pieces ++ piece
concat-push pieces piece = concat-append pieces (piece ∷ []) ∙ ap (λ xs. concat pieces ++ xs) (append-nil piece)

-- nothing is taken at first, by no read
pub takes_none : (kept : List ℕ) (left : Option (List ℕ)) (reads : ℕ) → Takes kept left kept left reads reads 0
takes_none kept left reads = record { pieces = []; each = tt; from_source = none_taken left; onto_kept = sym (append-nil kept); counted = refl }

-- a piece more is taken where the bytes so far are less than a request
pub takes_more : (kept : List ℕ) (before mid after : Option (List ℕ)) (bytes bytes2 : List ℕ) (n old reads new : ℕ)
    → Takes kept before bytes mid old reads 0 → IsShort bytes → AddsPiece mid after bytes bytes2 n → 0 < n → new ≡ raised reads 1
    → Takes kept before bytes2 after old new 0
takes_more kept before mid after bytes bytes2 n old reads new t short p some once =
    let many : suc (length t.pieces + 0) ≡ length (t.pieces ++ p.piece ∷ []) + 0 = omega (arith, length-append t.pieces (p.piece ∷ [])) in record {
      pieces = t.pieces ++ p.piece ∷ [];
      each = AreRead-push kept t.pieces p.piece t.each
          (record { short = subst IsShort t.onto_kept short; some = omega (arith, p.count, some); small = omega (arith, p.count, p.small) });
      from_source = subst (λ xs. IsTakenOf before after xs) (sym (concat-push t.pieces p.piece))
          (taken_then before mid after (concat t.pieces) p.piece t.from_source p.given);
      onto_kept = p.appended ∙ ap (λ xs. xs ++ p.piece) t.onto_kept ∙ append_assoc kept (concat t.pieces) p.piece
          ∙ ap (λ xs. kept ++ xs) (sym (concat-push t.pieces p.piece));
      counted = once ∙ ap (λ count. raised count 1) t.counted ∙ raised_more old (length t.pieces + 0) ∙ ap (λ times. raised old times) many;
    }

-- a read more that gave nothing
pub takes_nothing : (kept : List ℕ) (before mid after : Option (List ℕ)) (bytes bytes2 : List ℕ) (old reads new : ℕ)
    → Takes kept before bytes mid old reads 0 → bytes2 ≡ bytes → IsTakenOf mid after [] → new ≡ raised reads 1
    → Takes kept before bytes2 after old new 1
takes_nothing kept before mid after bytes bytes2 old reads new t same none once =
    let many : suc (length t.pieces + 0) ≡ length t.pieces + 1 = omega arith in record {
      pieces = t.pieces;
      each = t.each;
      from_source = subst (λ xs. IsTakenOf before after xs) (append-nil (concat t.pieces)) (taken_then before mid after (concat t.pieces) [] t.from_source none);
      onto_kept = same ∙ t.onto_kept;
      counted = once ∙ ap (λ count. raised count 1) t.counted ∙ raised_more old (length t.pieces + 0) ∙ ap (λ times. raised old times) many;
    }

-- an empty piece is none
pub piece_none : (mid after : Option (List ℕ)) (bytes bytes2 : List ℕ) (n : ℕ) → n ≡ 0 → (p : AddsPiece mid after bytes bytes2 n) → p.piece ≡ []
piece_none mid after bytes bytes2 n e p = nil_from_length p.piece (p.count ∙ e)

-- an empty piece leaves the bytes as they were
pub same_bytes : (mid after : Option (List ℕ)) (bytes bytes2 : List ℕ) (n : ℕ) → n ≡ 0 → AddsPiece mid after bytes bytes2 n → bytes2 ≡ bytes
same_bytes mid after bytes bytes2 n e p = p.appended ∙ ap (λ xs. bytes ++ xs) (piece_none mid after bytes bytes2 n e p) ∙ append-nil bytes

-- a read that found the end
pub takes_end : (kept : List ℕ) (before mid after : Option (List ℕ)) (bytes bytes2 : List ℕ) (n old reads new : ℕ)
    → Takes kept before bytes mid old reads 0 → AddsPiece mid after bytes bytes2 n → n ≡ 0 → new ≡ raised reads 1
    → Takes kept before bytes2 after old new 1
takes_end kept before mid after bytes bytes2 n old reads new t p e once =
    takes_nothing kept before mid after bytes bytes2 old reads new t (same_bytes mid after bytes bytes2 n e p)
    (subst (λ xs. IsTakenOf mid after xs) (piece_none mid after bytes bytes2 n e p) p.given) once

-- a read that failed
pub takes_failed : (kept : List ℕ) (before mid after : Option (List ℕ)) (bytes bytes2 : List ℕ) (old reads new : ℕ)
    → Takes kept before bytes mid old reads 0 → bytes2 ≡ bytes → after ≡ mid → new ≡ raised reads 1
    → Takes kept before bytes2 after old new 1
takes_failed kept before mid after bytes bytes2 old reads new t same left once =
    takes_nothing kept before mid after bytes bytes2 old reads new t same (subst (λ x. IsTakenOf mid x []) (sym left) (none_taken mid)) once

rest_none : (left rest : List ℕ) (n : ℕ) → n ≡ 0 → left ≡ rest → (0 < length left → 0 < n) → rest ≡ []
rest_none [] rest n e same some = sym same
rest_none (byte ∷ left) rest n e same some = absurd (omega (arith, e, some (omega arith)))

-- a read of nothing says that the source has nothing left
pub used_up : (mid after : Option (List ℕ)) (bytes bytes2 : List ℕ) (n : ℕ) → n ≡ 0 → AddsPiece mid after bytes bytes2 n → IsUsedUp after
used_up None after bytes bytes2 n e p = subst IsUsedUp (sym p.given) tt
used_up (Some left) None bytes bytes2 n e p = absurd p.given
used_up (Some left) (Some rest) bytes bytes2 n e p =
    rest_none left rest n e (p.given ∙ ap (λ xs. xs ++ rest) (piece_none (Some left) (Some rest) bytes bytes2 n e p)) p.some
