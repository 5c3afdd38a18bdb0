-- What was taken of a source for a response, a piece at a time, and how often it was read.
use Rattle.std.proofs.Common.{◌≡◌, ℕ, suc, ◌+◌, ◌<◌, List, [], ◌∷◌, ◌++◌, length, take, drop, Option, Some, None, Ok, Err, refl, ap, sym, ◌∙◌, arith, subst, append_assoc, append-nil, length-append}
use Rattle.std.specs.List.{concat}
use Rattle.fts_wire.specs.Outside.{IsTakenOf, raised}
use Rattle.fts_wire.specs.Piece.{AddsPiece}
use Rattle.fts_wire.specs.Taken.{IsUsedUp}
use Rattle.fts_wire.specs.NextAnswers.{IsInside, BeginsResponse, BeginsWith, AreReadInside, IsReadInside, FindsAnswer, ReadsAnswer}
use Rattle.fts_wire.specs.AnswerTaken.{TakesAnswer, FillsAnswer, empty_reads}
use Rattle.fts_wire.specs.declared.answer_look.AnswerHead.{AnswerHead}
use Rattle.fts_wire.specs.declared.answers.AnswerFault.{AnswerFault}
use Rattle.fts_wire.specs.declared.answers.AnswerFault.TheVariants.{BadResponse, EndsInside, SourceFailed}
use Rattle.fts_wire.proofs.AnswerHeads.{whole_response}
use Rattle.fts_wire.proofs.Pieces.{none_taken, taken_then, concat-push, raised_more, piece_none, same_bytes}

-- a piece more behind those that were read
inside-push : (bytes : List ℕ) (pieces : List (List ℕ)) (piece : List ℕ) → AreReadInside bytes pieces → IsReadInside (bytes ++ concat pieces) piece
    → AreReadInside bytes (pieces ++ piece ∷ [])
inside-push bytes [] piece each one = (subst (λ list. IsReadInside list piece) (append-nil bytes) one, tt)
inside-push bytes (first ∷ pieces) piece each one = (
  each.0,
  inside-push (bytes ++ first) pieces piece each.1 (subst (λ list. IsReadInside list piece) (sym (append_assoc bytes first (concat pieces))) one),
)

-- nothing is taken at first
pub answer_none : (bytes : List ℕ) (left : Option (List ℕ)) (reads : ℕ) → bytes ≡ [] → TakesAnswer left bytes left reads reads 0
answer_none bytes left reads empty = record { pieces = []; inside = tt; from_source = none_taken left; bytes_are = empty; counted = refl }

-- a piece more is taken where the bytes so far are less than a response
pub answer_more : (before mid after : Option (List ℕ)) (bytes bytes2 : List ℕ) (n old reads new : ℕ)
    → TakesAnswer before bytes mid old reads 0 → IsInside bytes → AddsPiece mid after bytes bytes2 n → 0 < n → new ≡ raised reads 1
    → TakesAnswer before bytes2 after old new 0
answer_more before mid after bytes bytes2 n old reads new t inside p some once =
    let many : suc (length t.pieces + 0) ≡ length (t.pieces ++ p.piece ∷ []) + 0 = omega (arith, length-append t.pieces (p.piece ∷ [])) in record {
      pieces = t.pieces ++ p.piece ∷ [];
      inside = inside-push [] t.pieces p.piece t.inside
          (record { inside = subst IsInside t.bytes_are inside; some = omega (arith, p.count, some); small = omega (arith, p.count, p.small) });
      from_source = subst (λ list. IsTakenOf before after list) (sym (concat-push t.pieces p.piece))
          (taken_then before mid after (concat t.pieces) p.piece t.from_source p.given);
      bytes_are = p.appended ∙ (ap (λ list. list ++ p.piece) t.bytes_are ∙ sym (concat-push t.pieces p.piece));
      counted = once ∙ ap (λ count. raised count 1) t.counted ∙ raised_more old (length t.pieces + 0) ∙ ap (λ times. raised old times) many;
    }

-- a read more that gave nothing
answer_nothing : (before mid after : Option (List ℕ)) (bytes bytes2 : List ℕ) (old reads new : ℕ)
    → TakesAnswer before bytes mid old reads 0 → bytes2 ≡ bytes → IsTakenOf mid after [] → new ≡ raised reads 1
    → TakesAnswer before bytes2 after old new 1
answer_nothing before mid after bytes bytes2 old reads new t same none once =
    let many : suc (length t.pieces + 0) ≡ length t.pieces + 1 = omega arith in record {
      pieces = t.pieces;
      inside = t.inside;
      from_source = subst (λ list. IsTakenOf before after list) (append-nil (concat t.pieces)) (taken_then before mid after (concat t.pieces) [] t.from_source none);
      bytes_are = same ∙ t.bytes_are;
      counted = once ∙ ap (λ count. raised count 1) t.counted ∙ raised_more old (length t.pieces + 0) ∙ ap (λ times. raised old times) many;
    }

-- a read that found the end
pub answer_end : (before mid after : Option (List ℕ)) (bytes bytes2 : List ℕ) (n old reads new : ℕ)
    → TakesAnswer before bytes mid old reads 0 → AddsPiece mid after bytes bytes2 n → n ≡ 0 → new ≡ raised reads 1
    → TakesAnswer before bytes2 after old new 1
answer_end before mid after bytes bytes2 n old reads new t p e once =
    answer_nothing before mid after bytes bytes2 old reads new t (same_bytes mid after bytes bytes2 n e p)
    (subst (λ list. IsTakenOf mid after list) (piece_none mid after bytes bytes2 n e p) p.given) once

-- a read that failed
pub answer_failed : (before mid after : Option (List ℕ)) (bytes bytes2 : List ℕ) (old reads new : ℕ)
    → TakesAnswer before bytes mid old reads 0 → bytes2 ≡ bytes → after ≡ mid → new ≡ raised reads 1
    → TakesAnswer before bytes2 after old new 1
answer_failed before mid after bytes bytes2 old reads new t same left once =
    answer_nothing before mid after bytes bytes2 old reads new t same (subst (λ x. IsTakenOf mid x []) (sym left) (none_taken mid)) once

-- a response that was filled in is read
pub reads_whole : (before after : Option (List ℕ)) (bytes : List ℕ) (old new faults faults2 : ℕ) (head : AnswerHead)
    → TakesAnswer before bytes after old new 0 → FillsAnswer bytes after faults faults2 (Ok head)
    → ReadsAnswer before after old new (Ok (record { status = head.status; body = take head.body (drop head.size bytes) }))
reads_whole before after bytes old new faults faults2 head t look = record {
  pieces = t.pieces;
  inside = t.inside;
  from_source = t.from_source;
  counted = t.counted;
  finds = subst (λ list. BeginsWith list (record { status = head.status; body = take head.body (drop head.size bytes) })) t.bytes_are
      (whole_response bytes head look.0 look.1);
}

-- a fault of filling is one of reading
pub reads_fault : (before after : Option (List ℕ)) (bytes : List ℕ) (old new faults faults2 : ℕ) (fault : AnswerFault)
    → TakesAnswer before bytes after old new (empty_reads (Err fault)) → FillsAnswer bytes after faults faults2 (Err fault)
    → ReadsAnswer before after old new (Err fault)
reads_fault before after bytes old new faults faults2 BadResponse t look = record {
  pieces = t.pieces;
  inside = t.inside;
  from_source = t.from_source;
  counted = t.counted;
  finds = subst (λ list. BeginsResponse list → ⊥) t.bytes_are look;
}
reads_fault before after bytes old new faults faults2 EndsInside t look = record {
  pieces = t.pieces;
  inside = t.inside;
  from_source = t.from_source;
  counted = t.counted;
  finds = ended after (concat t.pieces) (subst IsInside t.bytes_are look.0) look.1;
}
  where
    ended : (left : Option (List ℕ)) (list : List ℕ) → IsInside list → IsUsedUp left → FindsAnswer list left (Err EndsInside)
    ended None list inside none = inside
    ended (Some rest) list inside none = (inside, none)
reads_fault before after bytes old new faults faults2 SourceFailed t look = record {
  pieces = t.pieces;
  inside = t.inside;
  from_source = t.from_source;
  counted = t.counted;
  finds = subst IsInside t.bytes_are look.0;
}
