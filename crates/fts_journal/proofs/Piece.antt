-- What a piece of a content says of the whole.
use Rattle.std.proofs.Common.{◌≡◌, ◌≢◌, subst, ℕ, zero, suc, ◌+◌, ◌-◌, ◌≤◌, ◌<◌, min, List, [], ◌∷◌, length, take, drop, get_or, refl, sym, ◌∙◌, ap, arith, length-take}
use Rattle.std.proofs.lemmas.List.{take-take, drop-take, drop-drop}
use Rattle.std.specs.Int.{from_le_bytes, w32}
use Rattle.fts_journal.specs.Format.{size_bytes}
use Rattle.fts_journal.specs.Loading.{IsPiece, IsSizeBy, IsWhole, IsCutOff, IsOpen, IsShut, size_at}

-- a piece from an offset on is the content from there on
pub front_is : (content : List ℕ) (start at : ℕ) (bytes : List ℕ) → IsPiece content start bytes → start ≤ at → at < start + length bytes
    → drop (at - start) bytes ≡ take (length bytes - (at - start)) (drop at content)
front_is content start at bytes piece from here =
    let n = at - start in
    let m = length bytes - n in
    let parts : n + m ≡ length bytes = omega arith in
    let place : start + n ≡ at = omega arith in
    ap (λ (l : List ℕ). drop n l) piece
    ∙ ap (λ (k : ℕ). drop n (take k (drop start content))) (sym parts)
    ∙ drop-take n m (drop start content)
    ∙ ap (λ (l : List ℕ). take m l) (drop-drop n start content)
    ∙ ap (λ (k : ℕ). take m (drop k content)) place

-- the first byte of a beginning is the first of the whole
first_is : (rest : List ℕ) (m : ℕ) → 1 ≤ length (take m rest) → rest ≡ get_or (take m rest) 0 0 ∷ drop 1 rest
first_is [] zero some = absurd (omega arith)
first_is [] (suc m) some = absurd (omega arith)
first_is (x ∷ rest) zero some = absurd (omega arith)
first_is (x ∷ rest) (suc m) some = refl

-- the length in four bytes is that of the whole
size_same : (behind tail : List ℕ) (k : ℕ) → behind ≡ take k tail → 4 ≤ length behind → take 4 behind ≡ take 4 tail
size_same behind tail k is sized =
    let far : 4 ≤ k = omega (arith, ap length is, length-take k tail) in
    ap (λ (l : List ℕ). take 4 l) is ∙ take-take 4 k tail far

module _ (rest front : List ℕ) (m offset end : ℕ) (is : front ≡ take m rest) (some : 1 ≤ length front) (ends : end ≡ offset + length rest) where
  -- the first byte
  begins_with : (gate : ℕ) → gate ≡ get_or front 0 0 → rest ≡ gate ∷ drop 1 rest
  begins_with gate at =
      first_is rest m (omega (arith, ap length is)) ∙ ap (λ (x : ℕ). x ∷ drop 1 rest) (ap (λ (l : List ℕ). get_or l 0 0) (sym is) ∙ sym at)

  -- a byte that is no open gate
  pub shut_here : (gate : ℕ) → gate ≡ get_or front 0 0 → gate ≢ 1 → IsShut rest
  shut_here gate at closed = record { gate = gate; tail = drop 1 rest; is = begins_with gate at; closed = closed }

  module _ (opened : 1 ≡ get_or front 0 0) (behind : List ℕ) (behind_front : behind ≡ drop 1 front) where
    part_of : behind ≡ take (m - 1) (drop 1 rest)
    part_of =
        let parts : m ≡ 1 + (m - 1) = omega (arith, some, ap length is, length-take m rest) in
        behind_front ∙ ap (λ (l : List ℕ). drop 1 l) is ∙ ap (λ (k : ℕ). drop 1 (take k rest)) parts ∙ drop-take 1 (m - 1) rest

    long : end ≡ offset + (1 + length (drop 1 rest))
    long = omega (arith, ends, ap length (begins_with 1 opened))

    -- an open gate with a whole body behind it
    pub open_here : (size : ℕ) → size ≡ size_at behind → size_bytes size ≡ take 4 behind → IsSizeBy offset end behind → IsOpen offset size rest
    open_here size same bytes by =
        let four = size_same behind (drop 1 rest) (m - 1) part_of by.sized in
        let sizes : size_at behind ≡ size_at (drop 1 rest) = ap (λ (l : List ℕ). from_le_bytes w32 l) four in
        record {
          tail = drop 1 rest;
          is = begins_with 1 opened;
          size_is = same ∙ sizes;
          bytes = bytes ∙ four;
          whole = record {
            sized = omega (arith, by.sized, ap length part_of, length-take (m - 1) (drop 1 rest));
            some = omega (arith, by.some, sizes);
            most = omega (arith, by.most, sizes);
            whole = omega (arith, by.whole, sizes, long);
            room = omega (arith, by.room, sizes);
          };
        }

    -- an open gate without one
    pub cut_here_by : min end (offset + 8) ≤ offset + m → (IsSizeBy offset end behind → ⊥) → IsCutOff offset rest
    cut_here_by far not_by = subst (IsCutOff offset) (sym (begins_with 1 opened)) (refl, λ whole. not_by (by whole))
      where
        by : IsWhole offset (drop 1 rest) → IsSizeBy offset end behind
        by whole =
            let sized : 4 ≤ length behind = omega (arith, whole.sized, far, long, ap length part_of, length-take (m - 1) (drop 1 rest)) in
            let sizes : size_at behind ≡ size_at (drop 1 rest) = ap (λ (l : List ℕ). from_le_bytes w32 l) (size_same behind (drop 1 rest) (m - 1) part_of sized) in
            record {
              sized = sized;
              some = omega (arith, whole.some, sizes);
              most = omega (arith, whole.most, sizes);
              whole = omega (arith, whole.whole, sizes, long);
              room = omega (arith, whole.room, sizes);
            }
