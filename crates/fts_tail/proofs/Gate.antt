-- What the bytes at a gate say of the content.
use Rattle.std.proofs.Common.{◌≡◌, refl, ap, sym, ◌∙◌, subst, ℕ, ◌+◌, ◌-◌, ◌<◌, List, length, take, drop, arith, length-drop}
use Rattle.std.proofs.lemmas.List.{drop-take, take-take}
use Rattle.std.specs.Int.{from_le_bytes, w32}
use Rattle.fts_journal.specs.Loading.{IsCutOff, IsWhole, size_at}
use Rattle.fts_tail.specs.Tail.{IsOpened, StandsBefore}

-- behind an open gate with less than a length there is no whole body
pub cut_short : (used : ℕ) (content : List ℕ) → IsOpened (drop used content) → length content < used + 5 → IsCutOff used (drop used content)
cut_short used content opened short = subst (IsCutOff used) (sym opened) (refl, no)
  where
    no : IsWhole used (drop 1 (drop used content)) → ⊥
    no whole = absurd (omega (arith, whole.sized, short, length-drop used content, length-drop 1 (drop used content)))

-- nor with less than a body of that length
pub cut_long : (used size : ℕ) (content : List ℕ) → IsOpened (drop used content) → size ≡ size_at (drop 1 (drop used content)) → length content < used + 5 + size
    → IsCutOff used (drop used content)
cut_long used size content opened is short = subst (IsCutOff used) (sym opened) (refl, no)
  where
    no : IsWhole used (drop 1 (drop used content)) → ⊥
    no whole = absurd (omega (arith, whole.whole, is, short, length-drop used content, length-drop 1 (drop used content)))

-- the length in five bytes that were read is that of the content
pub size_same : (head rest : List ℕ) → head ≡ take (length head) rest → length head ≡ 5 → size_at (drop 1 head) ≡ size_at (drop 1 rest)
size_same head rest is five =
    ap (λ (l : List ℕ). from_le_bytes w32 (take 4 (drop 1 l))) (is ∙ ap (λ (n : ℕ). take n rest) five)
    ∙ ap (λ (l : List ℕ). from_le_bytes w32 (take 4 l)) (drop-take 1 4 rest)
    ∙ ap (λ (l : List ℕ). from_le_bytes w32 l) (take-take 4 4 (drop 1 rest) (omega arith))

-- bytes that stand before the gate, and the gate, begin with what stood there
pub still_there : (content last bytes : List ℕ) (used : ℕ) → StandsBefore content used last
    → bytes ≡ take (length last + 1) (drop (used - length last) content) → take (length last) bytes ≡ last
still_there content last bytes used before read =
    ap (λ (l : List ℕ). take (length last) l) read
    ∙ take-take (length last) (length last + 1) (drop (used - length last) content) (omega arith)
    ∙ sym before
