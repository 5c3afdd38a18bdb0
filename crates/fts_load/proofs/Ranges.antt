-- Lists of what stands at each number of a range: one number more, and pieces of bytes that rise.
use Rattle.std.proofs.Common.{◌≡◌, ℕ, zero, suc, ◌+◌, ◌<◌, ◌≤◌, ◌%◌, List, [], ◌∷◌, ◌++◌, length, get_or, take, drop, ap, ◌∙◌, arith, length-drop, length-take}
use Rattle.std.specs.List.{range_with_len, flat_map}
use Rattle.std.proofs.lemmas.List.{get_or-drop, get_or-take, append-nil}
use Rattle.std.proofs.lemmas.Grind.{flat_map-append}
use Rattle.std.proofs.lemmas.List.FromFn.{fill_by_all, get_or-map-range_with_len}
use Rattle.fts_load.specs.Sources.{rising_bytes}

last : (from count at : ℕ) → from + count ≡ at → range_with_len from (suc count) ≡ range_with_len from count ++ at ∷ []
last from zero at e = let same : from ≡ at = omega arith in ap (λ k. k ∷ []) same
last from (suc count) at e = ap (λ l. from ∷ l) (last (from + 1) count at (omega arith))

-- a range of one number more
pub range_more : (from count at : ℕ) → from + count ≡ at → range_with_len from (count + 1) ≡ range_with_len from count ++ at ∷ []
range_more from count at e = let on : count + 1 ≡ suc count = omega arith in ap (range_with_len from) on ∙ last from count at e

-- texts of a range of one number more
pub texts_more : (text : ℕ → List ℕ) (from count at : ℕ) → from + count ≡ at
    → flat_map text (range_with_len from (count + 1)) ≡ flat_map text (range_with_len from count) ++ text at
texts_more text from count at e = ap (flat_map text) (range_more from count at e) ∙ flat_map-append text (range_with_len from count) (at ∷ [])
    ∙ ap (λ (l : List ℕ). flat_map text (range_with_len from count) ++ l) (append-nil (text at))

-- bytes that are each as they rise from a start
pub rising : (bytes : List ℕ) (start size : ℕ) → length bytes ≡ size → ((at : ℕ) → at < size → get_or bytes at 0 ≡ (start + at) % 256) → bytes ≡ rising_bytes start size
rising bytes start size long each = fill_by_all (λ (at : ℕ). (start + at) % 256) bytes size 0 long each

-- a piece of bytes that rise from 0
pub piece_rising : (bytes : List ℕ) (start size : ℕ) → bytes ≡ rising_bytes 0 (length bytes) → start + size ≤ length bytes
    → take size (drop start bytes) ≡ rising_bytes start size
piece_rising bytes start size is within = rising (take size (drop start bytes)) start size
    (omega (arith, length-take size (drop start bytes), length-drop start bytes))
    (λ at less. get_or-take size (drop start bytes) at 0 less ∙ get_or-drop start bytes at 0 ∙ ap (λ (l : List ℕ). get_or l (start + at) 0) is
    ∙ get_or-map-range_with_len (λ (k : ℕ). (0 + k) % 256) 0 (length bytes) (start + at) (start + at) 0 (omega arith) (omega arith)
    ∙ (let same : 0 + (start + at) ≡ start + at = omega arith in ap (λ k. k % 256) same))
