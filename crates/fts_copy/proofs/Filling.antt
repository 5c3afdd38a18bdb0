-- A buffer that is filled by reads of any length.
use Rattle.std.proofs.Common.{◌≡◌, ℕ, ◌+◌, ◌-◌, ◌<◌, ◌≤◌, Result, Ok, Err, IfOk, List, [], ◌++◌, length, take, drop, refl, sym, ◌∙◌, ap, subst, arith, tests}
use Rattle.std.specs.Prelude.{min, nat_lt}
use Rattle.std.proofs.Math.Seq.{take-add, take-append-add}
use Rattle.std.proofs.lemmas.Slice.{take-put_mid}
use borrow.Rule.Slice.PartMut.{put_mid}
use Rattle.fts_store.specs.Store.{Reads}
use Rattle.std.proofs.lemmas.List.{drop-drop, take_all, take-take, length-drop, length-take, length-take-le}
use Rattle.fts_copy.specs.Steps.{IsFilled, ReadsMore, piece_at}

-- nothing is filled at first
pub none_filled : (bytes : List ℕ) (offset : ℕ) (buffer : List ℕ) → IsFilled bytes offset buffer 0
none_filled bytes offset buffer = record { given = refl; within = omega arith }

-- a read fills more
pub more_filled : (bytes : List ℕ) (offset : ℕ) (old new : List ℕ) (filled count : ℕ) → IsFilled bytes offset old filled → ReadsMore bytes (offset + filled) old new filled count → IsFilled bytes offset new (filled + count)
more_filled bytes offset old new filled count is more =
    let behind : drop filled (drop offset bytes) ≡ drop (offset + filled) bytes = drop-drop filled offset bytes in
    let left : length (drop filled (drop offset bytes)) ≡ length (drop offset bytes) - filled = length-drop filled (drop offset bytes) in
    let rest : count ≤ length (drop filled (drop offset bytes)) = subst (λ l. count ≤ length l) (sym behind) more.within in
    let before : filled ≤ length (drop offset bytes) = is.within in
    record {
      given = more.given ∙ ap (λ l. l ++ take count (drop (offset + filled) bytes)) is.given ∙ ap (λ l. take filled (drop offset bytes) ++ take count l) (sym behind)
          ∙ sym (take-add filled count (drop offset bytes));
      within = omega arith;
    }

-- a read that gives nothing has found the end
pub end_filled : (bytes : List ℕ) (offset : ℕ) (old new : List ℕ) (filled wanted count : ℕ) → count ≡ 0 → filled ≤ wanted → IsFilled bytes offset old filled → ReadsMore bytes (offset + filled) old new filled count
    → take filled new ≡ piece_at bytes offset wanted
end_filled bytes offset old new filled wanted count none inside is more =
    let all : IsFilled bytes offset new (filled + count) = more_filled bytes offset old new filled count is more in
    let behind : drop filled (drop offset bytes) ≡ [] = drop-drop filled offset bytes ∙ more.none none in
    let left : length (drop filled (drop offset bytes)) ≡ length (drop offset bytes) - filled = length-drop filled (drop offset bytes) in
    let nothing : length (drop filled (drop offset bytes)) ≡ 0 = ap length behind in
    let same : filled + count ≡ filled = omega arith in
    subst (λ n. take n new ≡ take n (drop offset bytes)) same all.given
    ∙ take_all filled (drop offset bytes) (omega arith) ∙ sym (take_all wanted (drop offset bytes) (omega arith))

-- what a read into the middle of a buffer gives
pub read_gives : {E : Type 0} (result : Result ℕ E) (bytes : List ℕ) (offset : ℕ) (old middle : List ℕ) (from to : ℕ)
    → IfOk result (λ count. count ≤ length middle) → IfOk result (λ count. Reads bytes offset middle count)
    → from < to → to ≤ length old → length middle ≡ to - from
    → IfOk result (λ count. ReadsMore bytes offset old (put_mid from (to - from) old middle) from count)
read_gives (Err e) bytes offset old middle from to within reads inside fits long = tt
read_gives (Ok count) bytes offset old middle from to within reads inside fits long =
    let front : length (take from old) ≡ from = length-take-le from old (omega arith) in
    let all : take (from + length middle) (put_mid from (to - from) old middle) ≡ take from old ++ middle = take-put_mid from (to - from) old middle (from + length middle) refl (omega arith) in
    record {
      given = sym (take-take (from + count) (from + length middle) (put_mid from (to - from) old middle) (omega arith)) ∙ ap (take (from + count)) all
          ∙ subst (λ n. take (n + count) (take from old ++ middle) ≡ take from old ++ take count middle) front (take-append-add (take from old) middle count)
          ∙ ap (λ l. take from old ++ l) reads.given;
      within = reads.within;
      none = λ is. reads.none is (omega arith);
    }

-- whether there is a byte more
pub longer_by : (bytes buffer : List ℕ) (size count : ℕ) → count ≤ 1 → 0 < length buffer → take count buffer ≡ piece_at bytes size 1 → nat_lt 0 count ≡ nat_lt size (length bytes)
longer_by bytes buffer size count few room is =
    let one : length (take count buffer) ≡ count = length-take-le count buffer (omega arith) in
    let other : length (take 1 (drop size bytes)) ≡ min 1 (length (drop size bytes)) = length-take 1 (drop size bytes) in
    let left : length (drop size bytes) ≡ length bytes - size = length-drop size bytes in
    let same : length (take count buffer) ≡ length (take 1 (drop size bytes)) = ap length is in
    grind (arith, tests, one, other, left, same)
