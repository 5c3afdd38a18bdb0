-- What was passed, with one body more, and what stands behind it.
use Rattle.std.proofs.Common.{◌≡◌, refl, ap, sym, ◌∙◌, subst, ℕ, ◌+◌, ◌-◌, ◌≤◌, ◌<◌, Bool, true, false, IsSome, List, [], ◌∷◌, ◌++◌, length, take, drop, append_assoc, length-append, length-drop, take-append-drop, arith}
use Rattle.std.proofs.Math.Seq.{take-add}
use Rattle.std.proofs.lemmas.List.{append-nil}
use Rattle.std.proofs.lemmas.List.Elements.{All-nil, All-push}
use Rattle.std.specs.List.{flat_map}
use Rattle.fts_disk.specs.Disk.{DiskState, IsTold}
use Rattle.fts_journal.specs.Format.{header, size_bytes, block, front, used_by, IsBody, Stands}
use Rattle.fts_journal.specs.Loading.{IsCut, IsCutOff, IsShut}
use Rattle.fts_tables.specs.declared.limits.TheConstants.{JOURNAL_END}
use Rattle.fts_tail.specs.Tail.{HasPassed, IsNext, IsNextIn, IsTail, StandsBefore, next_in, bodies_with}

-- the blocks of one body more
blocks_more : (bodies : List (List ℕ)) (body : List ℕ) → flat_map block (bodies ++ body ∷ []) ≡ flat_map block bodies ++ block body
blocks_more [] body = append-nil (block body)
blocks_more (first ∷ bodies) body = ap (λ (l : List ℕ). block first ++ l) (blocks_more bodies body)
    ∙ sym (append_assoc (block first) (flat_map block bodies) (block body))

-- what stands before the gate behind one body more
pub front_more : (bodies : List (List ℕ)) (body : List ℕ) → front (bodies ++ body ∷ []) ≡ front bodies ++ block body
front_more bodies body = ap (λ (l : List ℕ). header ++ l) (blocks_more bodies body) ∙ sym (append_assoc header (flat_map block bodies) (block body))

-- a block is its body and five bytes
pub block_long : (body : List ℕ) → length (block body) ≡ 5 + length body
block_long body = omega (arith, length-append (size_bytes (length body)) body, sized body)
  where
    sized : (b : List ℕ) → length (size_bytes (length b)) ≡ 4
    sized b = refl

-- the offset of that gate
pub used_more : (bodies : List (List ℕ)) (body : List ℕ) → used_by (bodies ++ body ∷ []) ≡ used_by bodies + 5 + length body
used_more bodies body = omega (arith, ap length (front_more bodies body), length-append (front bodies) (block body), block_long body)

module _ (disk : DiskState) (used : ℕ) (bodies : List (List ℕ)) (passed : HasPassed disk used bodies) where
  -- one body more is passed
  pub passed_more : (body : List ℕ) → IsNext disk used body → HasPassed disk (used + 5 + length body) (bodies ++ body ∷ [])
  passed_more body next = record {
    end = omega (arith, passed.end, used_more bodies body);
    each = All-push IsBody bodies body passed.each next.is;
    fits = next.room;
    begins = λ told.
        let parts : used + 5 + length body ≡ used + (5 + length body) = omega arith in
        ap (λ (n : ℕ). take n disk.seen) parts
        ∙ take-add used (5 + length body) disk.seen
        ∙ (λ i. passed.begins told i ++ next.stands told i)
        ∙ sym (front_more bodies body);
  }

  -- the same bodies are passed of a disk that reads the same
  pub passed_same : (other : DiskState) → other.told ≡ disk.told → (IsTold disk → other.seen ≡ disk.seen) → HasPassed other used bodies
  passed_same other told seen = record {
    end = passed.end;
    each = passed.each;
    fits = passed.fits;
    begins = λ now. ap (λ (l : List ℕ). take used l) (seen (sym told ∙ now)) ∙ passed.begins (sym told ∙ now);
  }

  module _ (told : IsTold disk) where
    -- what was passed, and the rest
    parts : disk.seen ≡ front bodies ++ drop used disk.seen
    parts = sym (take-append-drop used disk.seen) ∙ ap (λ (l : List ℕ). l ++ drop used disk.seen) (passed.begins told)

    -- behind a gate that isn't open there is no body more
    pub ends_here : IsShut (drop used disk.seen) → Stands disk.seen bodies
    ends_here shut = record {
      closed = record { gate = shut.gate; rest = shut.tail; is = parts ∙ ap (λ (l : List ℕ). front bodies ++ l) shut.is; closed = shut.closed };
      each = passed.each;
      fits = subst (λ (n : ℕ). n < JOURNAL_END) passed.end passed.fits;
    }

    -- the bytes are cut at a gate that isn't good
    pub cut_there : 9 ≤ length disk.seen → IsCutOff used (drop used disk.seen) → IsCut disk.seen used
    cut_there long cut = record {
      long = long;
      bodies = bodies;
      rest = drop used disk.seen;
      is = parts;
      each = passed.each;
      at = passed.end;
      fits = passed.fits;
      cut = cut;
    }

-- bytes that end at an offset stand before it
before_at : (content bytes last : List ℕ) (start used : ℕ) → last ≡ bytes → bytes ≡ take (length bytes) (drop start content) → start + length bytes ≡ used
    → StandsBefore content used last
before_at content bytes last start used same is end =
    let long : length last ≡ length bytes = ap length same in
    let back : used - length last ≡ start = omega (arith, long, end) in
    same ∙ is ∙ ap (λ (n : ℕ). take n (drop start content)) (sym long) ∙ ap (λ (n : ℕ). take (length last) (drop n content)) (sym back)

-- where there is a body a look has found it
pub ready_of : (ready : Bool) (bytes : List ℕ) → IsSome (next_in ready bytes) → ready ≡ true
ready_of true bytes some = refl
ready_of false bytes some = absurd cc

-- a tail behind a header
pub tail_begun : (disk : DiskState) (known : ℕ) (last bytes : List ℕ) → (IsTold disk → 9 ≤ length disk.seen) → (IsTold disk → known ≤ length disk.seen)
    → last ≡ header → (IsTold disk → take 8 disk.seen ≡ header) → IsTail disk 8 known last bytes false
tail_begun disk known last bytes long there is stands = record {
  passed = ([], record { end = refl; each = All-nil IsBody; fits = omega arith; begins = stands });
  behind = omega (arith, eight);
  some = long;
  there = there;
  before = λ told. before_at disk.seen header last 0 8 is (sym (stands told)) refl;
  long = λ ready. absurd cc;
  stands = λ ready told. absurd cc;
  next = tt;
}
  where
    eight : length last ≡ 8
    eight = ap length is

-- the bodies with the one that was found
pub passed_with : (disk : DiskState) (used : ℕ) (bytes : List ℕ) (ready : Bool) (bodies : List (List ℕ)) → ready ≡ true → 6 ≤ length bytes
    → IsNextIn disk used (next_in ready bytes) → HasPassed disk used bodies
    → HasPassed disk (used + length bytes) (bodies_with bodies (next_in ready bytes))
passed_with disk used bytes false bodies is long next passed = absurd cc
passed_with disk used bytes true bodies is long next passed =
    let size : used + 5 + length (drop 5 bytes) ≡ used + length bytes = omega (arith, long, length-drop 5 bytes) in
    subst (λ n. HasPassed disk n (bodies ++ drop 5 bytes ∷ [])) size (passed_more disk used bodies passed (drop 5 bytes) next)

-- a tail behind that body
pub tail_passed : (disk : DiskState) (used known : ℕ) (last bytes new_last new_bytes : List ℕ) (ready : Bool) → IsTail disk used known last bytes ready
    → ready ≡ true → new_last ≡ bytes → IsTail disk (used + length bytes) known new_last new_bytes false
tail_passed disk used known last bytes new_last new_bytes ready tail is same = record {
  passed = (bodies_with tail.passed.0 (next_in ready bytes), passed_with disk used bytes ready tail.passed.0 is (tail.long is) tail.next tail.passed.1);
  behind = omega (arith, ap length same);
  some = tail.some;
  there = tail.there;
  before = λ told. before_at disk.seen bytes new_last used (used + length bytes) same (tail.stands is told) refl;
  long = λ now. absurd cc;
  stands = λ now told. absurd cc;
  next = tt;
}
