-- A look at the front of bytes says what they are the beginning of.
use Rattle.std.proofs.Common.{◌≡◌, ◌≢◌, ℕ, zero, suc, ◌+◌, ◌-◌, min, ◌<◌, ◌≤◌, false, List, ◌∷◌, length, take, drop, get_or, None, ap, sym, ◌∙◌, arith, subst, length-drop, length-take}
use Rattle.std.specs.Prelude.{◌==◌, nat_lt, slice_range}
use Rattle.std.specs.List.{concat}
use Rattle.std.proofs.lemmas.Bool.{cond-true, cond-false, lt-ltb, le-ltb, eq-eqb, ne_eqb}
use Rattle.std.proofs.lemmas.List.{take_min, take-take, drop-take, take_rest, drop_more, length-take-le}
use Rattle.std.proofs.lemmas.List.Sums.{prefix_len_stops}
use Rattle.httparse.specs.Pieces.{is_newline, Stops}
use Rattle.fts_wire.specs.Head.{lines_of, head_lines, head_of}
use Rattle.fts_wire.specs.Lines.{EndsAt}
use Rattle.fts_wire.specs.Parsed.{BeginsHead}
use Rattle.fts_wire.specs.Look.{Short, Refused, Headed, blanks, sight_head, sight_by, sight_of, sight_in, head_bytes, head_in, IsSpanned, Sees, SeesIn}
use Rattle.fts_wire.specs.declared.fault.WireFault.TheVariants.{HeadTooLarge}
use Rattle.fts_wire.specs.declared.lines.HeadEnd.{HeadEnd}
use Rattle.fts_wire.specs.declared.look.Look.{Look}
use Rattle.fts_wire.specs.declared.look.Look.TheVariants.{Short as LookShort, Refused as LookRefused, Found}
use Rattle.fts_wire.proofs.Feeds.{head_back}

-- the front of bytes, which a look reads, and what stands in it before a head
pub record IsFront (bytes few : List ℕ) (before : ℕ) : Type 0 where
  pub few_is : few ≡ take 16384 bytes
  pub before_is : before ≡ blanks few

pub front_is : (bytes : List ℕ) (n before : ℕ) → n ≡ min (length bytes) 16384 → before ≡ blanks (take n bytes) → IsFront bytes (take n bytes) before
front_is bytes n before min_is before_is = record {
  few_is = ap (λ m. take m bytes) {x = n} {y = min 16384 (length bytes)} (omega (arith, min_is)) ∙ take_min 16384 bytes;
  before_is = before_is;
}

-- what is behind it
pub rest_is : (few : List ℕ) (before : ℕ) → slice_range few before (length few) ≡ drop before few
rest_is few before = take_rest few before

sight_is : (bytes few : List ℕ) (before : ℕ) → IsFront bytes few before
    → sight_of bytes ≡ sight_by before (length few) (head_lines (lines_of (drop before few)))
sight_is bytes few before f =
    ap sight_in (sym f.few_is) ∙ ap (λ n. sight_by n (length few) (head_lines (lines_of (drop n few)))) (sym f.before_is)

-- no empty line
pub sees_too_large : (bytes few : List ℕ) (before : ℕ) → IsFront bytes few before → head_lines (lines_of (drop before few)) ≡ None → length few ≡ 16384
    → sight_of bytes ≡ Refused HeadTooLarge
sees_too_large bytes few before f none full =
    sight_is bytes few before f ∙ ap (sight_by before (length few)) none
    ∙ cond-true (length few == 16384) (Refused HeadTooLarge) Short (eq-eqb (length few) 16384 full)

pub sees_short : (bytes few : List ℕ) (before : ℕ) → IsFront bytes few before → head_lines (lines_of (drop before few)) ≡ None → length few ≢ 16384
    → sight_of bytes ≡ Short
sees_short bytes few before f none full =
    sight_is bytes few before f ∙ ap (sight_by before (length few)) none
    ∙ cond-false (length few == 16384) (Refused HeadTooLarge) Short (ne_eqb (length few) 16384 full)

-- too many lines
pub sees_many : (bytes few : List ℕ) (before : ℕ) (end : HeadEnd) → IsFront bytes few before → EndsAt (drop before few) end → 66 < end.lines
    → sight_of bytes ≡ Refused HeadTooLarge
sees_many bytes few before end f ends many =
    sight_is bytes few before f ∙ ap (sight_by before (length few)) ends.head
    ∙ cond-true (nat_lt 66 (length ends.lines)) (Refused HeadTooLarge) (sight_head before (length (concat ends.lines)) (head_of ends.lines))
    (lt-ltb 66 (length ends.lines) (omega (arith, ends.count, many)))

first_stops : (few : List ℕ) (n : ℕ) → 0 < n → n ≤ length (drop (blanks few) few) → Stops is_newline (take n (drop (blanks few) few))
first_stops few n some within =
    let here : blanks few < length few = omega (arith, some, within, length-drop (blanks few) few) in
    let rest = drop (blanks few + 1) few in
    stops n rest (get_or few (blanks few) 0) (drop (blanks few) few) (drop_more few (blanks few) 0 here) some (prefix_len_stops is_newline few 0 here)
  where
    stops : (n : ℕ) (rest : List ℕ) (b : ℕ) (xs : List ℕ) → xs ≡ b ∷ rest → 0 < n → is_newline b ≡ false → Stops is_newline (take n xs)
    stops zero rest b xs e some other = absurd (omega (arith, some))
    stops (suc n) rest b xs e some other = subst (λ ys. Stops is_newline (take (suc n) ys)) (sym e) other

-- the lines of a head's own bytes
own_lines : (rest : List ℕ) (end : HeadEnd) → (ends : EndsAt rest end) → lines_of (take end.size rest) ≡ ends.lines
own_lines rest end ends = ap lines_of (sym ends.own) ∙ head_back rest ends.lines ends.head

-- they begin a head
pub begins : (bytes few : List ℕ) (before : ℕ) (end : HeadEnd) → IsFront bytes few before → EndsAt (drop before few) end → end.lines ≤ 66
    → BeginsHead (take end.size (drop before few))
begins bytes few before end f ends many = record {
  first = subst (λ n. Stops is_newline (take end.size (drop n few))) (sym f.before_is)
      (first_stops few end.size ends.some (subst (λ n. end.size ≤ length (drop n few)) f.before_is ends.within));
  lines = ap concat (own_lines (drop before few) end ends) ∙ ends.own;
  few = omega (arith, ap length (own_lines (drop before few) end ends), ends.count, many);
}

own_sight : (bytes few : List ℕ) (before : ℕ) (end : HeadEnd) → IsFront bytes few before → EndsAt (drop before few) end → end.lines ≤ 66
    → (own : List ℕ) → own ≡ take end.size (drop before few) → sight_of bytes ≡ sight_head before (length own) (head_of (lines_of own))
own_sight bytes few before end f ends many own is =
    let lines : ends.lines ≡ lines_of own = sym (own_lines (drop before few) end ends) ∙ ap lines_of (sym is) in
    sight_is bytes few before f ∙ ap (sight_by before (length few)) ends.head
    ∙ cond-false (nat_lt 66 (length ends.lines)) (Refused HeadTooLarge) (sight_head before (length (concat ends.lines)) (head_of ends.lines))
    (le-ltb 66 (length ends.lines) (omega (arith, ends.count, many)))
    ∙ ap (λ xs. sight_head before (length xs) (head_of ends.lines)) (ends.own ∙ sym is) ∙ ap (λ ls. sight_head before (length own) (head_of ls)) lines

-- a part of the front is a part of the bytes
front_part : (bytes few : List ℕ) (before size : ℕ) → few ≡ take 16384 bytes → before + size ≤ length few
    → take size (drop before few) ≡ take size (drop before bytes)
front_part bytes few before size is within =
    let long : length few ≡ min 16384 (length bytes) = ap length is ∙ length-take 16384 bytes in
    let m = 16384 - before in
    let sum : 16384 ≡ before + m = omega (arith, long, within) in
    ap (λ xs. take size (drop before xs)) (is ∙ ap (λ n. take n bytes) sum) ∙ ap (take size) (drop-take before m bytes)
    ∙ take-take size m (drop before bytes) (omega (arith, long, within))

-- and what a look at them says is what is to be seen
pub sees_own : (bytes few : List ℕ) (before : ℕ) (end : HeadEnd) → IsFront bytes few before → EndsAt (drop before few) end → end.lines ≤ 66
    → (own : List ℕ) → own ≡ take end.size (drop before few)
    → (look : Look) → SeesIn own before (sight_head before (length own) (head_of (lines_of own))) look → Sees bytes look
sees_own bytes few before end f ends many own is LookShort h = own_sight bytes few before end f ends many own is ∙ h
sees_own bytes few before end f ends many own is (LookRefused fault) h = own_sight bytes few before end f ends many own is ∙ h
sees_own bytes few before end f ends many own is (Found head) h =
    let long : length own ≡ end.size = ap length is ∙ length-take-le end.size (drop before few) ends.within in
    let within : before + end.size ≤ length few = omega (arith, ends.within, ends.some, length-drop before few) in
    let size : head.size ≡ end.size = omega (arith, h.size_is, long) in
    let same : own ≡ head_bytes bytes head =
    is ∙ front_part bytes few before end.size f.few_is within ∙ ap (λ n. take end.size (drop n bytes)) (sym h.before_is)
    ∙ ap (λ n. take n (drop head.before bytes)) (sym size) in record {
      sight = own_sight bytes few before end f ends many own is ∙ h.sight_is ∙ ap (λ xs. Headed (head_in xs head)) same;
      within = omega (arith, h.before_is, size, within, ap length f.few_is, length-take 16384 bytes);
      spans = subst (λ xs. IsSpanned xs head) same h.spans;
    }
