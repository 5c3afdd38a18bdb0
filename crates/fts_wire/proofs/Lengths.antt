-- The digits of a length, a place at a time.
use Rattle.std.proofs.Common.{◌≡◌, ℕ, ◌+◌, ◌-◌, ◌*◌, ◌<◌, ◌≤◌, ◌⊎◌, inl, inr, true, false, cond, List, [], ◌∷◌, length, take, get_or, Ok, Err, refl, ap, sym, ◌∙◌, arith}
use Rattle.std.specs.Prelude.{nat_le, ◌&&◌}
use Rattle.std.specs.List.{list_all}
use Rattle.std.specs.Char.{is_ascii_digit, digit_value}
use Rattle.std.specs.Str.{all_ascii_digits}
use Rattle.std.specs.Str.Parse.{digits_value}
use Rattle.std.proofs.lemmas.Bool.{and_from, and_parts, and_right, le-leb, leb-true, false_from_ne_true}
use Rattle.std.proofs.lemmas.List.{length-take}
use Rattle.std.proofs.lemmas.List.Folds.{list_all_more, list_all_at}
use Rattle.std.proofs.lemmas.Int.Digits.{digits_value_more}
use Rattle.std.proofs.lemmas.Str.{digit_value_digit}
use Rattle.std.proofs.lemmas.Str.Parse.{IsNumeralModel, numerals_by_value, tells_all_ascii_digits, digits_value_short}
use Rattle.fts_wire.specs.Fields.{is_length, length_of}
use Rattle.fts_wire.specs.declared.fault.WireFault.TheVariants.{BadLength, BodyTooLarge}

all_digits : (ds : List ℕ) → all_ascii_digits ds ≡ list_all is_ascii_digit ds
all_digits [] = refl
all_digits (d ∷ ds) = ap (λ t. is_ascii_digit d && t) (all_digits ds)

-- a digit more
pub digits_more : (value : List ℕ) (i : ℕ) → i < length value → 48 ≤ get_or value i 0 → get_or value i 0 ≤ 57 → all_ascii_digits (take i value) ≡ true
    → all_ascii_digits (take (i + 1) value) ≡ true
digits_more value i h low high so_far =
    all_digits (take (i + 1) value) ∙ list_all_more is_ascii_digit value i 0 h
    ∙ and_from (list_all is_ascii_digit (take i value)) (is_ascii_digit (get_or value i 0)) (sym (all_digits (take i value)) ∙ so_far)
    (and_from (nat_le 48 (get_or value i 0)) (nat_le (get_or value i 0) 57) (le-leb 48 (get_or value i 0) low) (le-leb (get_or value i 0) 57 high))

-- and its value
pub value_more : (value : List ℕ) (i n : ℕ) → i < length value → 48 ≤ get_or value i 0 → get_or value i 0 ≤ 57 → n ≡ digits_value 10 (take i value)
    → n * 10 + (get_or value i 0 - 48) ≡ digits_value 10 (take (i + 1) value)
value_more value i n h low high e =
    let b = get_or value i 0 in
    let same : b - 48 ≡ digit_value b = omega (arith, digit_value_digit b (low, high)) in
    ap (λ m. m * 10 + (b - 48)) e ∙ ap (λ d. digits_value 10 (take i value) * 10 + d) same ∙ sym (digits_value_more 10 value i h)

own : IsNumeralModel (λ ds. all_ascii_digits ds ≡ true) (digits_value 10)
own = numerals_by_value (λ ds. all_ascii_digits ds ≡ true) tells_all_ascii_digits

-- fewer than 19 digits write a number of which ten times fits
pub value_few : (value : List ℕ) (i : ℕ) → i < 19 → all_ascii_digits (take i value) ≡ true → digits_value 10 (take i value) < 1000000000000000000
value_few value i few digits = digits_value_short own (take i value) 18 digits (omega (arith, length-take i value))

-- a byte that is no digit
pub not_length : (value : List ℕ) (i : ℕ) → i < length value → (get_or value i 0 < 48) ⊎ (57 < get_or value i 0) → Err BadLength ≡ length_of value
not_length value i h out =
    let b = get_or value i 0 in
    let none : is_ascii_digit b ≡ false = false_from_ne_true (is_ascii_digit b) (λ e.
    let parts = and_parts (nat_le 48 b) (nat_le b 57) e in elim out [
      | inl low ↦ omega (arith, low, leb-true 48 b parts.0)
      | inr high ↦ omega (arith, high, leb-true b 57 parts.1)
    ]) in
    let fails : all_ascii_digits value ≡ false = all_digits value ∙ list_all_at is_ascii_digit value i 0 h none in
    let no : is_length value ≡ false =
    and_right (nat_le 1 (length value)) (nat_le (length value) 19 && all_ascii_digits value) (and_right (nat_le (length value) 19)
    (all_ascii_digits value) fails) in
    sym (ap (λ t. cond t (cond (nat_le (digits_value 10 value) 1048576) (Ok (digits_value 10 value)) (Err BodyTooLarge)) (Err BadLength)) no)
