-- In a list that is numbered from 1, those above a number stand behind it, and those below it before.
use Rattle.std.proofs.Common.{◌≡◌, ℕ, zero, suc, ◌-◌, min, Bool, true, false, cond, List, [], ◌∷◌, length, take, drop, refl, sym, ◌∙◌, ap, arith}
use Rattle.std.specs.Prelude.{nat_lt, filter}
use Rattle.std.specs.List.{slice_range}
use Rattle.std.proofs.lemmas.Bool.{ltb-true, ltb-false}
use Rattle.std.proofs.lemmas.List.{take_rest, take_min}
use Rattle.std.proofs.Math.Seq.{take-length}
use Rattle.fts_tables.specs.Tables.{AreNumberedFrom}

-- nothing is behind what is empty
drop-nil : {A : Type 0} (count : ℕ) → drop {A = A} count [] ≡ []
drop-nil zero = refl
drop-nil (suc count) = refl

take-nil : {A : Type 0} (count : ℕ) → take {A = A} count [] ≡ []
take-nil zero = refl
take-nil (suc count) = refl

-- behind the end of a list is nothing, however far
drop_min : {A : Type 0} (count : ℕ) (items : List A) → drop (min (length items) count) items ≡ drop count items
drop_min count [] = drop-nil (min 0 count) ∙ sym (drop-nil count)
drop_min zero (item ∷ items) = let none : min (length (item ∷ items)) 0 ≡ 0 = omega arith in rw none refl
drop_min (suc count) (item ∷ items) = let more : min (length (item ∷ items)) (suc count) ≡ suc (min (length items) count) = omega arith in
    rw more (drop_min count items)

-- each item passes a test that all pass
filter_all : {A : Type 0} (items : List A) → filter (λ item. true) items ≡ items
filter_all [] = refl
filter_all (item ∷ items) = ap (λ rest. item ∷ rest) (filter_all items)

-- all, as a range
pub range_all : {A : Type 0} (last : ℕ) (items : List A) → last ≡ length items → slice_range items 0 last ≡ filter (λ item. true) items
range_all last items all =
    let same : last - 0 ≡ length items = omega arith in
    ap (λ (count : ℕ). take count items) same ∙ take-length items ∙ sym (filter_all items)

module _ {Item : Type 0} (number_of : Item → ℕ) where
  -- those above a number
  above : (start number : ℕ) (items : List Item) → AreNumberedFrom number_of start items
      → filter (λ item. nat_lt number (number_of item)) items ≡ drop (suc number - start) items
  above start number [] numbered = sym (drop-nil (suc number - start))
  above start number (item ∷ items) numbered = by_test (nat_lt number (number_of item)) refl (above (suc start) number items numbered.1)
    where
      by_test : (answer : Bool) → nat_lt number (number_of item) ≡ answer
          → filter (λ item. nat_lt number (number_of item)) items ≡ drop (suc number - suc start) items
          → cond answer (item ∷ filter (λ item. nat_lt number (number_of item)) items) (filter (λ item. nat_lt number (number_of item)) items)
          ≡ drop (suc number - start) (item ∷ items)
      by_test true less rest =
          let none : suc number - start ≡ 0 = omega (arith, ltb-true number (number_of item) less, numbered.0) in
          let later : suc number - suc start ≡ 0 = omega arith in
          rw none (ap (λ (behind : List Item). item ∷ behind) (rw later at rest))
      by_test false other rest =
          let one : suc number - start ≡ suc (number - start) = omega (arith, ltb-false number (number_of item) other, numbered.0) in
          let later : suc number - suc start ≡ number - start = omega arith in
          rw one (rw later at rest)

  -- those below a number
  below : (start number : ℕ) (items : List Item) → AreNumberedFrom number_of start items
      → filter (λ item. nat_lt (number_of item) number) items ≡ take (number - start) items
  below start number [] numbered = sym (take-nil (number - start))
  below start number (item ∷ items) numbered = by_test (nat_lt (number_of item) number) refl (below (suc start) number items numbered.1)
    where
      by_test : (answer : Bool) → nat_lt (number_of item) number ≡ answer
          → filter (λ item. nat_lt (number_of item) number) items ≡ take (number - suc start) items
          → cond answer (item ∷ filter (λ item. nat_lt (number_of item) number) items) (filter (λ item. nat_lt (number_of item) number) items)
          ≡ take (number - start) (item ∷ items)
      by_test true less rest =
          let one : number - start ≡ suc (number - suc start) = omega (arith, ltb-true (number_of item) number less, numbered.0) in
          rw one (ap (λ (front : List Item). item ∷ front) rest)
      by_test false other rest =
          let none : number - start ≡ 0 = omega (arith, ltb-false (number_of item) number other, numbered.0) in
          let later : number - suc start ≡ 0 = omega arith in
          rw none (rw later at rest)

  -- as a range: those above a number, in a list of so many
  pub range_above : (number first last : ℕ) (items : List Item) → AreNumberedFrom number_of 1 items → last ≡ length items → first ≡ min (length items) number
      → slice_range items first last ≡ filter (λ item. nat_lt number (number_of item)) items
  range_above number first last items numbered all from =
      let same : suc number - 1 ≡ number = omega arith in
      ap (λ (count : ℕ). take (count - first) (drop first items)) all ∙ take_rest items first
      ∙ ap (λ (count : ℕ). drop count items) from ∙ drop_min number items ∙ sym (rw same at (above 1 number items numbered))

  -- those below a number
  pub range_below : (number last : ℕ) (items : List Item) → AreNumberedFrom number_of 1 items → last ≡ min (length items) (number - 1)
      → slice_range items 0 last ≡ filter (λ item. nat_lt (number_of item) number) items
  range_below number last items numbered to =
      let same : last - 0 ≡ min (number - 1) (length items) = omega arith in
      ap (λ (count : ℕ). take count items) same ∙ take_min (number - 1) items ∙ sym (below 1 number items numbered)
