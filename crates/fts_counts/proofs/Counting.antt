-- Counts over a part of a list, and over what is read of it.
use Rattle.std.proofs.Common.{◌≡◌, ◌+◌, Bool, true, false, cond, List, [], ◌∷◌, refl, ap, sym, ◌∙◌}
use Rattle.std.specs.Prelude.{◌&&◌, map, filter, count_by}
use Rattle.std.proofs.Math.Nat.{zero-add}
use Rattle.std.proofs.lemmas.List.Sums.{sum_by-cons}

module _ {Item : Type 0} where
  -- what is counted of an item and of those behind it
  count_cons : (test : Item → Bool) (item : Item) (items : List Item) → count_by test (item ∷ items) ≡ cond (test item) 1 0 + count_by test items
  count_cons test item items = sum_by-cons (λ item. cond (test item) 1 0) item items

  -- what passes both tests is found among what passes the first
  pub count_among : (first test : Item → Bool) (items : List Item)
      → count_by (λ item. first item && test item) (filter first items) ≡ count_by (λ item. first item && test item) items
  count_among first test [] = refl
  count_among first test (item ∷ items) =
      by_test (first item) refl (count_among first test items) ∙ sym (count_cons (λ item. first item && test item) item items)
    where
      both : Item → Bool
      both item = first item && test item

      by_test : (answer : Bool) → first item ≡ answer → count_by both (filter first items) ≡ count_by both items
          → count_by both (cond answer (item ∷ filter first items) (filter first items)) ≡ cond (first item && test item) 1 0 + count_by both items
      by_test true is behind = count_cons both item (filter first items) ∙ ap (λ count. cond (first item && test item) 1 0 + count) behind
      by_test false is behind = behind ∙ sym (zero-add (count_by both items)) ∙ sym (ap (λ answer. cond (answer && test item) 1 0 + count_by both items) is)

module _ {Item Read : Type 0} (read : Item → Read) (test : Read → Bool) where
  -- what is read of the items, and counted
  pub count_read : (items : List Item) → count_by test (map read items) ≡ count_by (λ item. test (read item)) items
  count_read [] = refl
  count_read (item ∷ items) =
      count_cons test (read item) (map read items)
      ∙ ap (λ count. cond (test (read item)) 1 0 + count) (count_read items)
      ∙ sym (count_cons (λ item. test (read item)) item items)

  -- what is read of those that pass, and counted
  pub count_read_among : (passes : Item → Bool) (items : List Item)
      → count_by test (map read (filter passes items)) ≡ count_by (λ item. test (read item) && passes item) items
  count_read_among passes [] = refl
  count_read_among passes (item ∷ items) =
      by_tests (passes item) (count_read_among passes items) ∙ sym (count_cons (λ item. test (read item) && passes item) item items)
    where
      both : Item → Bool
      both item = test (read item) && passes item

      and_true : (answer : Bool) → (answer && true) ≡ answer
      and_true true = refl
      and_true false = refl

      and_false : (answer : Bool) → (answer && false) ≡ false
      and_false true = refl
      and_false false = refl

      by_tests : (answer : Bool) → count_by test (map read (filter passes items)) ≡ count_by both items
          → count_by test (map read (cond answer (item ∷ filter passes items) (filter passes items))) ≡ cond (test (read item) && answer) 1 0 + count_by both items
      by_tests true behind =
          count_cons test (read item) (map read (filter passes items))
          ∙ ap (λ count. cond (test (read item)) 1 0 + count) behind
          ∙ sym (ap (λ answer. cond answer 1 0 + count_by both items) (and_true (test (read item))))
      by_tests false behind = behind ∙ sym (zero-add (count_by both items)) ∙ sym (ap (λ answer. cond answer 1 0 + count_by both items) (and_false (test (read item))))
