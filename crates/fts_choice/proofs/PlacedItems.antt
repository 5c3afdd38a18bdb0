-- The item at the least place is the least item.
use Rattle.std.proofs.Common.{◌≡◌, ℕ, zero, suc, ◌+◌, ◌<◌, ◌≤◌, Bool, true, false, cond, List, [], ◌∷◌, ◌++◌, length, get_or, take, Option, Some, None, refl, ap, sym, ◌∙◌, arith, subst, inl, inr}
use Rattle.std.specs.Prelude.{◌&&◌, nat_lt, filter, slice_get, option_and_then, IfSome}
use Rattle.std.proofs.lemmas.List.{take_all}
use Rattle.std.proofs.lemmas.List.Elements.{filter_more}
use Rattle.std.proofs.lemmas.Option.{slice_get_cases}
use Rattle.fts_tables.specs.Choice.{least}
use Rattle.fts_choice.specs.LeastPlaces.{is_lighter, least_place, is_better}
use Rattle.fts_choice.proofs.LeastFound.{least-by_test, least_place-more, least_place-inside}

-- the best place, as one below a greater bound
below : (best : Option ℕ) (number bound : ℕ) → number ≤ bound → IfSome best (λ place. place < number) → IfSome best (λ place. place < bound)
below None number bound less inside = tt
below (Some place) number bound less inside = omega (arith, inside)

-- items, with a test and a count of each, and places that are open and counted alike
module _ {Item : Type 0} (items : List Item) (test : Item → Bool) (count : Item → ℕ) (is_open : ℕ → Bool) (count_at : ℕ → ℕ)
    (opened : (place : ℕ) (item : Item) → slice_get items place ≡ Some item → is_open place ≡ test item)
    (counted : (place : ℕ) (item : Item) → slice_get items place ≡ Some item → count_at place ≡ count item) where
  -- an item counts less than another
  abbrev has_less : Item → Item → Bool
  has_less one other = nat_lt (count one) (count other)

  -- a place goes before the best exactly where its item does
  better_alike : (place : ℕ) (item : Item) → slice_get items place ≡ Some item → (best : Option ℕ) → IfSome best (λ other. other < length items)
      → is_better (is_lighter count_at) best place ≡ is_better has_less (option_and_then (slice_get items) best) item
  better_alike place item at None inside = refl
  better_alike place item at (Some best) inside = elim (slice_get_cases items best).1 [
    | inl found ↦ ap (λ number. nat_lt number (count_at best)) (counted place item at)
        ∙ (ap (nat_lt (count item)) (counted best found.0 found.2) ∙ ap (λ other. is_better has_less other item) (sym found.2))
    | inr past ↦ absurd (omega (arith, past.0, inside))
  ]

  -- the choice of a place is that of its item
  item_of_choice : (answer : Bool) (place : ℕ) (item : Item) (best : Option ℕ) → slice_get items place ≡ Some item
      → option_and_then (slice_get items) (cond answer (Some place) best) ≡ cond answer (Some item) (option_and_then (slice_get items) best)
  item_of_choice true place item best at = at
  item_of_choice false place item best at = refl

  -- one item more
  one_more : (place : ℕ) (item : Item) → place < length items → slice_get items place ≡ Some item → get_or items place item ≡ item
      → option_and_then (slice_get items) (least_place is_open count_at place) ≡ least has_less (filter test (take place items))
      → option_and_then (slice_get items) (least_place is_open count_at (place + 1)) ≡ least has_less (filter test (take (place + 1) items))
  one_more place item inside at here so_far =
      let best = least_place is_open count_at place in
      let best_item = option_and_then (slice_get items) best in
      let better : is_better (is_lighter count_at) best place ≡ is_better has_less best_item item =
      better_alike place item at best (below best place (length items) (omega arith) (least_place-inside is_open count_at place)) in
      let grown : filter test (take (place + 1) items) ≡ filter test (take place items) ++ cond (test item) (item ∷ []) [] =
      filter_more test items place item inside ∙ ap (λ other. filter test (take place items) ++ cond (test other) (other ∷ []) []) here in
      ap (option_and_then (slice_get items)) (least_place-more is_open count_at place)
      ∙ (item_of_choice (is_open place && is_better (is_lighter count_at) best place) place item best at
      ∙ (ap (λ answer. cond (answer && is_better (is_lighter count_at) best place) (Some item) best_item) (opened place item at)
      ∙ (ap (λ answer. cond (test item && answer) (Some item) best_item) better
      ∙ (ap (λ found. cond (test item && is_better has_less found item) (Some item) found) so_far
      ∙ sym (ap (least has_less) grown ∙ least-by_test has_less (filter test (take place items)) item (test item))))))

  -- after so many places the item of the best place is the best of so many items
  items_so_far : (place : ℕ) → place ≤ length items
      → option_and_then (slice_get items) (least_place is_open count_at place) ≡ least has_less (filter test (take place items))
  items_so_far zero inside = refl
  items_so_far (suc place) inside = elim (slice_get_cases items place).1 [
    | inl found ↦
        let next : suc place ≡ place + 1 = omega arith in
        let before = items_so_far place (omega arith) in
        subst (λ number. option_and_then (slice_get items) (least_place is_open count_at number) ≡ least has_less (filter test (take number items))) (sym next)
        (one_more place found.0 found.1 found.2 found.3 before)
    | inr past ↦ absurd (omega (arith, past.0))
  ]

  -- after all places it is the best of all
  pub placed_least : option_and_then (slice_get items) (least_place is_open count_at (length items)) ≡ least has_less (filter test items)
  placed_least = items_so_far (length items) (omega arith) ∙ ap (λ some. least has_less (filter test some)) (take_all (length items) items (omega arith))
