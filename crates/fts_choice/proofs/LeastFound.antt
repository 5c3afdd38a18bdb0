-- The first of the open places than which none counts less, as a loop over places finds it; and the row that stands there.
use Rattle.std.proofs.Common.{◌≡◌, ℕ, zero, suc, ◌+◌, ◌<◌, Bool, true, false, cond, List, [], ◌∷◌, ◌++◌, length, Option, Some, None, refl, ap, sym, ◌∙◌, arith, subst, append-nil, zero-add}
use Rattle.std.specs.Prelude.{◌&&◌, ◌||◌, ◌↔◌, filter, fold, if◌then◌else◌, slice_get, IfSome}
use Rattle.std.specs.List.{list_any, range_with_len}
use Rattle.std.specs.Option.{option_map_or}
use Rattle.std.proofs.lemmas.List.Sums.{fold_push}
use Rattle.fts_tables.specs.Choice.{least}
use Rattle.fts_choice.specs.LeastPlaces.{is_lighter, least_place, is_better}

-- one of two items, and the choice that keeps it
some_of : {Item : Type 0} (answer : Bool) (one other : Item) → Some (cond answer one other) ≡ cond answer (Some one) (Some other)
some_of true one other = refl
some_of false one other = refl

-- the least of one item more
least-push : {Item : Type 0} (is_less : Item → Item → Bool) (items : List Item) (item : Item)
    → least is_less (items ++ item ∷ []) ≡ cond (is_better is_less (least is_less items) item) (Some item) (least is_less items)
least-push is_less [] item = refl
least-push {Item} is_less (first ∷ items) item =
    let choose = λ (best : Item) (item : Item). if is_less item best then item else best in
    ap (λ found. Some found) (fold_push choose first items item) ∙ some_of (is_less item (fold choose first items)) item (fold choose first items)

-- a range of one number more
range-push : (start count : ℕ) → range_with_len start (count + 1) ≡ range_with_len start count ++ (start + count) ∷ []
range-push start zero =
    let first : start ≡ start + 0 = omega arith in
    ap (λ number. number ∷ []) first
range-push start (suc count) =
    let whole : suc count + 1 ≡ suc (count + 1) = omega arith in
    let next : (start + 1) + count ≡ start + suc count = omega arith in
    rw whole (ap (λ numbers. start ∷ numbers) (range-push (start + 1) count ∙ ap (λ number. range_with_len (start + 1) count ++ number ∷ []) next))

-- a filter of one item more
filter-push : {Item : Type 0} (test : Item → Bool) (items : List Item) (item : Item) → filter test (items ++ item ∷ []) ≡ filter test items
    ++ cond (test item) (item ∷ []) []
filter-push test [] item = sym (by_test (test item))
  where
    by_test : (answer : Bool) → cond answer (item ∷ []) [] ≡ cond answer (item ∷ []) []
    by_test answer = refl
filter-push test (first ∷ items) item = by_head (test first) ∙ ap (λ behind. cond (test first) (first ∷ behind) behind) (filter-push test items item)
    ∙ sym (joined (test first))
  where
    by_head : (answer : Bool) → cond answer (first ∷ filter test (items ++ item ∷ [])) (filter test (items ++ item ∷ []))
        ≡ cond answer (first ∷ filter test (items ++ item ∷ [])) (filter test (items ++ item ∷ []))
    by_head answer = refl

    joined : (answer : Bool) → cond answer (first ∷ filter test items) (filter test items) ++ cond (test item) (item ∷ []) []
        ≡ cond answer (first ∷ (filter test items ++ cond (test item) (item ∷ []) [])) (filter test items ++ cond (test item) (item ∷ []) [])
    joined true = refl
    joined false = refl

-- the least of a list and of what a test adds to it
pub least-by_test : {Item : Type 0} (is_less : Item → Item → Bool) (items : List Item) (item : Item) (answer : Bool)
    → least is_less (items ++ cond answer (item ∷ []) []) ≡ cond (answer && is_better is_less (least is_less items) item) (Some item) (least is_less items)
least-by_test is_less items item true = least-push is_less items item
least-by_test is_less items item false = ap (least is_less) (append-nil items)

-- the least place among one place more
pub least_place-more : (is_open : ℕ → Bool) (count : ℕ → ℕ) (place : ℕ)
    → least_place is_open count (place + 1) ≡ cond (is_open place && is_better (is_lighter count) (least_place is_open count place) place) (Some place)
    (least_place is_open count place)
least_place-more is_open count place =
    ap (λ places. least (is_lighter count) (filter is_open places)) (range-push 0 place ∙ ap (λ number. range_with_len 0 place ++ number ∷ []) (zero-add place))
    ∙ (ap (least (is_lighter count)) (filter-push is_open (range_with_len 0 place) place)
    ∙ least-by_test (is_lighter count) (filter is_open (range_with_len 0 place)) place (is_open place))

-- a place that is found stands among those that were looked at
pub least_place-inside : (is_open : ℕ → Bool) (count : ℕ → ℕ) (number : ℕ) → IfSome (least_place is_open count number) (λ place. place < number)
least_place-inside is_open count zero = tt
least_place-inside is_open count (suc number) =
    subst (λ found. IfSome found (λ place. place < suc number)) (sym (at_next ∙ least_place-more is_open count number))
    (by_answer (is_open number && is_better (is_lighter count) (least_place is_open count number) number) (least_place is_open count number)
    (least_place-inside is_open count number))
  where
    at_next : least_place is_open count (suc number) ≡ least_place is_open count (number + 1)
    at_next =
        let next : suc number ≡ number + 1 = omega arith in
        ap (least_place is_open count) next

    by_answer : (answer : Bool) (found : Option ℕ) → IfSome found (λ place. place < number)
        → IfSome (cond answer (Some number) found) (λ place. place < suc number)
    by_answer true found inside = omega arith
    by_answer false None inside = tt
    by_answer false (Some place) inside = omega (arith, inside)

-- one step of a search for the least place, where the place is taken or not
pub least_place-step : (is_open : ℕ → Bool) (count : ℕ → ℕ) (place : ℕ) (best : Option ℕ) (takes is_taken : Bool) → best ≡ least_place is_open count place
    → takes ≡ (is_open place && is_better (is_lighter count) best place) → takes ≡ is_taken
    → cond is_taken (Some place) best ≡ least_place is_open count (place + 1)
least_place-step is_open count place best takes is_taken so_far test taken =
    sym (least_place-more is_open count place
    ∙ (ap (λ found. cond (is_open place && is_better (is_lighter count) found place) (Some place) found) (sym so_far)
    ∙ ap (λ answer. cond answer (Some place) best) (sym test ∙ taken)))

-- the least of a list is none only where the list is empty
least-none : {Item : Type 0} (is_less : Item → Item → Bool) (items : List Item) → least is_less items ≡ None → items ≡ []
least-none is_less [] none = refl
least-none is_less (item ∷ items) none = cc

-- a filter that keeps nothing
filter-none : {Item : Type 0} (test : Item → Bool) (items : List Item) → (filter test items ≡ []) ↔ (list_any test items ≡ false)
filter-none {Item} test items = (forth items, back items)
  where
    forth : (items : List Item) → filter test items ≡ [] → list_any test items ≡ false
    forth [] none = refl
    forth (item ∷ items) none = by_head (λ behind. forth items behind) (test item) none
      where
        by_head : (filter test items ≡ [] → list_any test items ≡ false) → (answer : Bool) → cond answer (item ∷ filter test items) (filter test items) ≡ []
            → (answer || list_any test items) ≡ false
        by_head behind true none = cc
        by_head behind false none = behind none

    back : (items : List Item) → list_any test items ≡ false → filter test items ≡ []
    back [] none = refl
    back (item ∷ items) none = by_head (λ behind. back items behind) (test item) none
      where
        by_head : (list_any test items ≡ false → filter test items ≡ []) → (answer : Bool) → (answer || list_any test items) ≡ false
            → cond answer (item ∷ filter test items) (filter test items) ≡ []
        by_head behind true none = cc
        by_head behind false none = behind none

-- what is open at the places of a list, from a start on, is open in the list
any_at : {Item : Type 0} (test : Item → Bool) (start : ℕ) (items : List Item) (whole : List Item)
    → ((place : ℕ) → slice_get whole (start + place) ≡ slice_get items place)
    → list_any (λ place. option_map_or test (slice_get whole place) false) (range_with_len start (length items)) ≡ list_any test items
any_at test start [] whole at = refl
any_at test start (item ∷ items) whole at =
    ap (λ found. option_map_or test found false || list_any (λ place. option_map_or test (slice_get whole place) false)
    (range_with_len (start + 1) (length items)))
    (ap (slice_get whole) (here start) ∙ at 0)
    ∙ ap (λ behind. test item || behind) (any_at test (start + 1) items whole (λ place. ap (slice_get whole) (there start place) ∙ at (suc place)))
  where
    here : (start : ℕ) → start ≡ start + 0
    here start = omega arith

    there : (start place : ℕ) → (start + 1) + place ≡ start + suc place
    there start place = omega arith

-- none is found exactly where no item of the list is open
pub least_place-none : {Item : Type 0} (test : Item → Bool) (items : List Item) (count : ℕ → ℕ)
    → (least_place (λ place. option_map_or test (slice_get items place) false) count (length items) ≡ None) ↔ (list_any test items ≡ false)
least_place-none test items count = (
  λ none. sym (any_at test 0 items items (λ place. ap (slice_get items) (zero-add place)))
      ∙ (filter-none open_at (range_with_len 0 (length items))).0 (least-none (is_lighter count) _ none),
  λ none. ap (least (is_lighter count))
      ((filter-none open_at (range_with_len 0 (length items))).1 (any_at test 0 items items (λ place. ap (slice_get items) (zero-add place)) ∙ none)),
)
  where
    open_at : ℕ → Bool
    open_at place = option_map_or test (slice_get items place) false
