-- The next alternative, by place and by row.
use Rattle.std.proofs.Common.{◌≡◌, ℕ, suc, Bool, true, false, cond, List, [], ◌∷◌, length, map, Option, Some, None, refl, ap, sym, ◌∙◌}
use Rattle.std.specs.Prelude.{◌||◌, ◌↔◌, nat_lt, filter, find, position, slice_get, option_and_then, option_map, unwrap_or}
use Rattle.std.specs.List.{position_or_len, list_any}
use Rattle.std.specs.Option.{option_map_or}
use Rattle.std.proofs.lemmas.Bool.{ltb-false}
use Rattle.std.proofs.lemmas.List.Folds.{find_at}
use Rattle.std.proofs.lemmas.Option.{slice_get_past, slice_get-map}
use Rattle.fts_tables.specs.Tables.{is_not_used}
use Rattle.fts_tables.specs.Choice.{least, load}
use Rattle.fts_tables.specs.declared.rows.FileRow.{FileRow}
use Rattle.fts_choice.specs.LeastPlaces.{least_place, is_not_used_at, load_of}
use Rattle.fts_tables.proofs.Positions.{position-cons}
use Rattle.fts_choice.proofs.PlacedItems.{placed_least}

-- what stands at the first place that passes
pub at_position : {Item : Type 0} (test : Item → Bool) (items : List Item) → option_and_then (slice_get items) (position test items) ≡ find test items
at_position test items = by_test (nat_lt (position_or_len test items) (length items)) refl
  where
    by_test : (answer : Bool) → nat_lt (position_or_len test items) (length items) ≡ answer
        → option_and_then (slice_get items) (cond answer (Some (position_or_len test items)) None) ≡ find test items
    by_test true is = sym (find_at test items)
    by_test false is = sym (slice_get_past items (position_or_len test items) (ltb-false _ _ is)) ∙ sym (find_at test items)

-- no place passes exactly where no item does
pub position-none : {Item : Type 0} (test : Item → Bool) (items : List Item) → (position test items ≡ None) ↔ (list_any test items ≡ false)
position-none {Item} test items = (forth items, back items)
  where
    unmapped : (found : Option ℕ) → option_map suc found ≡ None → found ≡ None
    unmapped None is = refl
    unmapped (Some place) is = cc

    forth : (items : List Item) → position test items ≡ None → list_any test items ≡ false
    forth [] none = refl
    forth (item ∷ items) none = by_head (λ behind. forth items behind) (test item) (sym (position-cons test item items) ∙ none)
      where
        by_head : (position test items ≡ None → list_any test items ≡ false) → (answer : Bool) → cond answer (Some 0) (option_map suc (position test items))
            ≡ None → (answer || list_any test items) ≡ false
        by_head behind true none_is = cc
        by_head behind false none_is = behind (unmapped (position test items) none_is)

    back : (items : List Item) → list_any test items ≡ false → position test items ≡ None
    back [] none = refl
    back (item ∷ items) none = position-cons test item items ∙ by_head (λ behind. back items behind) (test item) none
      where
        by_head : (list_any test items ≡ false → position test items ≡ None) → (answer : Bool) → (answer || list_any test items) ≡ false
            → cond answer (Some 0) (option_map suc (position test items)) ≡ None
        by_head behind true none_is = cc
        by_head behind false none_is = ap (option_map suc) (behind none_is)

-- with its loads over all rows, the row of the best place is the machine's next alternative
pub alternative_row : (all rows : List FileRow) (loads : List ℕ) → loads ≡ map (load all) rows
    → option_and_then (slice_get rows) (least_place (is_not_used_at rows) (load_of loads) (length rows))
    ≡ least (λ one other. nat_lt (load all one) (load all other)) (filter (λ row. is_not_used row.state) rows)
alternative_row all rows loads given = placed_least rows (λ (row : FileRow). is_not_used row.state) (load all) (is_not_used_at rows) (load_of loads)
    (λ place row at. ap (λ found. option_map_or (λ (other : FileRow). is_not_used other.state) found false) at)
    (λ place row at. ap (λ numbers. unwrap_or (slice_get numbers place) 0) given
    ∙ (ap (λ found. unwrap_or found 0) (slice_get-map (load all) rows place ∙ ap (option_map (load all)) at)))
