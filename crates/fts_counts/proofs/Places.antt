-- The places of names among endpoints, and numbers that are made of two places.
use Rattle.std.proofs.Common.{◌≡◌, ℕ, zero, suc, ◌+◌, ◌*◌, ◌<◌, ◌≤◌, Bool, true, false, cond, List, [], ◌∷◌, length, get_or, Some, None, refl, ap, sym, ◌∙◌, arith}
use Rattle.std.specs.Prelude.{not, ◌&&◌, ◌||◌, ◌==◌, bytes_eq, nat_lt, position, unwrap_or}
use Rattle.std.specs.List.{position_or_len}
use Rattle.std.proofs.lemmas.Bool.{ltb-false, ne_eqb, eq-eqb, eqb-true, eqb-false, or_left, or_right}
use Rattle.std.proofs.lemmas.Bool.Decides.{same_from_decides, Decides-eqb, Decides-like}
use Rattle.std.proofs.lemmas.Nat.{same_from_place}
use Rattle.std.proofs.lemmas.Slice.Eq.{bytes_eq-Decides}
use Rattle.fts_tables.specs.SettingsData.{is_listed}
use Rattle.fts_tables.specs.declared.settings.Endpoint.{Endpoint}
use Rattle.fts_counts.specs.Listed.{place_among}

-- a place is within the list, or their number
pub place_within : {Item : Type 0} (test : Item → Bool) (items : List Item) → position_or_len test items ≤ length items
place_within test [] = omega arith
place_within test (item ∷ items) = by_head (test item) (place_within test items)
  where
    by_head : (answer : Bool) → position_or_len test items ≤ length items → cond (not answer) (1 + position_or_len test items) 0 ≤ length (item ∷ items)
    by_head true behind = omega arith
    by_head false behind = omega arith

-- the place of the first that passes, and their number where none does
pub place_or_number : {Item : Type 0} (test : Item → Bool) (items : List Item) → unwrap_or (position test items) (length items) ≡ position_or_len test items
place_or_number test items = by_test (nat_lt (position_or_len test items) (length items)) refl
  where
    by_test : (answer : Bool) → nat_lt (position_or_len test items) (length items) ≡ answer
        → unwrap_or (cond answer (Some (position_or_len test items)) None) (length items) ≡ position_or_len test items
    by_test true is = refl
    by_test false is = omega (arith, place_within test items, ltb-false (position_or_len test items) (length items) is)

-- a name has the place of a listed one only where it is that one
placed_alike : (endpoints : List Endpoint) (other name : List ℕ) → is_listed endpoints name ≡ true
    → place_among endpoints other ≡ place_among endpoints name → other ≡ name
placed_alike [] other name listed alike = cc
placed_alike (first ∷ endpoints) other name listed alike =
    by_head (bytes_eq first.name other) refl (bytes_eq first.name name) refl listed alike (placed_alike endpoints other name)
  where
    by_head : (at_other : Bool) → bytes_eq first.name other ≡ at_other → (at_name : Bool) → bytes_eq first.name name ≡ at_name
        → (at_name || is_listed endpoints name) ≡ true
        → cond (not at_other) (1 + place_among endpoints other) 0 ≡ cond (not at_name) (1 + place_among endpoints name) 0
        → (is_listed endpoints name ≡ true → place_among endpoints other ≡ place_among endpoints name → other ≡ name) → other ≡ name
    by_head true other_is true name_is listed alike behind = sym ((bytes_eq-Decides first.name other).0 other_is) ∙ (bytes_eq-Decides first.name name).0 name_is
    by_head true other_is false name_is listed alike behind = absurd (omega arith)
    by_head false other_is true name_is listed alike behind = absurd (omega arith)
    by_head false other_is false name_is listed alike behind = behind listed (omega arith)

-- an endpoint that stands in the list is listed
pub listed_at : (endpoints : List Endpoint) (place : ℕ) (endpoint : Endpoint) → place < length endpoints → get_or endpoints place endpoint ≡ endpoint
    → is_listed endpoints endpoint.name ≡ true
listed_at [] place endpoint inside at = absurd (omega arith)
listed_at (first ∷ endpoints) zero endpoint inside at =
    or_left _ (is_listed endpoints endpoint.name) ((bytes_eq-Decides first.name endpoint.name).1 (ap (λ (other : Endpoint). other.name) at))
listed_at (first ∷ endpoints) (suc place) endpoint inside at =
    or_right (bytes_eq first.name endpoint.name) _ (listed_at endpoints place endpoint (omega arith) at)

-- so its place tells a listed name from all others
pub same_place : (endpoints : List Endpoint) (other name : List ℕ) → is_listed endpoints name ≡ true
    → (place_among endpoints other == place_among endpoints name) ≡ bytes_eq other name
same_place endpoints other name listed = same_from_decides _ _
    (Decides-like _ (placed_alike endpoints other name listed) (ap (place_among endpoints)) (Decides-eqb (place_among endpoints other) (place_among endpoints name)))
    (bytes_eq-Decides other name)

-- a row and a column, each in its range, tell the numbers of a table apart
pub same_number : (row column other_row other_column width : ℕ) → column < width → other_column < width
    → (row * width + column == other_row * width + other_column) ≡ ((row == other_row) && (column == other_column))
same_number row column other_row other_column width inside other_inside =
    by_tests (row == other_row) refl (column == other_column) refl
  where
    by_tests : (rows : Bool) → (row == other_row) ≡ rows → (columns : Bool) → (column == other_column) ≡ columns
        → (row * width + column == other_row * width + other_column) ≡ (rows && columns)
    by_tests true rows_is true columns_is =
        eq-eqb (row * width + column) (other_row * width + other_column)
        (λ i. eqb-true row other_row rows_is i * width + eqb-true column other_column columns_is i)
    by_tests true rows_is false columns_is =
        ne_eqb (row * width + column) (other_row * width + other_column)
        (λ same. eqb-false column other_column columns_is (same_from_place row column other_row other_column width inside other_inside same).1)
    by_tests false rows_is columns columns_is =
        ne_eqb (row * width + column) (other_row * width + other_column)
        (λ same. eqb-false row other_row rows_is (same_from_place row column other_row other_column width inside other_inside same).0)
