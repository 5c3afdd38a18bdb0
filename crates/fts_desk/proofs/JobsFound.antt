-- The job at the place that was found, and how many there are, by how each stands.
use Rattle.std.proofs.Common.{◌≡◌, ℕ, zero, suc, ◌+◌, Bool, true, false, cond, List, [], ◌∷◌, drop, map, Some, refl, ap, sym, ◌∙◌, arith}
use Rattle.std.specs.Prelude.{find, count_by, slice_get, option_and_then}
use Rattle.std.specs.List.{position_from}
use Rattle.std.proofs.lemmas.List.Sums.{sum_by-cons}

module _ {One Other : Type 0} (change : One → Other) (test : Other → Bool) where
  -- what is found by its place is found
  found_here : (items all : List One) (from : ℕ) → ((place : ℕ) → slice_get all (from + place) ≡ slice_get items place)
      → option_and_then (slice_get all) (position_from test from (map change items)) ≡ find (λ item. test (change item)) items
  found_here [] all from same = refl
  found_here (item ∷ items) all from same =
      by_head (test (change item)) (found_here items all (from + 1)
      (λ place. ap (slice_get all) (moved from place) ∙ same (suc place)))
    where
      moved : (from place : ℕ) → from + 1 + place ≡ from + suc place
      moved from place = omega arith

      here : slice_get all from ≡ Some item
      here = ap (slice_get all) (at from) ∙ same 0
        where
          at : (from : ℕ) → from ≡ from + 0
          at from = omega arith

      by_head : (answer : Bool)
          → option_and_then (slice_get all) (position_from test (from + 1) (map change items)) ≡ find (λ item. test (change item)) items
          → option_and_then (slice_get all) (cond answer (Some from) (position_from test (from + 1) (map change items)))
          ≡ cond answer (Some item) (find (λ item. test (change item)) items)
      by_head true behind = here
      by_head false behind = behind

  -- what stands behind so many
  at_drop : (all : List One) (from place : ℕ) → slice_get all (from + place) ≡ slice_get (drop from all) place
  at_drop all zero place = ap (slice_get all) (first place)
    where
      first : (place : ℕ) → 0 + place ≡ place
      first place = omega arith
  at_drop [] (suc from) place = refl
  at_drop (item ∷ all) (suc from) place = ap (slice_get (item ∷ all)) (next from place) ∙ at_drop all from place
    where
      next : (from place : ℕ) → suc from + place ≡ suc (from + place)
      next from place = omega arith

  drop_map : (items : List One) (from : ℕ) → drop from (map change items) ≡ map change (drop from items)
  drop_map items zero = refl
  drop_map [] (suc from) = refl
  drop_map (item ∷ items) (suc from) = drop_map items from

  -- so it is behind so many
  pub found_behind : (items : List One) (from : ℕ)
      → option_and_then (slice_get items) (position_from test from (drop from (map change items))) ≡ find (λ item. test (change item)) (drop from items)
  found_behind items from =
      ap (λ rest. option_and_then (slice_get items) (position_from test from rest)) (drop_map items from)
      ∙ found_here (drop from items) items from (at_drop items from)

  -- and as many are counted
  pub counted_map : (items : List One) → count_by test (map change items) ≡ count_by (λ item. test (change item)) items
  counted_map [] = refl
  counted_map (item ∷ items) =
      sum_by-cons (λ other. cond (test other) 1 0) (change item) (map change items)
      ∙ (ap (λ count. cond (test (change item)) 1 0 + count) (counted_map items)
      ∙ sym (sum_by-cons (λ other. cond (test (change other)) 1 0) item items))
