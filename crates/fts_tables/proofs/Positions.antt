-- The first place of a list at which a test passes.
use Rattle.std.proofs.Common.{◌≡◌, ℕ, suc, ◌+◌, Bool, true, false, cond, List, ◌∷◌, length, Some, None, refl, ap, arith}
use Rattle.std.specs.Prelude.{not, nat_lt, position, option_map}
use Rattle.std.specs.List.{position_or_len}
use Rattle.std.proofs.lemmas.Bool.{ltb-true, ltb-false, lt-ltb, le-ltb}

-- the first place of a list is its head's, or one behind it
pub position-cons : {Item : Type 0} (test : Item → Bool) (item : Item) (items : List Item)
    → position test (item ∷ items) ≡ cond (test item) (Some 0) (option_map suc (position test items))
position-cons test item items = by_test (test item)
  where
    shifted : (place count : ℕ) (answer : Bool) → nat_lt place count ≡ answer → cond (nat_lt (1 + place) (suc count)) (Some (1 + place)) None
        ≡ option_map suc (cond answer (Some place) None)
    shifted place count true is = rw (lt-ltb (1 + place) (suc count) (omega (arith, ltb-true place count is))) (ap (λ found. Some found) (omega arith))
    shifted place count false is = rw (le-ltb (1 + place) (suc count) (omega (arith, ltb-false place count is))) refl

    by_test : (answer : Bool) → cond (nat_lt (cond (not answer) (1 + position_or_len test items) 0) (suc (length items)))
        (Some (cond (not answer) (1 + position_or_len test items) 0)) None
        ≡ cond answer (Some 0) (option_map suc (position test items))
    by_test true = rw (lt-ltb 0 (suc (length items)) (omega arith)) refl
    by_test false = shifted (position_or_len test items) (length items) (nat_lt (position_or_len test items) (length items)) refl
