-- A test of what is made of each item is a test of each item.
use Rattle.std.proofs.Common.{◌≡◌, ◌||◌, Bool, List, [], ◌∷◌, map, refl, ap}
use Rattle.std.specs.List.{list_any, list_all}
use Rattle.std.proofs.lemmas.List.Folds.{list_all-map}

-- whether one passes
pub any_of_viewed : {X Y : Type 0} (test : X → Bool) (h : Y → X) (ys : List Y) → list_any test (map h ys) ≡ list_any (λ y. test (h y)) ys
any_of_viewed test h [] = refl
any_of_viewed test h (y ∷ ys) = ap (λ b. test (h y) || b) (any_of_viewed test h ys)

-- whether all pass
pub all_of_viewed : {X Y : Type 0} (test : X → Bool) (h : Y → X) (ys : List Y) → list_all test (map h ys) ≡ list_all (λ y. test (h y)) ys
all_of_viewed test h ys = list_all-map test h ys
