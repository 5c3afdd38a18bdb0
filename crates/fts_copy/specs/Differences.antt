-- Where two contents differ.
use Rattle.std.specs.Prelude.{ℕ, suc, ◌==◌, if◌then◌else◌, Option, Some, None, option_map, List, [], ◌∷◌}

-- the first place at which they differ, or the shorter one's length where it ends first; none where they are equal
abbrev pub first_difference : List ℕ → List ℕ → Option ℕ
first_difference [] [] = None
first_difference [] (other ∷ others) = Some 0
first_difference (one ∷ ones) [] = Some 0
first_difference (one ∷ ones) (other ∷ others) = if one == other then option_map suc (first_difference ones others) else Some 0
