-- Work on each of a list.
use Rattle.std.specs.Prelude.{List, [], ◌∷◌}

-- the two lists are as long, and each pair is so
abbrev pub Each : {A : Type 0} → (A → A → Type 0) → List A → List A → Type 0
Each R [] [] = Unit {0}
Each R [] (new ∷ news) = ⊥
Each R (old ∷ olds) [] = ⊥
Each R (old ∷ olds) (new ∷ news) = R old new × Each R olds news
