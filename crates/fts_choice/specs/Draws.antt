-- The draw, place by place, and which numbers draw a place.
use Rattle.std.specs.Prelude.{ℕ, suc, ◌+◌, Bool, false, ◌==◌, nat_lt, if◌then◌else◌, List, [], ◌∷◌, Option, Some, None, option_map}
use Rattle.std.specs.Option.{option_map_or}
use Rattle.fts_tables.specs.Choice.{draw}

-- the first place at which a start and the shares up to there are above a number
abbrev pub first_above : ℕ → ℕ → List ℕ → Option ℕ
first_above number start [] = None
first_above number start (share ∷ shares) = if nat_lt number (start + share) then Some 0 else option_map suc (first_above number (start + share) shares)

-- whether a word draws a place
abbrev pub draws : List ℕ → List Bool → ℕ → ℕ → Bool
draws weights waiting place word = option_map_or (λ drawn. drawn == place) (draw weights waiting word) false
