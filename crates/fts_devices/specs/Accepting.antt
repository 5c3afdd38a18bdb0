-- The next line of a listener, by the answers that it gives.
use Rattle.std.specs.Prelude.{◌≡◌, ℕ, zero, suc, List, [], ◌∷◌, Option, Some, None, Result, Ok, Err}
use Rattle.fts_devices.specs.declared.steps.Untaken.{Untaken}
use Rattle.fts_devices.specs.declared.steps.Untaken.TheVariants.{Gone, NotYet, NoListener}
use Rattle.fts_devices.specs.Steps.{untaken_by}

-- a listener answers by the first of the answers to come, where it tells them; behind the last of them it tells nothing
abbrev pub Answers : {L : Type 0} → Option (List (Result L ℕ)) → Option (List (Result L ℕ)) → Result L ℕ → Type 0
Answers None left answer = left ≡ None
Answers (Some []) left answer = left ≡ None
Answers (Some (first ∷ others)) left answer = (answer ≡ first) × (left ≡ Some others)

-- what follows a refusal: an end where there is no listener, and else the next answer, at once or behind a rest
abbrev pub FollowsRefusal : Untaken → Type 0 → Type 0 → Type 0
FollowsRefusal NoListener end next = end
FollowsRefusal Gone end next = next
FollowsRefusal NotYet end next = next

-- of these answers, of which so many are taken at most, the first line is given; none where an answer before it says that there is no listener
abbrev pub GivesFirstOf : {L : Type 0} → ℕ → List (Result L ℕ) → Option (List (Result L ℕ)) → Option L → Type 0
GivesFirstOf zero answers left line = (line ≡ None) × (left ≡ Some answers)
GivesFirstOf (suc most) [] left line = left ≡ None
GivesFirstOf (suc most) (Ok first ∷ others) left line = (line ≡ Some first) × (left ≡ Some others)
GivesFirstOf (suc most) (Err errno ∷ others) left line =
    FollowsRefusal (untaken_by errno) ((line ≡ None) × (left ≡ Some others)) (GivesFirstOf most others left line)

-- the same of the answers that a listener tells, where it tells them
abbrev pub GivesLine : {L : Type 0} → ℕ → Option (List (Result L ℕ)) → Option (List (Result L ℕ)) → Option L → Type 0
GivesLine most None left line = left ≡ None
GivesLine most (Some answers) left line = GivesFirstOf most answers left line
