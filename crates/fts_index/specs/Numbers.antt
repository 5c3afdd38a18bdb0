-- Ids of jobs in order of the jobs' numbers, and the number that an id has.
use Rattle.std.specs.Prelude.{ℕ, ◌==◌, List, Option}
use Rattle.std.specs.List.{position_from}

-- the ids of the jobs 1, 2, 3 and so on, and how many ids there is room for, these among them
pub record IdList : Type 0 where
  pub ids : List ℕ
  pub room : ℕ

-- the least number with this id: the first place of the id, counted from 1
abbrev pub number_in : List ℕ → ℕ → Option ℕ
number_in ids id = position_from (λ other. other == id) 1 ids
