-- Orders by numbers, for keys of several: by one of them, and then, of keys that have it in common, by another order. `proofs/ByNumbers.antt` makes the
-- order of a key from them.
use Rattle.std.specs.Prelude.{◌≡◌, ℕ, Bool, true, false, nat_lt, ◌||◌, ◌&&◌, ◌==◌}

-- the lesser number first; of equal ones the rest decides
abbrev pub is_first_by : ℕ → ℕ → Bool → Bool
is_first_by one other rest = nat_lt one other || ((one == other) && rest)

-- a test that says which stands first, but for those that are the same to it
pub record IsOrderUpTo {K : Type 0} (before : K → K → Bool) (same : K → K → Type 0) : Type 0 where
  pub irreflexive : (one : K) → before one one ≡ false
  pub transitive : (one other third : K) → before one other ≡ true → before other third ≡ true → before one third ≡ true
  pub total : (one other : K) → before one other ≡ false → before other one ≡ false → same one other
