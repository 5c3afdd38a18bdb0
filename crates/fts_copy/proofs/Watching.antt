-- What becomes of a watch and of a count over steps that follow each other.
use Rattle.std.proofs.Common.{◌≡◌, ℕ, ◌+◌, ◌≤◌, Result, Ok, Err, OnOk, refl, ◌∙◌, subst, inl, inr, arith}
use Rattle.fts_tables.specs.declared.rows.Outcome.{Outcome}
use Rattle.fts_tables.specs.Counts.{Rose}
use Rattle.fts_store.specs.Store.{Stays}
use Rattle.fts_copy.specs.Watch.{IsAsked, NoesAfter, Watched}

-- askings add up
more_asked : {T : Type 0} (result : Result T Outcome) (one two a b c : ℕ) → IsAsked one a b → OnOk result (IsAsked two b c) → OnOk result (IsAsked (one + two) a c)
more_asked (Ok v) one two a b c first second = omega (arith, first, second)
more_asked (Err e) one two a b c first second = tt

-- no more noes by a step that was done
same_noes : {T : Type 0} (result : Result T Outcome) (a b c : ℕ) → b ≡ a → NoesAfter result b c → NoesAfter result a c
same_noes result a b c same after = subst (λ n. NoesAfter result n c) same after

-- a step behind one that was done
pub then_watched : {W S T : Type 0} (noes askings : W → ℕ) (later : W → W → Type 0) (one two : ℕ) (a b c : W) (value : S) (result : Result T Outcome)
    → ((x y z : W) → later x y → later y z → later x z)
    → Watched noes askings later one a b (Ok value) → Watched noes askings later two b c result → Watched noes askings later (one + two) a c result
then_watched noes askings later one two a b c value result passes first second = record {
  onward = passes a b c first.onward second.onward;
  no_fewer = omega (arith, first.no_fewer, second.no_fewer);
  cause = same_noes result (noes a) (noes b) (noes c) first.cause second.cause;
  asked = more_asked result one two (askings a) (askings b) (askings c) first.asked second.asked;
}

-- a step that ended owes no askings, and gives no value
pub ended_watched : {W S T : Type 0} (noes askings : W → ℕ) (later : W → W → Type 0) (one two : ℕ) (a b : W) (outcome : Outcome)
    → Watched {T = S} noes askings later one a b (Err outcome) → Watched {T = T} noes askings later two a b (Err outcome)
ended_watched noes askings later one two a b outcome is = record { onward = is.onward; no_fewer = is.no_fewer; cause = is.cause; asked = tt }

-- of none asked so far
pub none_watched : {W : Type 0} (noes askings : W → ℕ) (later : W → W → Type 0) (a : W) → later a a → Watched {T = ℕ} noes askings later 0 a a (Ok 0)
none_watched noes askings later a stays = record { onward = stays; no_fewer = omega arith; cause = refl; asked = omega arith }

-- a count that rose later rose
pub later_rose : (a b c : ℕ) → a ≤ b → Rose b c → Rose a c
later_rose a b c below (inl higher) = inl (omega arith)
later_rose a b c below (inr end) = inr end

-- and of two steps
pub both_stay : (one two three : _) → Stays one two → Stays two three → Stays one three
both_stay one two three first second = record { told = second.told ∙ first.told; faithful = second.faithful ∙ first.faithful }

-- which value a step gave doesn't matter to the watch
pub again_watched : {W S T : Type 0} (noes askings : W → ℕ) (later : W → W → Type 0) (times : ℕ) (a b : W) (one : S) (other : T)
    → Watched noes askings later times a b (Ok one) → Watched noes askings later times a b (Ok other)
again_watched noes askings later times a b one other is = record { onward = is.onward; no_fewer = is.no_fewer; cause = is.cause; asked = is.asked }
