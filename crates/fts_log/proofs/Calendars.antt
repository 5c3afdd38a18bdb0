-- The first year or month that ends behind a day is found step by step.
use Rattle.std.proofs.Common.{◌≡◌, ℕ, zero, suc, ◌+◌, ◌-◌, ◌<◌, ◌≤◌, Bool, true, false, nat_lt, refl, ap, ◌∙◌, subst, arith, tests}
use Rattle.std.specs.Prelude.{if◌then◌else◌}
use Rattle.fts_log.specs.Moments.{days_before, first_from, LiesIn, year_of, days_before_month, month_of}

-- one more may come
one_more : (end this : ℕ) → this < end → end - this ≡ suc (end - (this + 1))
one_more end this below = omega arith

-- a day that the next one doesn't begin behind
pub goes_on : (begins : ℕ → ℕ) (end this day : ℕ) → this < end → begins (this + 1) ≤ day
    → first_from begins (end - this) this day ≡ first_from begins (end - (this + 1)) (this + 1) day
unfolding first_from
goes_on begins end this day below late =
    let no : nat_lt day (begins (this + 1)) ≡ false = grind (arith, tests) in
    ap (λ (more : ℕ). first_from begins more this day) (one_more end this below) ∙ rw no refl

-- a day that it begins behind
pub ends_here : (begins : ℕ → ℕ) (end this day : ℕ) → this < end → day < begins (this + 1) → first_from begins (end - this) this day ≡ this
unfolding first_from
ends_here begins end this day below early =
    let yes : nat_lt day (begins (this + 1)) ≡ true = grind (arith, tests) in
    ap (λ (more : ℕ). first_from begins more this day) (one_more end this below) ∙ rw yes refl

-- the last one
pub ends_last : (begins : ℕ → ℕ) (end this day : ℕ) → this ≡ end → first_from begins (end - this) this day ≡ end
unfolding first_from
ends_last begins end this day last =
    let none : end - this ≡ 0 = omega arith in
    ap (λ (more : ℕ). first_from begins more this day) none ∙ last

-- one that has begun, or the first behind it
lies_by : (begins : ℕ → ℕ) (more this day : ℕ) → begins this ≤ day
    → (begins (this + 1) ≤ day → LiesIn begins (first_from begins more (this + 1) day) day)
    → (early : Bool) → nat_lt day (begins (this + 1)) ≡ early
    → LiesIn begins (if early then this else first_from begins more (this + 1) day) day
lies_by begins more this day begun next true is = (begun, grind (arith, tests, is))
lies_by begins more this day begun next false is = next (grind (arith, tests, is))

-- a day lies in the first year or month that ends behind it, where one of those does
lies : (begins : ℕ → ℕ) (more this day : ℕ) → begins this ≤ day → day < begins (this + more + 1) → LiesIn begins (first_from begins more this day) day
unfolding first_from
lies begins zero this day begun ends =
    let same : this + 0 + 1 ≡ this + 1 = omega arith in
    (begun, subst (λ (n : ℕ). day < begins n) same ends)
lies begins (suc more) this day begun ends =
    let same : this + suc more + 1 ≡ this + 1 + more + 1 = omega arith in
    let ends_later : day < begins (this + 1 + more + 1) = subst (λ (n : ℕ). day < begins n) same ends in
    lies_by begins more this day begun (λ later. lies begins more (this + 1) day later ends_later) (nat_lt day (begins (this + 1))) refl

-- the first day of 1970 is the first that is counted
from_1970 : (day : ℕ) → days_before 1970 ≤ day
unfolding days_before
from_1970 day = omega arith

-- a day lies in its year
pub lies_in_year : (day : ℕ) → day < days_before 10000 → LiesIn days_before (year_of day) day
unfolding year_of
lies_in_year day ends = lies days_before 8029 1970 day (from_1970 day) ends

-- a day of a year lies in its month
pub lies_in_month : (leap day : ℕ) → day < 365 + leap → LiesIn (days_before_month leap) (month_of leap day) day
unfolding month_of days_before_month
lies_in_month leap day ends = lies (days_before_month leap) 11 1 day (omega arith) ends
