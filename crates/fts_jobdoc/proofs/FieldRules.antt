-- What the rules on numbers say of the numbers that are read.
use Rattle.std.proofs.Common.{◌≡◌, ◌||◌, ◌≤◌, ℕ, Bool, true, false, cond, Option, Some, None, refl, arith, tests}
use Rattle.std.specs.Prelude.{not, nat_le, nat_lt, ◌^◌, unwrap_or, pos, negsuc}
use Rattle.std.specs.Option.{option_map_or}
use Rattle.std.specs.Ordering.{int_eq}
use Rattle.serde_json.specs.Data.{Data, null, boolean, number, string, array, object, unsigned, negative, float}
use Rattle.fts_tables.specs.SettingsData.{is_within}
use Rattle.fts_jobdoc.specs.Json.{natural_of, is_natural_within, is_from_minus_one, fails, natural_or}

-- what isn't false is true
pub is_true : (b : Bool) → not b ≡ false → b ≡ true
is_true true kept = refl
is_true false kept = absurd (cc)

-- where what is there is in the range, and what stands for it where it is absent, then what is read is
pub within_or : (low high default : ℕ) (found : Option Data) → fails (is_natural_within low high) found ≡ false → is_within low high default ≡ true
    → is_within low high (natural_or default found) ≡ true
within_or low high default None kept fits = fits
within_or low high default (Some value) kept fits =
    elim (natural_of value) as (λ n. not (option_map_or (is_within low high) n false) ≡ false → is_within low high (unwrap_or n default) ≡ true) [
      | Some n ↦ λ inside. is_true (is_within low high n) inside
      | None ↦ λ outside. absurd (cc)
    ] kept

-- a number from 0 on isn't -1
not_minus_one : (b : Bool) (n : ℕ) → option_map_or (λ z. int_eq z (negsuc 0)) (cond b (Some (pos n)) None) false ≡ false
not_minus_one true n = refl
not_minus_one false n = refl

-- a range from 0 on
below_end : (high n : ℕ) (b : Bool) → b ≡ false → not (is_within 0 high n || b) ≡ false → nat_le n high ≡ true
below_end high n true e kept = absurd (cc)
below_end high n false e kept = grind (arith, tests)

-- what is there is a number of the range, or -1, which is read as none
pub number_or_none : (high : ℕ) (found : Option Data) → fails (is_from_minus_one high) found ≡ false
    → nat_le (natural_or 0 found) high ≡ true
number_or_none high (Some (number (unsigned n))) kept = below_end high n _ (not_minus_one (nat_lt n (2 ^ 63)) n) kept
number_or_none high _ kept = grind (arith, tests)

-- a number of a range isn't above its end
pub within_end : (low high n : ℕ) → is_within low high n ≡ true → n ≤ high
within_end low high n inside = grind (arith, tests)

-- nor is one that isn't more than the end
pub le_end : (n high : ℕ) → nat_le n high ≡ true → n ≤ high
le_end n high few = grind (arith, tests)

-- a priority that is there isn't a bad one
pub priority_given : (found : Option Data) (low high : ℕ) → not (option_map_or (is_natural_within low high) found false) ≡ false
    → fails (is_natural_within low high) found ≡ false
priority_given None low high given = refl
priority_given (Some value) low high given = given

-- a number that was read of what is there, or 0, and that no rule fails, isn't above the end either
pub few_read : (high : ℕ) (found : Option Data) (n : ℕ) → n ≡ natural_or 0 found → fails (is_from_minus_one high) found ≡ false → n ≤ high
few_read high found n read kept = le_end n high (rw read (number_or_none high found kept))
