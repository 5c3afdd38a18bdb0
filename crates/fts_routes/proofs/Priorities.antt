-- A priority that a document asks for, where it breaks no rule, is one.
use Rattle.std.proofs.Common.{◌≡◌, ◌⊎◌, inl, inr, ℕ, Bool, true, false, List, [], ◌∷◌, Option, Some, None, Ok, Err, refl, true≢false}
use Rattle.std.specs.Prelude.{not, IsTrue, codes, unwrap_or}
use Rattle.std.specs.Option.{option_map_or}
use Rattle.serde_json.specs.Data.{Data}
use Rattle.fts_tables.specs.SettingsData.{is_within}
use Rattle.fts_tables.specs.JobData.{is_priority}
use Rattle.fts_tables.specs.FirstFault.{first_fault, unless, fault_if}
use Rattle.fts_tables.specs.declared.limits.TheConstants.{MIN_PRIORITY, MAX_PRIORITY}
use Rattle.fts_jobdoc.specs.Json.{value_of, param, natural_of, natural_or, is_natural_within}
use Rattle.fts_jobdoc.specs.Fields.{is_no_object, has_wrong_params, lacks_priority, priority_in}
use Rattle.fts_jobdoc.specs.Documents.{priority_of, priority_given, priority_rules, of_value}
use Rattle.fts_jobdoc.specs.declared.fault.DocFault.TheVariants.{NotObject, ParamsNotObject, BadPriority, Memory}

-- a whole number that is there and within its range
within-range : (found : Option ℕ) → not (option_map_or (is_within MIN_PRIORITY MAX_PRIORITY) found false) ≡ false → IsTrue (is_priority (unwrap_or found 3))
within-range None lacks = absurd (true≢false lacks)
within-range (Some number) lacks = not-false (is_within MIN_PRIORITY MAX_PRIORITY number) lacks
  where
    not-false : (some : Bool) → not some ≡ false → some ≡ true
    not-false true is = refl
    not-false false is = absurd (true≢false is)

in-range : (found : Option Data) → not (option_map_or (is_natural_within MIN_PRIORITY MAX_PRIORITY) found false) ≡ false → IsTrue (is_priority (natural_or 3 found))
in-range None lacks = absurd (true≢false lacks)
in-range (Some value) lacks = within-range (natural_of value) lacks

-- where no rule is broken the value is there
given : (none wrong lacks : Bool) (priority number : ℕ)
    → Ok priority ≡ unless (first_fault (fault_if none NotObject ∷ fault_if wrong ParamsNotObject ∷ fault_if lacks BadPriority ∷ [])) number
    → (lacks ≡ false) × (priority ≡ number)
given true wrong lacks priority number is = absurd (cc)
given false true lacks priority number is = absurd (cc)
given false false true priority number is = absurd (cc)
given false false false priority number is = (refl, cc)

by_value : (found : Option Data) (priority : ℕ) → Ok priority ≡ of_value priority_given found → IsTrue (is_priority priority)
unfolding priority_rules lacks_priority priority_in
by_value None priority is = absurd (cc)
by_value (Some value) priority is =
    let parts = given (is_no_object value) (has_wrong_params value) (lacks_priority value) priority (priority_in value) is in
    rw parts.1 (in-range (param (codes "priority") value) parts.0)

-- so a priority that was read is one
pub priority-read : (body : List ℕ) (priority : ℕ) → (Ok priority ≡ priority_of body) ⊎ (Ok priority ≡ Err Memory) → IsTrue (is_priority priority)
unfolding priority_of
priority-read body priority (inl is) = by_value (value_of body) priority is
priority-read body priority (inr none) = absurd (cc)
