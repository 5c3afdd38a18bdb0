-- Settings that break no rule of the text keep every rule of the type.
use Rattle.std.proofs.Common.{◌≡◌, Bool, true, false, ◌&&◌, List, ◌∷◌, Option, Some, None, Ok, refl, inl, inr}
use Rattle.std.proofs.lemmas.Bool.{and_parts}
use Rattle.fts_tables.specs.SettingsData.{SettingsData, IsSettings, has_vo_label, has_default_limit, has_endpoint_range, has_link_range, has_weight_range, has_endpoint_limits, has_link_limits, has_link_labels, has_activity_labels}
use Rattle.fts_config.specs.declared.fault.SettingsFault.{SettingsFault}
use Rattle.fts_config.specs.declared.fault.SettingsFault.TheVariants.{TwiceEndpoint, TwiceLink, UnknownEndpoint, LimitRange, WeightRange, NoDefaultWeight, WorkerRange, TooMany, BadLabel, TwiceWeight}
use Rattle.fts_tables.specs.FirstFault.{fault_unless, first_fault, unless}
use Rattle.fts_config.specs.Faults.{Gives}
use Rattle.fts_config.specs.Rules.{twice_endpoint, twice_link, unknown_endpoint, limit_range, weight_range, no_default_weight, worker_range, too_many, bad_label, twice_weight, faults_of}

-- a list of rules of which none is broken
none_of : (rule : Option SettingsFault) (rules : List (Option SettingsFault)) → first_fault (rule ∷ rules) ≡ None → (rule ≡ None) × (first_fault rules ≡ None)
none_of None rules none = (refl, none)
none_of (Some fault) rules none = cc

-- a rule without a fault is kept
kept : (test : Bool) (fault : SettingsFault) → fault_unless test fault ≡ None → test ≡ true
kept true fault none = refl
kept false fault none = cc

-- rule by rule
pub settings_kept : (s : SettingsData) → first_fault (faults_of s) ≡ None → IsSettings s
unfolding faults_of twice_endpoint twice_link unknown_endpoint limit_range weight_range no_default_weight worker_range too_many bad_label twice_weight
settings_kept s none =
    let names = none_of _ _ none in
    let pairs = none_of _ _ names.1 in
    let ends = none_of _ _ pairs.1 in
    let limits = none_of _ _ ends.1 in
    let weights = none_of _ _ limits.1 in
    let default = none_of _ _ weights.1 in
    let workers = none_of _ _ default.1 in
    let counts = none_of _ _ workers.1 in
    let labels = none_of _ _ counts.1 in
    let activities = none_of _ _ labels.1 in
    let limit_parts = and_parts (has_default_limit s && has_endpoint_limits s) (has_link_limits s) (kept _ LimitRange limits.0) in
    let first_limits = and_parts (has_default_limit s) (has_endpoint_limits s) limit_parts.0 in
    let count_parts = and_parts (has_endpoint_range s && has_link_range s) (has_weight_range s) (kept _ TooMany counts.0) in
    let first_counts = and_parts (has_endpoint_range s) (has_link_range s) count_parts.0 in
    let label_parts = and_parts (has_vo_label s && has_link_labels s) (has_activity_labels s) (kept _ BadLabel labels.0) in
    let first_labels = and_parts (has_vo_label s) (has_link_labels s) label_parts.0 in
    record {
      vo = first_labels.0;
      workers = kept _ WorkerRange workers.0;
      default_limit = first_limits.0;
      endpoint_count = first_counts.0;
      link_count = first_counts.1;
      weight_count = count_parts.1;
      endpoint_names = kept _ TwiceEndpoint names.0;
      endpoint_limits = first_limits.1;
      link_pairs = kept _ TwiceLink pairs.0;
      link_ends = kept _ UnknownEndpoint ends.0;
      link_limits = limit_parts.1;
      link_labels = first_labels.1;
      weight_names = kept _ TwiceWeight activities.0;
      weight_labels = label_parts.1;
      weight_ranges = kept _ WeightRange weights.0;
      default = kept _ NoDefaultWeight default.0;
    }

-- a check that passes has found no fault
pub none_broken : (found : Option SettingsFault) → Gives {A = Unit {0}} (Ok tt) (unless found tt) → found ≡ None
none_broken None passed = refl
none_broken (Some fault) (inl passed) = cc
none_broken (Some fault) (inr passed) = cc
