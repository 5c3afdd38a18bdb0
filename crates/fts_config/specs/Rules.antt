-- The rules of the values, each over the settings that a document gives; each is told by its fault where it is broken.
-- Together they are the rules that the type `Settings` keeps (`fts_tables`, `specs/SettingsData.antt`).
use Rattle.std.specs.Prelude.{◌&&◌, Option, List, [], ◌∷◌}
use Rattle.fts_tables.specs.FirstFault.{fault_unless}
use Rattle.fts_tables.specs.SettingsData.{SettingsData, has_vo_label, has_worker_range, has_default_limit, has_endpoint_range, has_link_range, has_weight_range, has_distinct_endpoints, has_endpoint_limits, has_distinct_links, has_known_links, has_link_limits, has_link_labels, has_distinct_activities, has_activity_labels, has_activity_weights, has_default_activity}
use Rattle.fts_config.specs.declared.fault.SettingsFault.{SettingsFault}
use Rattle.fts_config.specs.declared.fault.SettingsFault.TheVariants.{TwiceEndpoint, TwiceLink, UnknownEndpoint, LimitRange, WeightRange, NoDefaultWeight, WorkerRange, TooMany, BadLabel, TwiceWeight}

-- rule 5: no two storages have one name
unfoldable pub twice_endpoint : SettingsData → Option SettingsFault
twice_endpoint settings = fault_unless (has_distinct_endpoints settings) TwiceEndpoint

-- rule 6: no two links join one pair of endpoints, in one direction
unfoldable pub twice_link : SettingsData → Option SettingsFault
twice_link settings = fault_unless (has_distinct_links settings) TwiceLink

-- rule 7: each link joins two storages
unfoldable pub unknown_endpoint : SettingsData → Option SettingsFault
unknown_endpoint settings = fault_unless (has_known_links settings) UnknownEndpoint

-- rule 8: the common limit, those of each storage and that of each link are in their range
unfoldable pub limit_range : SettingsData → Option SettingsFault
limit_range settings = fault_unless (has_default_limit settings && has_endpoint_limits settings && has_link_limits settings) LimitRange

-- rule 9: each weight is in its range
unfoldable pub weight_range : SettingsData → Option SettingsFault
weight_range settings = fault_unless (has_activity_weights settings) WeightRange

-- rule 10: one of the activities is `default`, as it is where none are listed
unfoldable pub no_default_weight : SettingsData → Option SettingsFault
no_default_weight settings = fault_unless (has_default_activity settings) NoDefaultWeight

-- rule 11: the number of workers is in its range
unfoldable pub worker_range : SettingsData → Option SettingsFault
worker_range settings = fault_unless (has_worker_range settings) WorkerRange

-- rule 12: there are not too many storages, links or activities (that there is a storage at all is rule 3)
unfoldable pub too_many : SettingsData → Option SettingsFault
too_many settings = fault_unless (has_endpoint_range settings && has_link_range settings && has_weight_range settings) TooMany

-- rule 14: the name of the VO, of each link and of each activity has its length
unfoldable pub bad_label : SettingsData → Option SettingsFault
bad_label settings = fault_unless (has_vo_label settings && has_link_labels settings && has_activity_labels settings) BadLabel

-- rule 15: no two activities have one name
unfoldable pub twice_weight : SettingsData → Option SettingsFault
twice_weight settings = fault_unless (has_distinct_activities settings) TwiceWeight

-- these rules, in the order in which they are answered
unfoldable pub faults_of : SettingsData → List (Option SettingsFault)
faults_of settings =
    twice_endpoint settings
    ∷ twice_link settings
    ∷ unknown_endpoint settings
    ∷ limit_range settings
    ∷ weight_range settings
    ∷ no_default_weight settings
    ∷ worker_range settings
    ∷ too_many settings
    ∷ bad_label settings
    ∷ twice_weight settings
    ∷ []
