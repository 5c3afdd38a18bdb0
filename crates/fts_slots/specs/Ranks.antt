-- The ranks of endpoints: where each stands in the order of names.
use Rattle.std.specs.Prelude.{ℕ, List, count_by, map}
use Rattle.std.specs.Ordering.{nat_cmp, is_lt}
use Rattle.std.specs.Cmp.Lexicographic.{slice_cmp}
use Rattle.fts_tables.specs.SettingsData.{SettingsData}
use Rattle.fts_tables.specs.declared.settings.Endpoint.{Endpoint}
use Rattle.fts_slots.specs.SlotsData.{name_at}

-- how many endpoints have names in front of a name
abbrev pub rank_of : List Endpoint → List ℕ → ℕ
rank_of endpoints name = count_by (λ endpoint. is_lt (slice_cmp nat_cmp endpoint.name name)) endpoints

-- the rank of the endpoint at a place
abbrev pub rank_at : SettingsData → ℕ → ℕ
rank_at settings place = rank_of settings.endpoints (name_at settings place)

-- the ranks of all endpoints, each at its place
abbrev pub ranks_of : List Endpoint → List ℕ
ranks_of endpoints = map (λ endpoint. rank_of endpoints endpoint.name) endpoints
