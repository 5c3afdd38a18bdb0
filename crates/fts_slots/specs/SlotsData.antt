-- Slots by the places of endpoints in the settings, from 0: limits, what a list of links holds of them, and which links are free.
use Rattle.std.specs.Prelude.{ℕ, ◌+◌, ◌*◌, Bool, ◌&&◌, ◌==◌, ◌<◌, ◌≤◌, nat_lt, bytes_eq, List, [], length, count_by, remove, position, slice_get, Option, Some}
use Rattle.std.specs.Option.{option_map_or}
use Rattle.fts_tables.specs.SettingsData.{SettingsData}
use Rattle.fts_tables.specs.Limits.{link_limit}
use Rattle.fts_tables.specs.declared.settings.LinkAt.{LinkAt}

-- the settings, and the links of which a slot is taken, each as often as it is
pub record SlotsData : Type 0 where
  pub settings : SettingsData
  pub links : List LinkAt

-- both ends of a link stand in the settings
pub record IsInside (settings : SettingsData) (link : LinkAt) : Type 0 where
  pub source : link.source < length settings.endpoints
  pub dest : link.dest < length settings.endpoints

-- the place of the endpoint with a name
abbrev pub place_of_name : SettingsData → List ℕ → Option ℕ
place_of_name settings name = position (λ endpoint. bytes_eq endpoint.name name) settings.endpoints

-- the name of the endpoint at a place
abbrev pub name_at : SettingsData → ℕ → List ℕ
name_at settings place = option_map_or (λ endpoint. endpoint.name) (slice_get settings.endpoints place) []

-- how many files may come from the endpoint at a place, and 0 past the end
abbrev pub outbound_limit_at : SettingsData → ℕ → ℕ
outbound_limit_at settings place = option_map_or (λ endpoint. endpoint.outbound) (slice_get settings.endpoints place) 0

-- how many files may go to the endpoint at a place, and 0 past the end
abbrev pub inbound_limit_at : SettingsData → ℕ → ℕ
inbound_limit_at settings place = option_map_or (λ endpoint. endpoint.inbound) (slice_get settings.endpoints place) 0

-- the limit of a link, by the names of its ends
abbrev pub link_limit_at : SettingsData → LinkAt → ℕ
link_limit_at settings link = link_limit (Some settings) (name_at settings link.source) (name_at settings link.dest)

-- whether two links are one
abbrev pub is_same_link : LinkAt → LinkAt → Bool
is_same_link one other = (other.source == one.source) && (other.dest == one.dest)

-- the place of a link among the counters of links: those of one source stand together
abbrev pub index_of : LinkAt → ℕ
index_of link = link.source * 256 + link.dest

-- how many slots of a link are taken
abbrev pub held_of : List LinkAt → LinkAt → ℕ
held_of links link = count_by (is_same_link link) links

-- how many slots are taken of what comes from the endpoint at a place
abbrev pub outbound_of : List LinkAt → ℕ → ℕ
outbound_of links place = count_by (λ link. link.source == place) links

-- how many slots are taken of what goes to the endpoint at a place
abbrev pub inbound_of : List LinkAt → ℕ → ℕ
inbound_of links place = count_by (λ link. link.dest == place) links

-- whether the link and both its ends have a slot left
abbrev pub is_free : SlotsData → LinkAt → Bool
is_free slots link =
    nat_lt (held_of slots.links link) (link_limit_at slots.settings link)
    && nat_lt (outbound_of slots.links link.source) (outbound_limit_at slots.settings link.source)
    && nat_lt (inbound_of slots.links link.dest) (inbound_limit_at slots.settings link.dest)

-- the links without the first that is this one
abbrev pub without_link : LinkAt → List LinkAt → List LinkAt
without_link link links = option_map_or (remove links) (position (is_same_link link) links) links

-- no count passes its limit
pub record AreWithin (slots : SlotsData) : Type 0 where
  pub links : (link : LinkAt) → held_of slots.links link ≤ link_limit_at slots.settings link
  pub outbound : (place : ℕ) → outbound_of slots.links place ≤ outbound_limit_at slots.settings place
  pub inbound : (place : ℕ) → inbound_of slots.links place ≤ inbound_limit_at slots.settings place
