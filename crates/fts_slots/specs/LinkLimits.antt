-- The limits of links in an array, each at the place of its link's counter.
use Rattle.std.specs.Prelude.{◌≡◌, ℕ, ◌*◌, ◌<◌, List, length, slice_index}
use Rattle.fts_tables.specs.SettingsData.{SettingsData}
use Rattle.fts_tables.specs.declared.settings.LinkAt.{LinkAt}
use Rattle.fts_slots.specs.SlotsData.{index_of, link_limit_at}

-- the limits of all links between the endpoints of these settings, by the names of their ends
pub record AreLimits (settings : SettingsData) (limits : List ℕ) : Type 0 where
  pub places : length limits ≡ length settings.endpoints * 256
  pub links : (link : LinkAt) → link.source < length settings.endpoints → link.dest < length settings.endpoints
      → slice_index limits (index_of link) ≡ link_limit_at settings link
