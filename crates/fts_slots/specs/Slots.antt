-- What a `Slots` is to its callers, and what it keeps: the limits, and room for all that they allow.
use Rattle.std.specs.Prelude.{◌≡◌, ◌≤◌, length, sum_by, vec_capacity}
use Rattle.fts_tables.specs.SettingsData.{IsSettings}
use Rattle.fts_slots.specs.SlotsData.{SlotsData, AreWithin}
use Rattle.fts_slots.specs.Tallies.{AreTallied}
use Rattle.fts_slots.specs.LinkLimits.{AreLimits}
use Rattle.fts_slots.specs.Ranks.{ranks_of}
use Rattle.fts_slots.specs.declared.slots.Slots.TheInside.{Inside}

-- the settings and the list of links held
abbrev pub slots_data : Inside → SlotsData
slots_data slots = record { settings = slots.settings; links = slots.links.items }

-- the settings keep their rules, no count passes its limit, the counters are those of the list, the limits of links and the ranks of endpoints are those of
-- the settings, and the list has room for as many links as may come from all endpoints together
pub record AreSlots (slots : Inside) : Type 0 where
  pub settings : IsSettings slots.settings
  pub within : AreWithin (slots_data slots)
  pub tallied : AreTallied (length slots.settings.endpoints) slots.links.items slots.counts
  pub limits : AreLimits slots.settings slots.limits.items
  pub ranks : slots.ranks.items ≡ ranks_of slots.settings.endpoints
  pub room : sum_by (λ endpoint. endpoint.outbound) slots.settings.endpoints ≤ vec_capacity slots.links
