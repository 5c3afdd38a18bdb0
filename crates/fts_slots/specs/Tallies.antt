-- Counters of a list of links: what each of them counts.
use Rattle.std.specs.Prelude.{◌≡◌, ℕ, ◌*◌, ◌<◌, List, length, slice_index}
use Rattle.fts_tables.specs.declared.settings.LinkAt.{LinkAt}
use Rattle.fts_slots.specs.SlotsData.{index_of, held_of, outbound_of, inbound_of}
use Rattle.fts_slots.specs.declared.counts.Counts.{Counts}

-- the counters of a list of links, for so many endpoints: of each link, of what comes from each endpoint and of what goes there
pub record AreTallied (endpoints : ℕ) (taken : List LinkAt) (counts : Counts) : Type 0 where
  pub link_places : length counts.links.items ≡ endpoints * 256
  pub outbound_places : length counts.outbound.items ≡ endpoints
  pub inbound_places : length counts.inbound.items ≡ endpoints
  pub links : (link : LinkAt) → link.source < endpoints → link.dest < 256 → slice_index counts.links.items (index_of link) ≡ held_of taken link
  pub outbound : (place : ℕ) → place < endpoints → slice_index counts.outbound.items place ≡ outbound_of taken place
  pub inbound : (place : ℕ) → place < endpoints → slice_index counts.inbound.items place ≡ inbound_of taken place

-- there are counters of a link and of both its ends
pub record HasPlaces (counts : Counts) (one : LinkAt) : Type 0 where
  pub link : index_of one < length counts.links.items
  pub source : one.source < length counts.outbound.items
  pub dest : one.dest < length counts.inbound.items
  pub low : one.dest < 256
