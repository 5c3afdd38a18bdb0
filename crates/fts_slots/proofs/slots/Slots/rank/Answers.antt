-- The rank that stands at the place.
use Rattle.std.proofs.Common.{◌<◌, length, get_or, ap, sym, ◌∙◌, arith}
use Rattle.std.proofs.lemmas.List.{get_or-map}
use Rattle.std.proofs.lemmas.Option.{get_or_from_slice_get}
use Rattle.fts_tables.specs.SettingsData.{SettingsData}
use Rattle.fts_tables.specs.declared.settings.Endpoint.{Endpoint}
use Rattle.fts_slots.specs.SlotsData.{SlotsData}
use Rattle.fts_slots.specs.Ranks.{rank_of, rank_at}
use Rattle.fts_slots.proofs.Ranked.{endpoint_there}
use Rattle.fts_slots.proofs.slots.Slots.rank.Goals as goal

pub returns : goal.returns
returns c =
    let settings : SettingsData = c.self.inside.settings in
    let place = c.args.place in
    let same = ap (λ (slots : SlotsData). slots.settings) c.self.view_is in
    let inside : place < length settings.endpoints = omega (arith, c.requires.inside, ap (λ (some : SettingsData). length some.endpoints) same) in
    let there = endpoint_there settings place inside in
    record {
      rank = c.index.ensures
          ∙ (ap (λ at. get_or c.self.inside.ranks.items at c.index.result.now) c.from.ensures
          ∙ (ap (λ ranks. get_or ranks place c.index.result.now) c.self.invariant.ranks
          ∙ (get_or-map (λ (endpoint : Endpoint). rank_of settings.endpoints endpoint.name) settings.endpoints place there.0 c.index.result.now inside
          ∙ (ap (λ (endpoint : Endpoint). rank_of settings.endpoints endpoint.name) (get_or_from_slice_get settings.endpoints place there.0 there.0 there.1)
          ∙ (ap (rank_of settings.endpoints) (sym there.2) ∙ ap (λ (some : SettingsData). rank_at some place) same)))));
    }
