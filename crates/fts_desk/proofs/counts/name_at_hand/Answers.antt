-- The name that stands at the place is the one that is known.
use Rattle.std.proofs.Common.{◌≡◌, List, [], length, Option, Some, refl, ap, sym, ◌∙◌}
use Rattle.std.specs.Prelude.{slice_get}
use Rattle.std.specs.Option.{option_map_or}
use Rattle.std.proofs.lemmas.Option.{slice_get_read}
use Rattle.fts_tables.specs.SettingsData.{SettingsData}
use Rattle.fts_tables.specs.declared.settings.Endpoint.{Endpoint}
use Rattle.fts_desk.specs.Parts.{limits_of}
use Rattle.fts_desk.proofs.counts.name_at_hand.Goals as goal

pub returns-in-Some-get : goal.returns-in-Some-get
returns-in-Some-get c =
    let read = c.as_slice.result.now in
    let lookup = c.in-Some-get.ensures.lookup in
    let found = slice_get_read read (length read) c.from.result c.in-Some-get.endpoint.now refl lookup.3.0 lookup.1 in
    let listed : read ≡ c.in-Some.parts.slots.settings.endpoints =
    c.as_slice.ensures ∙ ap (λ (settings : SettingsData). settings.endpoints) (c.behind-parts.view_is ∙ c.settings.ensures.settings) in
    let there : slice_get c.in-Some.parts.slots.settings.endpoints c.args.place ≡ Some c.in-Some-get.endpoint.now =
    ap (λ (endpoints : List Endpoint). slice_get endpoints c.args.place) (sym listed) ∙ (ap (slice_get read) (sym c.from.ensures) ∙ found) in
    record {
      name = ap (λ (endpoint : Option Endpoint). option_map_or (λ (some : Endpoint). some.name) endpoint []) (sym there)
          ∙ c.requires.same c.in-Some.parts.slots.settings (ap limits_of c.in-Some.is);
    }
