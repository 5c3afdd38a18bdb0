use Rattle.std.proofs.Common.{sym, ◌∙◌}
use Rattle.std.specs.Prelude.{bytes_eq}
use Rattle.fts_tables.specs.declared.settings.Endpoint.{Endpoint}
use Rattle.fts_slots.proofs.LinkCounts.{position-none, none-position}
use Rattle.fts_slots.proofs.limits.place_of_endpoint.Goals as goal

pub returns-clause-none : goal.returns-clause-none
returns-clause-none c =
    let endpoints = c.args.endpoints.now in
    let is_named = λ (endpoint : Endpoint). bytes_eq endpoint.name c.args.name.now in (
      λ none. (position-none is_named endpoints (sym c.first_of_name.ensures.place ∙ none)).0,
      λ none. c.first_of_name.ensures.place
          ∙ none-position is_named endpoints none,
    )
