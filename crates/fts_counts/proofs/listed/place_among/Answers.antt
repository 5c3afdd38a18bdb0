-- The place that was found, or their number.
use Rattle.std.proofs.Common.{◌≡◌, ◌∙◌, ap, length, Option, ℕ, arith}
use Rattle.std.specs.Prelude.{bytes_eq, unwrap_or}
use Rattle.fts_tables.specs.declared.settings.Endpoint.{Endpoint}
use Rattle.fts_counts.specs.Listed.{place_among}
use Rattle.fts_counts.proofs.Places.{place_or_number, place_within}
use Rattle.fts_counts.proofs.listed.place_among.Goals as goal

pub returns : goal.returns
returns c =
    let place : c.unwrap_or.result ≡ place_among c.args.endpoints.now c.args.name.now =
    c.unwrap_or.ensures
    ∙ ap (λ (found : Option ℕ). unwrap_or found (length c.args.endpoints.now)) c.first_named.ensures
    ∙ place_or_number (λ (endpoint : Endpoint). bytes_eq endpoint.name c.args.name.now) c.args.endpoints.now in
    record {
      place = place;
      within = omega (arith, place, place_within (λ (endpoint : Endpoint). bytes_eq endpoint.name c.args.name.now) c.args.endpoints.now);
    }
