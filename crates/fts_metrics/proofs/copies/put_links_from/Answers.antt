-- The samples of one link more, at its place.
use Rattle.std.proofs.Common.{◌≡◌, ◌++◌, ◌∙◌, List, ℕ, take, ap, sym, subst, arith, rules}
use Rattle.std.specs.List.{flat_map}
use Rattle.std.proofs.lemmas.Grind.{common_steps}
use Rattle.fts_tables.specs.declared.settings.Endpoint.{Endpoint}
use Rattle.fts_metrics.specs.Metrics.{link_where}
use Rattle.fts_metrics.specs.Totals.{link_at, link_place, samples_of, StandsAt}
use Rattle.fts_counts.proofs.Places.{listed_at}
use Rattle.fts_metrics.proofs.Texts.{line_more}
use Rattle.fts_metrics.proofs.copies.put_links_from.Goals as goal

pub loop-endpoint-preserved : goal.loop-endpoint-preserved
loop-endpoint-preserved c = λ tables reports listed totals.
    let endpoints = c.args.endpoints.now in
    let source = c.args.source.now in
    let samples = samples_of c.args.metric tables reports in
    let endpoint = c.endpoint-item.result in
    let name = c.as_str-dest.ensures.text in
    let there = listed_at endpoints c.loop-endpoint.endpoint-index endpoint c.loop-endpoint-test.true (sym c.endpoint-item.is) in
    let place : c.link_at-place.result ≡ link_place endpoints source c.as_str-dest.result.now =
    c.link_at-place.ensures ∙ (λ i. link_at (c.place_of-from.ensures i) (c.place_of.ensures i)) in
    let by_name = subst (λ (dest : List ℕ). StandsAt tables reports source dest (link_place endpoints source dest) c.args.totals.now) (sym name)
    (totals source endpoint.name listed there) in
    let stands = subst (λ (place : ℕ). StandsAt tables reports source c.as_str-dest.result.now place c.args.totals.now) (sym place) by_name in
    line_more (λ (endpoint : Endpoint). link_where samples tables.rows source endpoint.name) endpoints c.loop-endpoint.endpoint-index endpoint
    c.loop-endpoint-test.true (sym c.endpoint-item.is) c.args.text.now.items c.loop-endpoint.text.items c.put_link.new.text.items
    (c.loop-endpoint.invariant tables reports listed totals)
    (c.in_ok-put_link.ensures tables reports stands ∙ ap (λ (dest : List ℕ). c.loop-endpoint.text.items ++ link_where samples tables.rows source dest) name)

pub returns : goal.returns
returns c = λ tables reports listed totals.
    let samples = samples_of c.args.metric tables reports in
    let line = λ (endpoint : Endpoint). link_where samples tables.rows c.args.source.now endpoint.name in
    let so_far : c.loop-endpoint.text.items ≡ c.args.text.now.items ++ flat_map line (take c.loop-endpoint.endpoint-index c.args.endpoints.now)
    = c.loop-endpoint.invariant tables reports listed totals in
    let all : c.loop-endpoint.text.items ≡ c.args.text.now.items ++ flat_map line c.args.endpoints.now
    = first_of (search rules, grind (arith, common_steps)) in
    all
