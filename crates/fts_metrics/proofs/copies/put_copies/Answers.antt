-- The head, and the samples of the links from one endpoint more.
use Rattle.std.proofs.Common.{◌≡◌, ◌++◌, ◌∙◌, List, ℕ, take, ap, sym, arith, rules}
use Rattle.std.specs.List.{flat_map}
use Rattle.std.proofs.lemmas.Grind.{common_steps}
use Rattle.fts_tables.specs.SettingsData.{is_listed}
use Rattle.fts_tables.specs.declared.settings.Endpoint.{Endpoint}
use Rattle.fts_metrics.specs.Metrics.{links_from}
use Rattle.fts_metrics.specs.Totals.{copies_head, samples_of}
use Rattle.fts_counts.proofs.Places.{listed_at}
use Rattle.fts_metrics.proofs.Texts.{goes_on, line_more}
use Rattle.fts_metrics.proofs.copies.put_copies.Goals as goal

pub loop-endpoint-preserved : goal.loop-endpoint-preserved
loop-endpoint-preserved c = λ tables reports totals.
    let endpoints = c.args.endpoints.now in
    let samples = samples_of c.args.metric tables reports in
    let endpoint = c.endpoint-item.result in
    let name = c.as_str-source.ensures.text in
    let listed = ap (is_listed endpoints) name
    ∙ listed_at endpoints c.loop-endpoint.endpoint-index endpoint c.loop-endpoint-test.true (sym c.endpoint-item.is) in
    line_more (λ (endpoint : Endpoint). links_from samples tables.rows endpoints endpoint.name) endpoints c.loop-endpoint.endpoint-index endpoint
    c.loop-endpoint-test.true (sym c.endpoint-item.is) c.put_copies_head.new.text.items c.loop-endpoint.text.items c.put_links_from.new.text.items
    (c.loop-endpoint.invariant tables reports totals)
    (c.in_ok-put_links_from.ensures tables reports listed totals
    ∙ ap (λ (name : List ℕ). c.loop-endpoint.text.items ++ links_from samples tables.rows endpoints name) name)

pub returns : goal.returns
returns c = λ tables reports totals.
    let samples = samples_of c.args.metric tables reports in
    let line = λ (endpoint : Endpoint). links_from samples tables.rows c.args.endpoints.now endpoint.name in
    let so_far : c.loop-endpoint.text.items ≡ c.put_copies_head.new.text.items ++ flat_map line (take c.loop-endpoint.endpoint-index c.args.endpoints.now)
    = c.loop-endpoint.invariant tables reports totals in
    let all : c.loop-endpoint.text.items ≡ c.put_copies_head.new.text.items ++ flat_map line c.args.endpoints.now
    = first_of (search rules, grind (arith, common_steps)) in
    goes_on _ _ _ (copies_head c.args.metric) (flat_map line c.args.endpoints.now) c.in_ok-put_copies_head.ensures all
