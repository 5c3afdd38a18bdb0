-- The samples of one link more.
use Rattle.std.proofs.Common.{◌++◌, ◌∙◌, List, ℕ, ap, sym}
use Rattle.fts_tables.specs.declared.settings.Endpoint.{Endpoint}
use Rattle.std.specs.Prelude.{◌==◌, filter}
use Rattle.fts_counts.specs.Listed.{place_among}
use Rattle.fts_metrics.specs.declared.goings.Going.{Going}
use Rattle.fts_metrics.specs.Goings.{states_to, states_on}
use Rattle.fts_metrics.specs.Metrics.{files_where}
use Rattle.fts_counts.proofs.Places.{listed_at}
use Rattle.fts_metrics.proofs.Places.{states_between}
use Rattle.fts_metrics.proofs.Texts.{line_more}
use Rattle.fts_metrics.proofs.files.put_files_from.Goals as goal

pub loop-endpoint-preserved : goal.loop-endpoint-preserved
loop-endpoint-preserved c = λ rows listed goings.
    let endpoints = c.args.endpoints.now in
    let source = c.args.source.now in
    let endpoint = c.endpoint-item.result in
    let name = c.as_str-dest.ensures.text in
    let there = listed_at endpoints c.loop-endpoint.endpoint-index endpoint c.loop-endpoint-test.true (sym c.endpoint-item.is) in
    let away = c.deref.ensures.value ∙ c.in_ok-away.ensures ∙ (λ i. filter (λ (going : Going). going.source == c.place_of-from.ensures i) (goings i)) in
    let states = c.deref-in-loop-endpoint.ensures.value ∙ c.in_ok-states.ensures ∙ (λ i. states_to ((c.place_of.ensures ∙ ap (place_among endpoints) name) i) (away i))
    ∙ states_between endpoints source endpoint.name listed there rows ∙ ap (λ (dest : List ℕ). states_on source dest rows) (sym name) in
    line_more (λ (endpoint : Endpoint). files_where rows source endpoint.name) endpoints c.loop-endpoint.endpoint-index endpoint c.loop-endpoint-test.true
    (sym c.endpoint-item.is) c.args.text.now.items c.loop-endpoint.text.items c.put_files_where.new.text.items (c.loop-endpoint.invariant rows listed goings)
    (c.in_ok-put_files_where.ensures rows states ∙ ap (λ (dest : List ℕ). c.loop-endpoint.text.items ++ files_where rows source dest) name)
