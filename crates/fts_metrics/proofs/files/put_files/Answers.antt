-- The samples of the links from one endpoint more.
use Rattle.std.proofs.Common.{codes, ◌≡◌, ◌++◌, ◌∙◌, List, ℕ, take, ap, sym, arith, rules}
use Rattle.std.proofs.lemmas.Grind.{common_steps}
use Rattle.std.specs.List.{flat_map}
use Rattle.fts_tables.specs.declared.settings.Endpoint.{Endpoint}
use Rattle.fts_metrics.specs.Form.{head}
use Rattle.fts_metrics.specs.Metrics.{files_from}
use Rattle.fts_tables.specs.SettingsData.{is_listed}
use Rattle.fts_counts.proofs.Places.{listed_at}
use Rattle.fts_metrics.proofs.Texts.{goes_on, line_more}
use Rattle.fts_metrics.proofs.files.put_files.Goals as goal

pub loop-endpoint-preserved : goal.loop-endpoint-preserved
loop-endpoint-preserved c = λ rows goings.
    let endpoints = c.args.endpoints.now in
    let endpoint = c.endpoint-item.result in
    let name = c.as_str-source.ensures.text in
    let listed = ap (is_listed endpoints) name
    ∙ listed_at endpoints c.loop-endpoint.endpoint-index endpoint c.loop-endpoint-test.true (sym c.endpoint-item.is) in
    line_more (λ (endpoint : Endpoint). files_from rows endpoints endpoint.name) endpoints c.loop-endpoint.endpoint-index endpoint c.loop-endpoint-test.true
    (sym c.endpoint-item.is) c.put_head.new.text.items c.loop-endpoint.text.items c.put_files_from.new.text.items (c.loop-endpoint.invariant rows goings)
    (c.in_ok-put_files_from.ensures rows listed goings ∙ ap (λ (name : List ℕ). c.loop-endpoint.text.items ++ files_from rows endpoints name) name)

pub returns : goal.returns
returns c = λ rows goings.
    let line = λ (endpoint : Endpoint). files_from rows c.args.endpoints.now endpoint.name in
    let so_far : c.loop-endpoint.text.items ≡ c.put_head.new.text.items ++ flat_map line (take c.loop-endpoint.endpoint-index c.args.endpoints.now)
    = c.loop-endpoint.invariant rows goings in
    let all : c.loop-endpoint.text.items ≡ c.put_head.new.text.items ++ flat_map line c.args.endpoints.now
    = first_of (search rules, grind (arith, common_steps)) in
    goes_on c.args.text.now.items c.put_head.new.text.items c.loop-endpoint.text.items
    (head (codes "fts_files") (codes "Files of each link by state.") (codes "gauge"))
    (flat_map line c.args.endpoints.now)
    c.in_ok-put_head.ensures all
