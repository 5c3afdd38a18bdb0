-- The link to one endpoint more.
use Rattle.std.proofs.Common.{◌++◌, ◌∙◌, List, ℕ, ap, sym, map}
use Rattle.fts_tables.specs.SettingsData.{is_listed}
use Rattle.fts_tables.specs.declared.settings.Endpoint.{Endpoint}
use Rattle.fts_counts.specs.Listed.{endpoints_of}
use Rattle.fts_board.specs.Snapshot.{others_at}
use Rattle.fts_board.specs.Boards.{shown_link}
use Rattle.fts_board.proofs.Lists.{more_of}
use Rattle.fts_counts.proofs.Places.{listed_at}
use Rattle.fts_board.proofs.links.add_others_from.Goals as goal

pub loop-endpoint-preserved : goal.loop-endpoint-preserved
loop-endpoint-preserved c = λ tables reports board same from.
    let endpoints = c.args.endpoints.now in
    let source = c.args.source.now in
    let endpoint = c.endpoint-item.result in
    let name = c.as_str-dest.ensures.text in
    let to = ap (is_listed (endpoints_of tables.settings)) name ∙ ap (λ (l : List Endpoint). is_listed l endpoint.name) (sym same)
    ∙ listed_at endpoints c.loop-endpoint.endpoint-index endpoint c.loop-endpoint-test.true (sym c.endpoint-item.is) in
    more_of (λ (endpoint : Endpoint). others_at tables reports source endpoint.name) endpoints c.loop-endpoint.endpoint-index endpoint c.loop-endpoint-test.true
    (sym c.endpoint-item.is) (map shown_link c.args.links.now.items) (map shown_link c.loop-endpoint.links.items) (map shown_link c.add_other.new.links.items)
    (c.loop-endpoint.invariant tables reports board same from)
    (c.in_ok-add_other.ensures tables reports board from to ∙ ap (λ (dest : List ℕ). map shown_link c.loop-endpoint.links.items ++ others_at tables reports source dest) name)
