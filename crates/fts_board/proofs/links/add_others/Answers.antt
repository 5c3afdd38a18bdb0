-- The links from one endpoint more.
use Rattle.std.proofs.Common.{◌++◌, ◌∙◌, List, ap, sym, map}
use Rattle.std.specs.List.{flat_map}
use Rattle.fts_tables.specs.SettingsData.{is_listed}
use Rattle.fts_tables.specs.declared.settings.Endpoint.{Endpoint}
use Rattle.fts_counts.specs.Listed.{endpoints_of}
use Rattle.fts_board.specs.Snapshot.{others_at, others_from}
use Rattle.fts_board.specs.Boards.{shown_link}
use Rattle.fts_board.proofs.Lists.{more_of}
use Rattle.fts_counts.proofs.Places.{listed_at}
use Rattle.fts_board.proofs.links.add_others.Goals as goal

pub loop-endpoint-preserved : goal.loop-endpoint-preserved
loop-endpoint-preserved c = λ tables reports board same.
    let endpoints = c.args.endpoints.now in
    let endpoint = c.endpoint-item.result in
    let name = c.as_str-source.ensures.text in
    let from = ap (is_listed (endpoints_of tables.settings)) name ∙ ap (λ (l : List Endpoint). is_listed l endpoint.name) (sym same)
    ∙ listed_at endpoints c.loop-endpoint.endpoint-index endpoint c.loop-endpoint-test.true (sym c.endpoint-item.is) in
    more_of (λ (endpoint : Endpoint). others_from tables reports endpoint.name) endpoints c.loop-endpoint.endpoint-index endpoint c.loop-endpoint-test.true
    (sym c.endpoint-item.is) (map shown_link c.args.links.now.items) (map shown_link c.loop-endpoint.links.items) (map shown_link c.add_others_from.new.links.items)
    (c.loop-endpoint.invariant tables reports board same)
    (c.in_ok-add_others_from.ensures tables reports board same from ∙ (λ i. map shown_link c.loop-endpoint.links.items ++ flat_map (λ (dest : Endpoint). others_at tables reports (name i) dest.name) (same i)))
