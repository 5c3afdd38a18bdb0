-- A storage more.
use Rattle.std.proofs.Common.{◌≡◌, ◌++◌, [], ◌∷◌, ◌∙◌, List, Bor, ap, sym, map, arith, rules}
use Rattle.std.proofs.lemmas.Grind.{common_steps}
use Rattle.serde_json.specs.Data.{Data, array}
use Rattle.serde_json.specs.View.{view, items_of}
use Rattle.fts_tables.specs.declared.rows.FileRow.{FileRow}
use Rattle.fts_board.specs.Snapshot.{storage_object}
use Rattle.fts_board.proofs.Lists.{read_more}
use Rattle.fts_board.proofs.storages.storages_over.Goals as goal

pub loop-endpoint-preserved : goal.loop-endpoint-preserved
loop-endpoint-preserved c =
    let rows = map (λ (row : Bor FileRow). row.now) c.args.rows.now in
    read_more (storage_object rows) c.args.endpoints.now c.loop-endpoint.endpoint-index c.endpoint-item.result c.loop-endpoint-test.true (sym c.endpoint-item.is)
    (map view c.loop-endpoint.list.items) (map view c.push_value.new.list.items) c.loop-endpoint.invariant
    (c.in_ok-push_value.ensures ∙ ap (λ (value : Data). map view c.loop-endpoint.list.items ++ value ∷ []) c.in_ok-value.ensures)

pub returns : goal.returns
returns c =
    let rows = map (λ (row : Bor FileRow). row.now) c.args.rows.now in
    let all : map view c.loop-endpoint.list.items ≡ map (storage_object rows) c.args.endpoints.now = first_of (search rules, grind (arith, common_steps)) in
    c.array_from.ensures ∙ ap (λ (l : List Data). array (items_of l)) all
