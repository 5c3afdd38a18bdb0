-- What is counted of the ACTIVE rows alone is what is counted of all.
use Rattle.std.proofs.Common.{◌≡◌, ◌∙◌, List, [], ◌∷◌, Bor, ap, subst, codes}
use Rattle.std.specs.Prelude.{IfOk, bytes_eq, filter, map}
use Rattle.serde_json.specs.Data.{Data, string, array}
use Rattle.serde_json.specs.View.{view, items_of}
use Rattle.fts_tables.specs.Tables.{is_active}
use Rattle.fts_tables.specs.declared.rows.FileRow.{FileRow}
use Rattle.fts_tables.specs.declared.settings.Endpoint.{Endpoint}
use Rattle.fts_board.specs.Json.{array_of, object_of, whole_number}
use Rattle.fts_board.specs.Snapshot.{storage_object}
use Rattle.fts_counts.proofs.Counting.{count_among}
use Rattle.fts_board.proofs.Lists.{read_alike}
use Rattle.fts_board.proofs.storages.storages_value.Goals as goal

-- a storage over the ACTIVE rows
same_storage : (rows : List FileRow) (endpoint : Endpoint) → storage_object (filter (λ (row : FileRow). is_active row.state) rows) endpoint ≡ storage_object rows endpoint
same_storage rows endpoint = λ i. object_of (
    (codes "inbound_active", whole_number (count_among (λ (row : FileRow). is_active row.state) (λ (row : FileRow). bytes_eq row.dest.endpoint endpoint.name) rows i))
    ∷ (codes "inbound_max_active", whole_number endpoint.inbound)
    ∷ (codes "outbound_active", whole_number (count_among (λ (row : FileRow). is_active row.state) (λ (row : FileRow). bytes_eq row.source.endpoint endpoint.name) rows i))
    ∷ (codes "outbound_max_active", whole_number endpoint.outbound)
    ∷ (codes "storage", string endpoint.name)
    ∷ [])

pub returns : goal.returns
returns c =
    let rows = c.args.rows.now in
    let endpoints = c.args.endpoints.now in
    let rows_of = λ (seen : List (Bor FileRow)). map (λ (row : Bor FileRow). row.now) seen in
    let active = ap rows_of c.deref.ensures.value ∙ c.in_ok-active.ensures in
    let all = ap (λ (rows : List FileRow). array_of (storage_object rows) endpoints) active
    ∙ ap (λ (l : List Data). array (items_of l)) (read_alike (storage_object (filter (λ (row : FileRow). is_active row.state) rows)) (storage_object rows) (same_storage rows) endpoints) in
    subst (λ (wanted : Data). IfOk c.storages_over.result (λ value. view value ≡ wanted)) all c.storages_over.ensures
