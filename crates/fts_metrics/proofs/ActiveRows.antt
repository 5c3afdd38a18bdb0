-- What is counted of the ACTIVE rows alone is what is counted of all.
use Rattle.std.proofs.Common.{◌≡◌, ◌++◌, ℕ, List, ap, codes}
use Rattle.std.specs.Prelude.{bytes_eq, filter}
use Rattle.std.specs.List.{flat_map}
use Rattle.fts_tables.specs.Tables.{is_active}
use Rattle.fts_tables.specs.Limits.{is_on_link}
use Rattle.fts_tables.specs.declared.rows.FileRow.{FileRow}
use Rattle.fts_tables.specs.declared.settings.Endpoint.{Endpoint}
use Rattle.fts_tables.specs.declared.settings.LinkRule.{LinkRule}
use Rattle.fts_metrics.specs.Form.{head, sample}
use Rattle.fts_metrics.specs.Metrics.{link_labels, link_active_text, endpoint_active_text, both_directions}
use Rattle.fts_counts.proofs.Counting.{count_among}

-- the ACTIVE rows
abbrev pub active_of : List FileRow → List FileRow
active_of rows = filter (λ (row : FileRow). is_active row.state) rows

-- of each link
pub link_active_same : (rows : List FileRow) (links : List LinkRule) → link_active_text (active_of rows) links ≡ link_active_text rows links
link_active_same rows links =
    ap (λ (count : List ℕ → List ℕ → ℕ). head (codes "fts_link_active") (codes "Files that are being copied over a listed link.") (codes "gauge")
    ++ flat_map (λ (link : LinkRule). sample (codes "fts_link_active") (link_labels link.source link.dest) (count link.source link.dest)) links)
    (λ i source dest. count_among (λ (row : FileRow). is_active row.state) (is_on_link source dest) rows i)

-- to each endpoint and from it
pub endpoint_active_same : (rows : List FileRow) (endpoints : List Endpoint) → endpoint_active_text (active_of rows) endpoints ≡ endpoint_active_text rows endpoints
endpoint_active_same rows endpoints = λ i.
    head (codes "fts_endpoint_active") (codes "Files that are being copied to or from a storage.") (codes "gauge")
    ++ flat_map (λ (endpoint : Endpoint). both_directions (codes "fts_endpoint_active") endpoint.name
    (count_among (λ (row : FileRow). is_active row.state) (λ (row : FileRow). bytes_eq row.dest.endpoint endpoint.name) rows i)
    (count_among (λ (row : FileRow). is_active row.state) (λ (row : FileRow). bytes_eq row.source.endpoint endpoint.name) rows i)) endpoints
