use Rattle.std.proofs.Common.{◌≡◌, ◌++◌, take, List}
use Rattle.std.specs.Prelude.{map}
use Rattle.std.specs.List.{flat_map}
use Rattle.fts_tables.specs.declared.rows.FileRow.{FileRow}
use Rattle.fts_tables.specs.declared.settings.Endpoint.{Endpoint}
use Rattle.fts_metrics.specs.Goings.{going_of}
use Rattle.fts_metrics.specs.Metrics.{files_from}
use Rattle.fts_metrics.proofs.files.put_files.Given as goal

abbrev pub invariant-loop-endpoint : goal.invariant-loop-endpoint
invariant-loop-endpoint l = (rows : List FileRow) → l.goings ≡ map (going_of l.endpoints) rows
    → l.text.items ≡ l.initial.text.items ++ flat_map (λ (endpoint : Endpoint). files_from rows l.endpoints endpoint.name) (take l.endpoint-index l.endpoints)
