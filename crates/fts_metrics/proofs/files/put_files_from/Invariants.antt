use Rattle.std.proofs.Common.{◌≡◌, ◌++◌, true, take, List}
use Rattle.std.specs.Prelude.{map}
use Rattle.std.specs.List.{flat_map}
use Rattle.fts_tables.specs.SettingsData.{is_listed}
use Rattle.fts_tables.specs.declared.rows.FileRow.{FileRow}
use Rattle.fts_tables.specs.declared.settings.Endpoint.{Endpoint}
use Rattle.fts_metrics.specs.Goings.{going_of}
use Rattle.fts_metrics.specs.Metrics.{files_where}
use Rattle.fts_metrics.proofs.files.put_files_from.Given as goal

abbrev pub invariant-loop-endpoint : goal.invariant-loop-endpoint
invariant-loop-endpoint l = (rows : List FileRow) → is_listed l.endpoints l.source ≡ true → l.goings ≡ map (going_of l.endpoints) rows
    → l.text.items ≡ l.initial.text.items ++ flat_map (λ (endpoint : Endpoint). files_where rows l.source endpoint.name) (take l.endpoint-index l.endpoints)
