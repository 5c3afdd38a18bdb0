use Rattle.std.proofs.Common.{◌≡◌, ◌++◌, true, take, List}
use Rattle.std.specs.List.{flat_map}
use Rattle.fts_tables.specs.SettingsData.{is_listed}
use Rattle.fts_tables.specs.Tables.{Tables}
use Rattle.fts_tables.specs.declared.settings.Endpoint.{Endpoint}
use Rattle.fts_chronicle.specs.declared.chronicle.CopyReport.{CopyReport}
use Rattle.fts_metrics.specs.Metrics.{link_where}
use Rattle.fts_metrics.specs.Totals.{samples_of, AreTotals}
use Rattle.fts_metrics.proofs.copies.put_links_from.Given as goal

abbrev pub invariant-loop-endpoint : goal.invariant-loop-endpoint
invariant-loop-endpoint l = (tables : Tables) (reports : List CopyReport) → is_listed l.endpoints l.source ≡ true
    → AreTotals l.endpoints tables reports l.totals
    → l.text.items ≡ l.initial.text.items
    ++ flat_map (λ (endpoint : Endpoint). link_where (samples_of l.metric tables reports) tables.rows l.source endpoint.name) (take l.endpoint-index l.endpoints)
