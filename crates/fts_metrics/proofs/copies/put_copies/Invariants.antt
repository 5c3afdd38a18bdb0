use Rattle.std.proofs.Common.{◌≡◌, ◌++◌, take, List}
use Rattle.std.specs.List.{flat_map}
use Rattle.fts_tables.specs.Tables.{Tables}
use Rattle.fts_tables.specs.declared.settings.Endpoint.{Endpoint}
use Rattle.fts_chronicle.specs.declared.chronicle.CopyReport.{CopyReport}
use Rattle.fts_metrics.specs.Metrics.{links_from}
use Rattle.fts_metrics.specs.Totals.{samples_of, AreTotals}
use Rattle.fts_metrics.proofs.copies.put_copies.Given as goal

abbrev pub invariant-loop-endpoint : goal.invariant-loop-endpoint
invariant-loop-endpoint l = (tables : Tables) (reports : List CopyReport) → AreTotals l.endpoints tables reports l.totals
    → l.text.items ≡ l.initial.text.items
    ++ flat_map (λ (endpoint : Endpoint). links_from (samples_of l.metric tables reports) tables.rows l.endpoints endpoint.name) (take l.endpoint-index l.endpoints)
