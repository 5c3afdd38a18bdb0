use Rattle.std.proofs.Common.{◌≡◌, ℕ, ◌≤◌, length, take, vec_capacity}
use Rattle.std.specs.Prelude.{map}
use Rattle.std.specs.List.{filter_map}
use Rattle.fts_tables.specs.declared.rows.FileRow.{FileRow}
use Rattle.fts_metrics.specs.Totals.{report_share}
use Rattle.fts_metrics.proofs.totals.report_shares.Given as goal

abbrev pub invariant-loop-report : goal.invariant-loop-report
invariant-loop-report l = record {
  shares : (place_of : FileRow → ℕ) → l.places ≡ map place_of l.desk.tables.rows
      → l.shares.items ≡ filter_map (report_share l.metric place_of l.desk.tables.rows) (take l.report-index l.reports);
  few : length l.shares.items ≤ l.report-index;
  room : length l.reports ≤ vec_capacity l.shares;
}
