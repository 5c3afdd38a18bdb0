-- Each pair has what the reports so far say of it.
use Rattle.std.proofs.Common.{◌≡◌, take}
use Rattle.fts_board.specs.Tallied.{report_tallies_of}
use Rattle.fts_board.proofs.tallies.report_tallies.Given as goal

abbrev pub invariant-loop-report : goal.invariant-loop-report
invariant-loop-report l = l.tallies.items ≡ report_tallies_of l.fn.endpoints l.desk.tables.rows (take l.report-index l.reports) l.count
