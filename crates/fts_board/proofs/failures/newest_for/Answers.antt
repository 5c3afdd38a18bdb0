-- A report that gives the reason is the newest that does.
use Rattle.std.proofs.Common.{◌∙◌, sym}
use Rattle.fts_board.specs.Snapshot.{is_for}
use Rattle.fts_board.proofs.Lists.{last_passes, last_stays}
use Rattle.fts_board.proofs.failures.newest_for.Goals as goal
use Rattle.fts_board.proofs.failures.newest_for.Goals.{then-is_for, else-is_for}

pub loop-report-preserved : goal.loop-report-preserved
loop-report-preserved c = elim c.if-is_for.branch [
  | then-is_for w ↦ w.newest-is ∙ last_passes (is_for c.args.reason.now) c.args.reports.now c.loop-report.report-index _ c.loop-report-test.true (sym c.is_for.ensures ∙ w.if-is_for.true)
  | else-is_for w ↦ w.newest-is ∙ last_stays (is_for c.args.reason.now) c.args.reports.now c.loop-report.report-index _ c.loop-report-test.true (sym c.is_for.ensures ∙ w.if-is_for.false) _ c.loop-report.invariant
]
