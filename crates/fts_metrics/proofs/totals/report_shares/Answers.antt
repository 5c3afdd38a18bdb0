-- One report more adds its share.
use Rattle.std.proofs.Common.{arith}
use Rattle.fts_metrics.proofs.LinkTotals.{shares_more, few_more}
use Rattle.fts_metrics.proofs.totals.report_shares.Goals as goal

pub loop-report-preserved : goal.loop-report-preserved
loop-report-preserved c = record {
  shares = λ place_of are. shares_more c.args.metric place_of c.args.desk.now.tables.rows c.args.reports.now c.loop-report.report-index _
      c.loop-report.shares.items c.push_share.new.shares.items c.report_place-place.result c.loop-report-test.true
      (c.report_place-place.ensures place_of are) c.push_share.ensures.added (c.loop-report.invariant.shares place_of are);
  few = few_more c.loop-report.shares.items c.push_share.new.shares.items _ c.loop-report.report-index c.push_share.ensures.added c.loop-report.invariant.few;
  room = omega (arith, c.push_share.ensures.capacity, c.loop-report.invariant.room);
}
