-- A report counts by the pair of its row, and by no other.
use Rattle.std.proofs.Common.{◌∙◌, ap, sym, arith, refl, zero-add, Vec, Global}
use Rattle.fts_board.specs.Tallied.{is_report_by, report_tally_of, report_tally_with}
use Rattle.fts_board.specs.declared.tallies.ReportTally.{ReportTally}
use Rattle.fts_board.proofs.Summed.{tallies_none, tallies_same, tallies_more}
use Rattle.fts_board.proofs.Tallied.{report_tally_more, reported_by_one}
use Rattle.fts_board.proofs.tallies.report_tallies.Goals as goal
use Rattle.fts_board.proofs.tallies.report_tallies.Goals.{in-Some, in_default}

pub loop-report-init : goal.loop-report-init
loop-report-init c =
    c.in_ok-tallies.ensures.items_if_clones_equal (λ y same. same)
    ∙ tallies_none (is_report_by c.args.endpoints.now c.args.desk.now.tables.rows) report_tally_of _ refl 0 c.pairs_of-count.result

pub loop-report-preserved : goal.loop-report-preserved
loop-report-preserved c =
    let endpoints = c.args.endpoints.now in
    let rows = c.args.desk.now.tables.rows in
    let count = c.pairs_of-count.result in
    elim c.match-pair_of_report.branch [
      | in-Some w ↦ ap (λ (v : Vec ReportTally Global). v.items) w.tallies-is
          ∙ tallies_more (is_report_by endpoints rows) report_tally_of c.args.reports.now c.loop-report.report-index _ c.loop-report-test.true
          report_tally_with (λ before. report_tally_more before _)
          0 count w.in-Some.pair w.in-Some.pair w.in-Some.ensures.within (sym (zero-add w.in-Some.pair)) (w.in-Some.ensures.there endpoints c.requires.known)
          (reported_by_one endpoints rows) w.index.result.now c.loop-report.tallies.items c.loop-report.invariant w.index.ensures w.with.result w.with.ensures
      | in_default w ↦ ap (λ (v : Vec ReportTally Global). v.items) w.tallies-is
          ∙ tallies_same (is_report_by endpoints rows) report_tally_of c.args.reports.now c.loop-report.report-index _ c.loop-report-test.true
          0 count (λ pair low high. w.in_default.ensures.nowhere endpoints c.requires.known refl pair (omega arith)) c.loop-report.tallies.items c.loop-report.invariant
    ]
