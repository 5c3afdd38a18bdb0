-- A report counts in the step that it ended in, where it is asked for, and nowhere else.
use Rattle.std.proofs.Common.{◌+◌, ◌∙◌, ap, arith, refl, Vec, Global}
use Rattle.fts_board.specs.History.{question_of, ends_in}
use Rattle.fts_board.specs.Steps.{ended_of, ended_with}
use Rattle.fts_board.specs.declared.steps.Ended.{Ended}
use Rattle.fts_board.proofs.Summed.{tallies_none, tallies_same, tallies_more}
use Rattle.fts_board.proofs.Counted.{few_finished, few_failed, elsewhere, ended_more}
use Rattle.fts_board.proofs.steps.ended_by_step.Goals as goal
use Rattle.fts_board.proofs.steps.ended_by_step.Goals.{in-Some, in_default}

pub loop-report-init : goal.loop-report-init
loop-report-init c =
    c.in_ok-ended.ensures.items_if_clones_equal (λ y same. same)
    ∙ tallies_none (ends_in c.args.desk.now.tables.rows (question_of c.args.asked.now)) ended_of _ refl c.args.steps.first c.args.steps.count

pub with-requires-clause-finished : goal.with-requires-clause-finished
with-requires-clause-finished c = omega (
  arith,
  few_finished c.args.desk.now.tables.rows (question_of c.args.asked.now) c.args.steps.first c.args.steps.count c.args.reports.now c.loop-report.report-index c.in-Some.place
      c.index.result.now c.loop-report.ended.items c.loop-report-test.true c.loop-report.invariant c.in-Some.ensures.inside c.index.ensures,
)

pub with-requires-clause-failed : goal.with-requires-clause-failed
with-requires-clause-failed c = omega (
  arith,
  few_failed c.args.desk.now.tables.rows (question_of c.args.asked.now) c.args.steps.first c.args.steps.count c.args.reports.now c.loop-report.report-index c.in-Some.place
      c.index.result.now c.loop-report.ended.items c.loop-report-test.true c.loop-report.invariant c.in-Some.ensures.inside c.index.ensures,
)

pub loop-report-preserved : goal.loop-report-preserved
loop-report-preserved c =
    let rows = c.args.desk.now.tables.rows in
    let asked = (question_of c.args.asked.now) in
    let first = c.args.steps.first in
    elim c.match-place_of.branch [
      | in-Some w ↦ ap (λ (v : Vec Ended Global). v.items) w.ended-is
          ∙ tallies_more (ends_in rows asked) ended_of c.args.reports.now c.loop-report.report-index _ c.loop-report-test.true
          (λ ended report. ended_with ended report.outcome) (λ before. ended_more before _)
          first c.args.steps.count w.in-Some.place (first + w.in-Some.place) w.in-Some.ensures.inside refl w.in-Some.ensures.there
          (elsewhere rows asked)
          w.index.result.now c.loop-report.ended.items c.loop-report.invariant w.index.ensures w.with.result w.with.ensures
      | in_default w ↦ ap (λ (v : Vec Ended Global). v.items) w.ended-is
          ∙ tallies_same (ends_in rows asked) ended_of c.args.reports.now c.loop-report.report-index _ c.loop-report-test.true
          first c.args.steps.count (w.in_default.ensures.nowhere refl) c.loop-report.ended.items c.loop-report.invariant
    ]
