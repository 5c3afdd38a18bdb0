-- Each step has what the reports so far say of it.
use Rattle.std.proofs.Common.{◌≡◌, take}
use Rattle.fts_board.specs.History.{question_of}
use Rattle.fts_board.specs.Steps.{ended_from}
use Rattle.fts_board.proofs.steps.ended_by_step.Given as goal

abbrev pub invariant-loop-report : goal.invariant-loop-report
invariant-loop-report l = l.ended.items ≡ ended_from l.desk.tables.rows (take l.report-index l.reports) (question_of l.asked) l.steps.first l.steps.count
