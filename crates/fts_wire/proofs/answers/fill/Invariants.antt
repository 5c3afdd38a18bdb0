-- The bytes so far were taken piece by piece, each behind less than a response.
use Rattle.std.proofs.Common.{◌≡◌, ◌-◌, ◌≤◌, length}
use Rattle.fts_wire.specs.AnswerTaken.{TakesAnswer}
use Rattle.fts_wire.proofs.answers.fill.Given as goal

abbrev pub invariant-reading : goal.invariant-reading
invariant-reading g l = record {
  takes : TakesAnswer (g.S.Source.left l.fn.source) l.buffer (g.S.Source.left l.source)
      (g.S.Source.reads l.fn.source) (g.S.Source.reads l.source) 0;
  faults : g.S.Source.faults l.fn.source ≤ g.S.Source.faults l.source;
  beside : g.S.Source.beside l.source ≡ g.S.Source.beside l.fn.source;
}

abbrev pub decreases-reading : goal.decreases-reading
decreases-reading g l = 8455568 - length l.buffer
