-- The loop over the requests of a line.
use Rattle.std.proofs.Common.{◌≤◌}
use Rattle.fts_turnstile.specs.Passes.{IsSame}
use Rattle.fts_service.specs.Lanes.{standing}
use Rattle.fts_service.proofs.Lines.{SoFar}
use Rattle.fts_service.proofs.connection.serve_connection.Given as goal

-- so many requests were answered, over one pass, and no count of faults fell
abbrev pub invariant-loop-done : goal.invariant-loop-done
invariant-loop-done g l = record {
  so_far : SoFar
      (record { bytes = g.L.Source.left; faults = g.L.Source.faults; reads = g.L.Source.reads; beside = g.L.Source.beside })
      (record { bytes = g.L.Sink.held; faults = g.L.Sink.faults; reads = λ _. 0; beside = g.L.Sink.beside })
      (standing l.fn.pass (g.C.Clock.moments l.fn.clock)) l.fn.line l.done l.room.kept l.line (standing l.pass (g.C.Clock.moments l.clock));
  same : IsSame l.fn.pass l.pass;
  input : g.L.Source.faults l.fn.line ≤ g.L.Source.faults l.line;
  output : g.L.Sink.faults l.fn.line ≤ g.L.Sink.faults l.line;
}
