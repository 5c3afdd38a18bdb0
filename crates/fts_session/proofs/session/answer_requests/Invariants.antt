-- The loop over the requests of a connection.
use Rattle.std.proofs.Common.{◌≤◌}
use Rattle.fts_session.specs.Connections.{reading_of}
use Rattle.fts_session.specs.Sessions.{thread}
use Rattle.fts_session.proofs.Serving.{SoFar}
use Rattle.fts_session.proofs.session.answer_requests.Given as goal

-- so many requests were answered, a round was made behind each, and no count of faults fell
abbrev pub invariant-loop-done : goal.invariant-loop-done
invariant-loop-done g l = record {
  so_far : SoFar g.D.Disk g.E.Store l.fn.working.bench.places l.fn.room.kept
      (reading_of (g.S.Source.left l.fn.input) (g.S.Source.reads l.fn.input)) (g.K.Sink.held l.fn.output)
      (thread l.fn.working.keep l.fn.working.bench l.fn.working.claims l.fn.store (g.C.Clock.moments l.fn.clock) (g.W.Words.words l.fn.words))
      l.done l.room.kept (reading_of (g.S.Source.left l.input) (g.S.Source.reads l.input)) (g.K.Sink.held l.output)
      (thread l.working.keep l.working.bench l.working.claims l.store (g.C.Clock.moments l.clock) (g.W.Words.words l.words));
  input : g.S.Source.faults l.fn.input ≤ g.S.Source.faults l.input;
  output : g.K.Sink.faults l.fn.output ≤ g.K.Sink.faults l.output;
}
