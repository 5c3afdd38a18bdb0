-- The loop over the lines of a lane.
use Rattle.std.proofs.Common.{◌≤◌}
use Rattle.fts_turnstile.specs.Passes.{IsSame}
use Rattle.fts_service.specs.Lanes.{standing}
use Rattle.fts_service.proofs.Passing.{Serving}
use Rattle.fts_service.proofs.lane.serve_lines.Given as goal

-- some lines were served and handed back, over one pass, and the count of failed doors did not fall
abbrev pub invariant-loop : goal.invariant-loop
invariant-loop g l = record {
  so_far : Serving
      (record { left = g.A.Line.Source.left; reads = g.A.Line.Source.reads; held = g.A.Line.Sink.held; read_faults = g.A.Line.Source.faults; write_faults = g.A.Line.Sink.faults })
      l.connections l.left (standing l.fn.booth.pass (g.C.Clock.moments l.fn.booth.lane.clock)) (standing l.booth.pass (g.C.Clock.moments l.booth.lane.clock))
      (g.A.Doors.doors l.fn.booth.lane.doors) (g.A.Doors.doors l.booth.lane.doors);
  same : IsSame l.fn.booth.pass l.booth.pass;
  keeps : g.A.Doors.faults l.fn.booth.lane.doors ≤ g.A.Doors.faults l.booth.lane.doors;
}
