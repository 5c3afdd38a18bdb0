-- The files that were worked off so far; each one more leaves one fewer.
use Rattle.std.proofs.Common.{length}
use Rattle.fts_workers.proofs.Looping.{WorkedOff}
use Rattle.fts_workers.proofs.rounds.work_off.Given as goal

abbrev pub invariant-loop-keep : goal.invariant-loop-keep
invariant-loop-keep g l = WorkedOff g.D.Disk.state g.D.Disk.faults g.E.Store.state g.E.Store.calls g.E.Store.faults
    l.initial.keep l.keep l.initial.bench l.bench l.initial.store l.store (g.C.Clock.moments l.initial.clock) (g.C.Clock.moments l.clock)

abbrev pub decreases-loop-keep : goal.decreases-loop-keep
decreases-loop-keep g l = length l.bench.held
