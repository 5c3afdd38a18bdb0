-- The files that were claimed so far; each one more leaves one place fewer.
use Rattle.std.proofs.Common.{◌-◌, length}
use Rattle.fts_workers.proofs.Looping.{FilledUp}
use Rattle.fts_workers.proofs.rounds.fill_up.Given as goal

abbrev pub invariant-loop-keep : goal.invariant-loop-keep
invariant-loop-keep g l = FilledUp g.D.Disk.state g.D.Disk.faults l.initial.keep l.keep l.initial.bench l.bench
    (g.C.Clock.moments l.initial.clock) (g.C.Clock.moments l.clock) (g.W.Words.words l.initial.words) (g.W.Words.words l.words)

abbrev pub decreases-loop-keep : goal.decreases-loop-keep
decreases-loop-keep g l = l.bench.places - length l.bench.held
