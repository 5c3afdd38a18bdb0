-- The bed is ready for a round all the while.
use Rattle.fts_workers_trial.specs.Ready.{IsReady}
use Rattle.fts_workers_trial.proofs.rounds.tests.play.Given as goal

abbrev pub invariant-loop-line : goal.invariant-loop-line
invariant-loop-line g l = IsReady l.bed.keep l.bed.bench
