use Rattle.fts_turnstile.specs.Passes.{IsSame}
use Rattle.fts_workers_trial.proofs.threads.turnstile.count_up.Given as goal

abbrev pub invariant-loop-count : goal.invariant-loop-count
invariant-loop-count g l = IsSame l.initial.pass l.pass
