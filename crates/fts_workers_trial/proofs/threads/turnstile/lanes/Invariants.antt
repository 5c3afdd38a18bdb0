use Rattle.std.proofs.Common.{◌≡◌, ◌+◌}
use Rattle.fts_workers_trial.proofs.threads.turnstile.lanes.Given as goal

abbrev pub invariant-loop : goal.invariant-loop
invariant-loop l = (l.first.table ≡ l.initial.first.table) × (l.first.number ≡ 0) × (l.first.given + 1 ≡ l.counter)
