use Rattle.std.proofs.Common.{◌≡◌}
use Rattle.benches.proofs.turnstile.lanes.Given as goal

abbrev pub invariant-loop : goal.invariant-loop
invariant-loop l = (l.first.table ≡ l.initial.first.table) × (l.first.number ≡ 0) × (l.first.given ≡ l.counter)
