use Rattle.std.proofs.Common.{◌≡◌, ◌≤◌, ◌*◌, take}
use Rattle.fts_laws.specs.Attempts.{attempts_in}
use Rattle.fts_laws.proofs.attempts.count_attempts.Given as goal

abbrev pub invariant-loop-row : goal.invariant-loop-row
invariant-loop-row loop = record {
  sum : loop.sum ≡ attempts_in (take loop.row-index loop.rows);
  small : loop.sum ≤ loop.row-index * 4294967295;
}
