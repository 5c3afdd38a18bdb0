-- What follows from the answers that are left follows from all of them.
use Rattle.std.proofs.Common.{◌-◌}
use Rattle.fts_devices.specs.Accepting.{GivesLine}
use Rattle.fts_devices.proofs.accepting.next_line.Given as goal

abbrev pub invariant-loop : goal.invariant-loop
invariant-loop g l = record {
  line : (left : _) (line : _) → GivesLine (18446744073709551615 - l.counter) (g.L.Listens.answers l.listener) left line
      → GivesLine 18446744073709551615 (g.L.Listens.answers l.initial.listener) left line;
}
