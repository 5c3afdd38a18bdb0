use Rattle.std.proofs.Common.{◌≡◌, ◌≤◌, ◌*◌, take, sum}
use Rattle.fts_tables.specs.Choice.{shares}
use Rattle.fts_choice.proofs.weights.total.Given as goal

abbrev pub invariant-loop-place : goal.invariant-loop-place
invariant-loop-place l = record {
  total : l.total ≡ sum (take l.place (shares l.weights l.waiting));
  small : l.total ≤ l.place * 4294967295;
}
