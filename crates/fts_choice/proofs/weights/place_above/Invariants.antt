use Rattle.std.proofs.Common.{◌≡◌, ◌≤◌, ◌*◌, take, sum}
use Rattle.fts_tables.specs.Choice.{shares}
use Rattle.fts_choice.proofs.weights.place_above.Given as goal

abbrev pub invariant-loop-place : goal.invariant-loop-place
invariant-loop-place l = record {
  running : l.running ≡ sum (take l.place (shares l.weights l.waiting));
  below : l.running ≤ l.number;
  small : l.running ≤ l.place * 4294967295;
}
