use Rattle.std.proofs.Common.{◌≡◌, [], length, All}
use Rattle.fts_service.proofs.opening.make_benches.Given as goal

abbrev pub invariant-loop : goal.invariant-loop
invariant-loop l = record {
  count : length l.benches.items ≡ l.counter;
  held : All (λ bench. bench.held ≡ []) l.benches.items;
}
