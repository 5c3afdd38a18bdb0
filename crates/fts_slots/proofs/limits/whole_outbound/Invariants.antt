use Rattle.std.proofs.Common.{◌≡◌, ◌≤◌, ◌*◌, take}
use Rattle.std.specs.Prelude.{sum_by}
use Rattle.fts_tables.specs.declared.settings.Endpoint.{Endpoint}
use Rattle.fts_slots.proofs.limits.whole_outbound.Given as goal

abbrev pub invariant-loop-place : goal.invariant-loop-place
invariant-loop-place loop = record {
  sum : loop.sum ≡ sum_by (λ (endpoint : Endpoint). endpoint.outbound) (take loop.place loop.settings.endpoints);
  small : loop.sum ≤ loop.place * 4294967295;
}
