use Rattle.std.proofs.Common.{◌≡◌, ◌++◌, take, drop, vec_capacity}
use Rattle.fts_service.proofs.seats.cycle.Given as goal

abbrev pub invariant-loop : goal.invariant-loop
invariant-loop g l = record {
  items : l.items.items ≡ drop l.counter l.initial.items.items ++ take l.counter l.initial.items.items;
  kept : vec_capacity l.items ≡ vec_capacity l.initial.items;
}
