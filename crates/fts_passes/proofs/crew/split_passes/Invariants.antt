use Rattle.std.proofs.Common.{◌≡◌, ◌+◌, ◌≤◌, vec_len, vec_capacity}
use Rattle.fts_passes.specs.Crews.{passes_given}
use Rattle.fts_passes.proofs.crew.split_passes.Given as goal

abbrev pub invariant-loop : goal.invariant-loop
invariant-loop g l = record {
  given : l.first ≡ record l.initial.first { given = l.initial.first.given + l.counter };
  passes : l.passes.items ≡ passes_given l.initial.first l.counter;
  so_many : vec_len l.passes ≡ l.counter;
  room : l.initial.count ≤ vec_capacity l.passes;
}
