-- The ranks of the endpoints passed so far, and room for those of all.
use Rattle.std.proofs.Common.{◌≡◌, ◌≤◌, length, map, take}
use Rattle.std.specs.Prelude.{vec_capacity}
use Rattle.fts_tables.specs.declared.settings.Endpoint.{Endpoint}
use Rattle.fts_slots.specs.Ranks.{rank_of}
use Rattle.fts_slots.proofs.ranks.push_ranks.Given as goal

abbrev pub invariant-loop-place : goal.invariant-loop-place
invariant-loop-place l = record {
  ranks : l.ranks.items ≡ map (λ (endpoint : Endpoint). rank_of l.endpoints endpoint.name) (take l.place l.endpoints);
  room : length l.endpoints ≤ vec_capacity l.ranks;
}
