use Rattle.std.proofs.Common.{◌≡◌, ◌+◌, ◌≤◌, ◌++◌, length, map, vec_capacity}
use Rattle.fts_service.proofs.seats.leave_stations.Given as goal

abbrev pub invariant-loop-stations : goal.invariant-loop-stations
invariant-loop-stations g l = record {
  hands : l.hands.items ++ map (λ station. station.hand) l.stations.items ≡ l.initial.hands.items ++ map (λ station. station.hand) l.initial.stations.items;
  passes : l.passes.items ++ map (λ station. station.pass) l.stations.items ≡ l.initial.passes.items ++ map (λ station. station.pass) l.initial.stations.items;
  hands_room : length l.hands.items + length l.stations.items ≤ vec_capacity l.hands;
  passes_room : length l.passes.items + length l.stations.items ≤ vec_capacity l.passes;
  hands_kept : vec_capacity l.hands ≡ vec_capacity l.initial.hands;
  passes_kept : vec_capacity l.passes ≡ vec_capacity l.initial.passes;
}

abbrev pub decreases-loop-stations : goal.decreases-loop-stations
decreases-loop-stations g l = length l.stations.items
