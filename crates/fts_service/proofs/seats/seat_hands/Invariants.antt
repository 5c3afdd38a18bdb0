use Rattle.std.proofs.Common.{◌≡◌, ◌+◌, ◌≤◌, ◌++◌, length, drop, vec_capacity}
use Rattle.fts_service.specs.Seats.{stations_of}
use Rattle.fts_service.proofs.seats.seat_hands.Given as goal

abbrev pub invariant-loop-hands : goal.invariant-loop-hands
invariant-loop-hands g l = record {
  stations : l.stations.items ++ stations_of l.hands.items l.benches.items l.passes.items
      ≡ l.initial.stations.items ++ stations_of l.initial.hands.items l.initial.benches.items l.initial.passes.items;
  hands : drop (length l.benches.items) l.hands.items ≡ drop (length l.initial.benches.items) l.initial.hands.items;
  passes : drop (length l.benches.items) l.passes.items ≡ drop (length l.initial.benches.items) l.initial.passes.items;
  enough_hands : length l.benches.items ≤ length l.hands.items;
  enough_passes : length l.benches.items ≤ length l.passes.items;
  room : length l.stations.items + length l.benches.items ≤ vec_capacity l.stations;
  hands_kept : vec_capacity l.hands ≡ vec_capacity l.initial.hands;
  passes_kept : vec_capacity l.passes ≡ vec_capacity l.initial.passes;
}

abbrev pub decreases-loop-hands : goal.decreases-loop-hands
decreases-loop-hands g l = length l.benches.items
