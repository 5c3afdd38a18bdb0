use Rattle.std.proofs.Common.{◌≡◌, ◌+◌, ◌≤◌, ◌++◌, length, drop, vec_capacity}
use Rattle.fts_service.specs.Seats.{booths_of}
use Rattle.fts_service.proofs.seats.seat_lanes.Given as goal

abbrev pub invariant-loop-lanes : goal.invariant-loop-lanes
invariant-loop-lanes g l = record {
  booths : l.booths.items ++ booths_of l.lanes.items l.rooms.items l.passes.items
      ≡ l.initial.booths.items ++ booths_of l.initial.lanes.items l.initial.rooms.items l.initial.passes.items;
  lanes : drop (length l.rooms.items) l.lanes.items ≡ drop (length l.initial.rooms.items) l.initial.lanes.items;
  passes : drop (length l.rooms.items) l.passes.items ≡ drop (length l.initial.rooms.items) l.initial.passes.items;
  enough_lanes : length l.rooms.items ≤ length l.lanes.items;
  enough_passes : length l.rooms.items ≤ length l.passes.items;
  room : length l.booths.items + length l.rooms.items ≤ vec_capacity l.booths;
  lanes_kept : vec_capacity l.lanes ≡ vec_capacity l.initial.lanes;
  passes_kept : vec_capacity l.passes ≡ vec_capacity l.initial.passes;
}

abbrev pub decreases-loop-lanes : goal.decreases-loop-lanes
decreases-loop-lanes g l = length l.rooms.items
