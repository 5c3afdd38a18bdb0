use Rattle.std.proofs.Common.{◌≡◌, ◌+◌, ◌≤◌, ◌++◌, length, map, vec_capacity}
use Rattle.fts_service.proofs.seats.leave_booths.Given as goal

abbrev pub invariant-loop-booths : goal.invariant-loop-booths
invariant-loop-booths g l = record {
  lanes : l.lanes.items ++ map (λ booth. booth.lane) l.booths.items ≡ l.initial.lanes.items ++ map (λ booth. booth.lane) l.initial.booths.items;
  passes : l.passes.items ++ map (λ booth. booth.pass) l.booths.items ≡ l.initial.passes.items ++ map (λ booth. booth.pass) l.initial.booths.items;
  lanes_room : length l.lanes.items + length l.booths.items ≤ vec_capacity l.lanes;
  passes_room : length l.passes.items + length l.booths.items ≤ vec_capacity l.passes;
  lanes_kept : vec_capacity l.lanes ≡ vec_capacity l.initial.lanes;
  passes_kept : vec_capacity l.passes ≡ vec_capacity l.initial.passes;
}

abbrev pub decreases-loop-booths : goal.decreases-loop-booths
decreases-loop-booths g l = length l.booths.items
