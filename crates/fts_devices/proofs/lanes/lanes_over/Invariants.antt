-- A lane for each of the doors so far.
use Rattle.std.proofs.Common.{◌≡◌, length, map}
use Rattle.fts_devices.proofs.lanes.lanes_over.Given as goal

abbrev pub invariant-loop-doors : goal.invariant-loop-doors
invariant-loop-doors g l = record {
  count : length l.lanes.items ≡ length l.yielded;
  doors : map (λ lane. lane.doors) l.lanes.items ≡ l.yielded;
}
