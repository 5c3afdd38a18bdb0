-- As many doors as turns so far, each as it was made.
use Rattle.std.proofs.Common.{◌≡◌, length, All}
use Rattle.std.specs.Option.{option_copied}
use Rattle.fts_devices.specs.Lanes.{IsClosed}
use Rattle.fts_devices.proofs.lanes.closed_doors.Given as goal

abbrev pub invariant-loop : goal.invariant-loop
invariant-loop g l = record {
  count : length l.doors.items ≡ l.counter;
  closed : All (IsClosed (option_copied l.socket)) l.doors.items;
}
