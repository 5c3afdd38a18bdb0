-- The bytes so far were taken off the front of those that were left, at least one by each read, and there is room for a byte more.
use Rattle.std.proofs.Common.{◌≡◌, ◌≤◌, ◌<◌, ◌+◌, ◌-◌, length}
use Rattle.fts_wire.specs.Outside.{IsTakenOf}
use Rattle.fts_wire.proofs.whole_input.read_all.Given as goal

abbrev pub invariant-reading : goal.invariant-reading
invariant-reading g l = record {
  taken : IsTakenOf (g.S.Source.left l.fn.source) (g.S.Source.left l.source) l.bytes.items;
  few : length l.bytes.items ≤ l.limit;
  some : 0 < length l.piece.items;
  faults : g.S.Source.faults l.fn.source ≤ g.S.Source.faults l.source;
  reads : g.S.Source.reads l.source ≤ g.S.Source.reads l.fn.source + length l.bytes.items;
  beside : g.S.Source.beside l.source ≡ g.S.Source.beside l.fn.source;
}

abbrev pub decreases-reading : goal.decreases-reading
decreases-reading g l = l.limit - length l.bytes.items
