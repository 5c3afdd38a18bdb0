use Rattle.std.proofs.Common.{◌≡◌, ◌-◌, ◌≤◌, length, true}
use Rattle.std.specs.Prelude.{IfSome}
use Rattle.fts_wire.specs.Look.{Short, StandsAt, sight_of}
use Rattle.fts_wire.specs.Taken.{Takes}
use Rattle.fts_wire.proofs.request.fill.Given as goal

abbrev pub invariant-reading : goal.invariant-reading
invariant-reading g l = record {
  takes : Takes l.fn.buffer (g.S.Source.left l.fn.source) l.buffer (g.S.Source.left l.source)
      (g.S.Source.reads l.fn.source) (g.S.Source.reads l.source) 0;
  found : IfSome l.found (StandsAt l.buffer);
  known : l.is_known ≡ true → sight_of l.buffer ≡ Short;
  faults : g.S.Source.faults l.fn.source ≤ g.S.Source.faults l.source;
  beside : g.S.Source.beside l.source ≡ g.S.Source.beside l.fn.source;
}

abbrev pub decreases-reading : goal.decreases-reading
decreases-reading g l = 1130496 - length l.buffer
