use Rattle.std.proofs.Common.{◌-◌, length}
use Rattle.fts_wire.proofs.Ends.{Passed}
use Rattle.fts_wire.proofs.lines.find_head_end.Given as goal

abbrev pub invariant-lines : goal.invariant-lines
invariant-lines l = Passed l.bytes l.size l.lines

abbrev pub decreases-lines : goal.decreases-lines
decreases-lines l = length l.bytes - l.size
