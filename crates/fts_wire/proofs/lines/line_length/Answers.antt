-- The bytes passed are no line feed.
use Rattle.std.proofs.Common.{arith}
use Rattle.fts_wire.proofs.Ends.{line_at, line_none}
use Rattle.fts_wire.proofs.lines.line_length.Goals as goal

pub returns-then-b-eq10 : goal.returns-then-b-eq10
returns-then-b-eq10 c = line_at c.args.bytes.now c.loop-i.i (omega arith) c.loop-i.invariant c.if-b-eq10.true

pub returns : goal.returns
returns c = line_none c.args.bytes.now (λ k h. c.loop-i.invariant k (omega arith))
