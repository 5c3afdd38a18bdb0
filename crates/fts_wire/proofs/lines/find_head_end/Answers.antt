-- A line more is passed, or is the empty one.
use Rattle.std.proofs.Common.{arith, true, false, refl}
use Rattle.fts_wire.proofs.Ends.{passed_more, passed_end, line_in, line_is}
use Rattle.fts_wire.proofs.lines.find_head_end.Goals as goal

pub overflow_add-lines : goal.overflow_add-lines
overflow_add-lines c = omega (arith, c.lines.invariant.few, c.in-Some.ensures.within, c.in-Some.ensures.some)

pub returns-then-empty : goal.returns-then-empty
returns-then-empty c =
    let bytes = c.args.bytes.now in
    let line = c.in-Some.line in
    passed_end bytes c.lines.size line c.lines.lines _ c.lines.invariant (line_in bytes c.lines.size line c.in-Some.ensures)
    (line_is bytes c.lines.size line c.is_empty-empty.result c.is_empty-empty.ensures true c.if-empty.true) refl refl

pub lines-preserved : goal.lines-preserved
lines-preserved c =
    let bytes = c.args.bytes.now in
    let line = c.in-Some.line in
    passed_more bytes c.lines.size line c.lines.lines c.lines.invariant (line_in bytes c.lines.size line c.in-Some.ensures)
    (line_is bytes c.lines.size line c.is_empty-empty.result c.is_empty-empty.ensures false c.if-empty.false)
