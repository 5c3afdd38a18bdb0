-- A digit more, or a byte that is none.
use Rattle.std.proofs.Common.{arith, inl, inr}
use Rattle.fts_wire.proofs.Lengths.{digits_more, value_more, value_few, not_length}
use Rattle.fts_wire.proofs.fields.read_length.Goals as goal
use Rattle.fts_wire.proofs.fields.read_length.Goals.{then-b-lt48-via-then-b-lt48, then-b-lt48-via-else-b-lt48+then-b-gt57}

pub returns-then-b-lt48 : goal.returns-then-b-lt48
returns-then-b-lt48 c = elim c.then-b-lt48.branch [
  | then-b-lt48-via-then-b-lt48 w ↦ not_length c.args.value.now c.loop-b.b-index (omega arith) (inl w.if-b-lt48.true)
  | then-b-lt48-via-else-b-lt48+then-b-gt57 w ↦ not_length c.args.value.now c.loop-b.b-index (omega arith) (inr w.if-b-gt57.true)
]

pub overflow_mul-length : goal.overflow_mul-length
overflow_mul-length c = omega (arith, c.loop-b.invariant.1, value_few c.args.value.now c.loop-b.b-index (omega arith) c.loop-b.invariant.0)

pub overflow_add-length : goal.overflow_add-length
overflow_add-length c = omega (arith, c.loop-b.invariant.1, value_few c.args.value.now c.loop-b.b-index (omega arith) c.loop-b.invariant.0)

pub loop-b-preserved : goal.loop-b-preserved
loop-b-preserved c = (
  digits_more c.args.value.now c.loop-b.b-index (omega arith) (omega arith) (omega arith) c.loop-b.invariant.0,
  value_more c.args.value.now c.loop-b.b-index c.loop-b.length (omega arith) (omega arith) (omega arith) c.loop-b.invariant.1,
)
