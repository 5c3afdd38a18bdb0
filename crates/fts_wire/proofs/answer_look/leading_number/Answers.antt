-- A digit more, with which the number is past the limit or not.
use Rattle.std.proofs.Common.{◌+◌, ◌<◌, arith, subst}
use Rattle.fts_wire.proofs.Lengths.{digits_more, value_more}
use Rattle.fts_wire.proofs.answer_look.leading_number.Goals as goal

pub returns-then-number-gt-MAX_ANSWER_BYTES : goal.returns-then-number-gt-MAX_ANSWER_BYTES
returns-then-number-gt-MAX_ANSWER_BYTES c = record {
  count = c.loop-b.b-index + 1;
  leads = record {
    within = omega (arith, c.loop-b-test.true);
    digits = digits_more c.args.bytes.now c.loop-b.b-index (omega arith) (omega arith) (omega arith) c.loop-b.invariant.0;
  };
  many = subst (λ n. 8389632 < n) (value_more c.args.bytes.now c.loop-b.b-index c.loop-b.number (omega arith) (omega arith) (omega arith) c.loop-b.invariant.1)
      c.if-number-gt-MAX_ANSWER_BYTES.true;
}

pub loop-b-preserved : goal.loop-b-preserved
loop-b-preserved c = (
  digits_more c.args.bytes.now c.loop-b.b-index (omega arith) (omega arith) (omega arith) c.loop-b.invariant.0,
  value_more c.args.bytes.now c.loop-b.b-index c.loop-b.number (omega arith) (omega arith) (omega arith) c.loop-b.invariant.1,
  omega (arith, c.if-number-gt-MAX_ANSWER_BYTES.false),
)
