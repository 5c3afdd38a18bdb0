use Rattle.std.proofs.Common.{◌≡◌, length, sym, arith}
use Rattle.fts_copy.proofs.Differing.{differs_at, shorter_ends, all_shared, one_of_two}
use Rattle.fts_copy.proofs.differences.first_difference.Goals as goal

pub returns-then-one-at-clause-difference : goal.returns-then-one-at-clause-difference
returns-then-one-at-clause-difference c =
    sym (differs_at c.args.one.now c.args.other.now c.loop-at.at (omega arith) (omega arith) c.loop-at.invariant c.if-one-at.true)

pub returns-then-one-other-clause-difference : goal.returns-then-one-other-clause-difference
returns-then-one-other-clause-difference c =
    sym (all_shared c.args.one.now c.args.other.now c.loop-at.at (omega arith) (omega arith) c.loop-at.invariant)

pub returns-else-one-other-clause-difference : goal.returns-else-one-other-clause-difference
returns-else-one-other-clause-difference c =
    let at : c.loop-at.at ≡ c.min-shared.result = omega arith in
    sym (shorter_ends c.args.one.now c.args.other.now c.min-shared.result (omega arith) (omega arith) (rw at at c.loop-at.invariant) (one_of_two (length c.args.one.now) (length c.args.other.now) c.min-shared.result (search (arith))) c.if-one-other.false)
