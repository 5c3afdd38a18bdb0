-- All bytes are there.
use Rattle.std.proofs.Common.{ℕ, ◌≡◌, ◌+◌, ◌%◌, length, ap, ◌∙◌, arith}
use Rattle.fts_load.proofs.Ranges.{rising}
use Rattle.fts_load.proofs.sources.fill.Goals as goal

pub returns : goal.returns
returns c = rising c.loop-at.buffer 0 (length c.args.buffer.now) c.loop-at.invariant.long
    (λ at less. c.loop-at.invariant.filled at (omega (arith, less, c.loop-at-test.false, c.loop-at.auto.at-end, c.loop-at.invariant.long))
    ∙ (let same : at ≡ 0 + at = omega arith in ap (λ (k : ℕ). k % 256) same))
