-- The bytes are cut where they end before the length, or before the body.
use Rattle.std.proofs.Common.{refl, ap, ◌∙◌, List, ℕ, take, drop, length, arith}
use Rattle.fts_tail.proofs.Gate.{cut_short, cut_long, size_same}
use Rattle.fts_tail.proofs.reading.size_behind.Goals as goal

pub returns-then-not-branch-clause-cause : goal.returns-then-not-branch-clause-cause
returns-then-not-branch-clause-cause g c =
    (refl, λ told. cut_short c.args.used (g.D.Disk.state c.args.disk.now).seen (c.requires.opened told) (c.in_ok-reaches.ensures.short told c.if-not-branch.true))

pub returns-then-not-branch-2-clause-cause : goal.returns-then-not-branch-2-clause-cause
returns-then-not-branch-2-clause-cause g c = (
  refl,
  λ told.
      let old = g.D.Disk.state c.args.disk.now in
      let reached = c.reaches.ensures.told ∙ told in
      let looked = c.read_at.ensures.told ∙ reached in
      let seen = (c.reaches.ensures.quiet told).seen in
      let same = (c.read_at.ensures.looks reached).seen ∙ seen in
      let head = c.in_ok-read_at.ensures.bytes reached ∙ ap (λ (l : List ℕ). take (length c.read_at.new.into) (drop c.args.used l)) seen in
      let size = c.size_in-size.ensures.value ∙ size_same c.read_at.new.into (drop c.args.used old.seen) head (omega (arith, c.read_at.auto.into)) in
      let short = c.in_ok-reaches-2.ensures.short looked c.if-not-branch-2.true in
      cut_long c.args.used c.size_in-size.result old.seen (c.requires.opened told) size (omega (arith, short, ap length same)),
)
