use Rattle.std.proofs.Common.{refl, sym, subst}
use Rattle.ordered.specs.Orders.{KeySet, without}
use Rattle.fts_heads.specs.declared.ripe_file.Lined.{Lined}
use Rattle.fts_heads.specs.Keys.{is_line_before}
use Rattle.fts_heads.specs.Blocks.{AreCounted}
use Rattle.fts_heads.proofs.Blocks.{without_file, less_one}
use Rattle.fts_heads.proofs.counted.Counted.take.Goals as goal

pub invariant_of-self-2 : goal.invariant_of-self-2
invariant_of-self-2 c =
    subst (λ (set : KeySet Lined). AreCounted set c.lower.new.counts.items) (sym (c.if-not-take.ensures.taken refl))
    (subst (AreCounted (record c.self.inside.line { keys = without is_line_before c.args.key.now c.self.inside.line.keys })) (sym c.lower.ensures.counts)
    (subst (λ place. AreCounted (record c.self.inside.line { keys = without is_line_before c.args.key.now c.self.inside.line.keys })
    (less_one c.self.inside.counts.items place)) (sym c.block_of-block.ensures.block)
    (without_file c.self.inside.line c.self.inside.counts.items c.args.key.now c.len.ensures.order (sym c.if-not-take.ensures.answer) c.self.invariant)))
