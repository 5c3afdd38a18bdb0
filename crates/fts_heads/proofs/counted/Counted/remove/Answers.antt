use Rattle.std.proofs.Common.{◌≡◌, true, sym, subst}
use Rattle.ordered.specs.Orders.{KeySet, has_key, without}
use Rattle.fts_heads.specs.declared.ripe_file.Lined.{Lined}
use Rattle.fts_heads.specs.Keys.{is_line_before}
use Rattle.fts_heads.specs.Blocks.{AreCounted}
use Rattle.fts_heads.proofs.Blocks.{without_file, less_one}
use Rattle.fts_heads.proofs.counted.Counted.remove.Goals as goal

pub invariant_of-self : goal.invariant_of-self
invariant_of-self c =
    let there = subst (λ (set : KeySet Lined). has_key is_line_before c.args.key.now set.keys ≡ true) (sym c.self.view_is) c.requires.there in
    subst (λ (set : KeySet Lined). AreCounted set c.lower.new.counts.items) (sym c.remove.ensures.keys)
    (subst (AreCounted (record c.self.inside.line { keys = without is_line_before c.args.key.now c.self.inside.line.keys })) (sym c.lower.ensures.counts)
    (subst (λ place. AreCounted (record c.self.inside.line { keys = without is_line_before c.args.key.now c.self.inside.line.keys })
    (less_one c.self.inside.counts.items place)) (sym c.block_of.ensures.block)
    (without_file c.self.inside.line c.self.inside.counts.items c.args.key.now c.len.ensures.order there c.self.invariant)))
