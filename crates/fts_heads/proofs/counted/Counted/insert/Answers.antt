use Rattle.std.proofs.Common.{length, ap, sym, subst, arith}
use Rattle.ordered.specs.Orders.{KeySet, put_by}
use Rattle.ordered.proofs.Lists.{length-put_by}
use Rattle.fts_heads.specs.declared.ripe_file.Lined.{Lined}
use Rattle.fts_heads.specs.Keys.{is_line_before}
use Rattle.fts_heads.specs.Blocks.{AreCounted}
use Rattle.fts_heads.proofs.Blocks.{few, with_file, with_one}
use Rattle.fts_heads.proofs.counted.Counted.insert.Goals as goal

pub raise-requires : goal.raise-requires
raise-requires c = record {
  few = omega (
    arith,
    few c.self.inside.counts.items c.self.inside.line.keys c.block_of-block.result c.self.invariant.each,
    c.len.ensures.len,
    c.len.type_inv,
    ap (λ (set : KeySet Lined). length set.keys) c.insert.ensures.keys,
    length-put_by is_line_before c.args.key c.self.inside.line.keys,
  );
}

pub invariant_of-self : goal.invariant_of-self
invariant_of-self c =
    subst (λ (set : KeySet Lined). AreCounted set c.raise.new.counts.items) (sym c.insert.ensures.keys)
    (subst (AreCounted (record c.self.inside.line { keys = put_by is_line_before c.args.key c.self.inside.line.keys })) (sym c.raise.ensures.counts)
    (subst (λ place. AreCounted (record c.self.inside.line { keys = put_by is_line_before c.args.key c.self.inside.line.keys })
    (with_one c.self.inside.counts.items place)) (sym c.block_of-block.ensures.block)
    (with_file c.self.inside.line c.self.inside.counts.items c.args.key c.self.invariant)))
