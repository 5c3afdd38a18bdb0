use Rattle.std.proofs.Common.{ℕ, Bool, List, length, cond, ap, sym, ◌∙◌}
use Rattle.std.specs.Prelude.{◌==◌, replicate}
use Rattle.fts_heads.specs.declared.counted.TheConstants.{BLOCKS}
use Rattle.fts_heads.proofs.counted.make_counts.Goals as goal

pub returns-in_ok-counts-clause-ok : goal.returns-in_ok-counts-clause-ok
returns-in_ok-counts-clause-ok c =
    c.in_ok-counts.ensures.items_if_clones_equal (λ y same. same)
    ∙ sym (ap (λ (test : Bool). cond test (replicate {A = ℕ} BLOCKS 0) c.args.counts.now.items)
    (ap (λ (numbers : List ℕ). length numbers == 0) (sym c.as_slice.ensures.value) ∙ (sym c.is_empty.ensures ∙ c.if-is_empty.true)))
