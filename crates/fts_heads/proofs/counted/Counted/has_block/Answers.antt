use Rattle.std.proofs.Common.{◌<◌, ◌≤◌, length, ap, sym, ◌∙◌, subst, arith}
use Rattle.std.specs.Prelude.{nat_lt, slice_index_or}
use Rattle.std.specs.List.{list_any}
use Rattle.std.proofs.lemmas.Bool.{ltb-true, ltb-false}
use Rattle.ordered.specs.Orders.{KeySet}
use Rattle.fts_heads.specs.declared.ripe_file.Lined.{Lined}
use Rattle.fts_heads.specs.Blocks.{is_in_block}
use Rattle.fts_heads.proofs.Blocks.{has_block, none_in, read_alike}
use Rattle.fts_heads.proofs.counted.Counted.has_block.Goals as goal

pub returns-in-Some : goal.returns-in-Some
returns-in-Some c =
    let counts = c.self.inside.counts.items in
    let block = c.args.block in
    let inside : block < length counts =
    subst (λ numbers. block < length numbers) c.as_slice.ensures.value (ltb-true block (length c.as_slice.result.now) (sym c.in-Some.ensures.lookup.0)) in
    record {
      answer = ap (nat_lt 0) (c.in-Some.ensures.lookup.1 ∙ (ap (λ numbers. slice_index_or numbers block c.in-Some.count.now) c.as_slice.ensures.value
          ∙ read_alike counts block c.in-Some.count.now 0 inside))
          ∙ (has_block c.self.inside.line.keys counts block c.self.invariant.each inside
          ∙ ap (λ (set : KeySet Lined). list_any (λ key. is_in_block block key.waiter) set.keys) c.self.view_is);
    }

pub returns-in-None : goal.returns-in-None
returns-in-None c =
    let past = subst (λ numbers. length numbers ≤ c.args.block) c.as_slice.ensures.value
    (ltb-false c.args.block (length c.as_slice.result.now) (sym c.in-None.ensures.lookup.0)) in
    record {
      answer = none_in c.self.inside.line c.self.inside.counts.items c.args.block (omega (arith, c.len.ensures.room)) c.self.invariant past c.requires.inside
          ∙ ap (λ (set : KeySet Lined). list_any (λ key. is_in_block c.args.block key.waiter) set.keys) c.self.view_is;
    }
