-- The rows of a multihop job, of which the first was woken.
use Rattle.std.proofs.Common.{◌≡◌, ◌+◌, ◌++◌, length, ap, ◌∙◌, arith}
use Rattle.std.proofs.lemmas.List.{with_items_is}
use Rattle.fts_tables.specs.Moves.{new_rows}
use Rattle.fts_tables.specs.declared.rows.FileState.TheVariants.{NotUsed}
use Rattle.fts_desk.specs.Places.{change_at, woken}
use Rattle.fts_desk.proofs.NewRows.{new_rows-numbered}
use Rattle.fts_desk.proofs.AddedRows.{first_woken}
use Rattle.fts_desk.proofs.submit.add_hops.Goals as goal

pub returns : goal.returns
returns c =
    let before = c.args.rows.now.items in
    let first = c.len-first.result in
    let added = new_rows c.args.job (length before + 1) NotUsed c.args.files.items in
    let at : first ≡ length before = omega (arith, c.len-first.ensures, c.args.rows.now.ok.0) in
    let all : c.deref_mut.result.now ≡ before ++ added = c.deref_mut.ensures.value ∙ c.add_rows.ensures in
    record {
      rows = with_items_is c.add_rows.new.rows c.wake_at.new.rows (c.wake_at.auto.rows ∙ c.deref_mut.ensures.len)
          ∙ first_woken before added c.wake_at.new.rows first (length before + 1) (new_rows-numbered c.args.job (length before + 1) NotUsed c.args.files.items)
          at
          (c.wake_at.ensures.rows ∙ ap (change_at first woken) all);
    }
