-- The rows of a replica job, of which the chosen one was woken.
use Rattle.std.proofs.Common.{◌≡◌, ◌+◌, ◌<◌, ◌++◌, List, length, ap, sym, ◌∙◌, arith}
use Rattle.std.specs.Prelude.{slice_get}
use Rattle.std.proofs.lemmas.List.{with_items_is}
use Rattle.fts_tables.specs.Moves.{new_rows}
use Rattle.fts_tables.specs.Choice.{next_alternative}
use Rattle.fts_tables.specs.declared.rows.FileRow.{FileRow}
use Rattle.fts_tables.specs.declared.rows.FileState.TheVariants.{NotUsed}
use Rattle.fts_desk.specs.Places.{change_at, woken}
use Rattle.fts_desk.proofs.NewRows.{length-new_rows, new_rows-numbered}
use Rattle.fts_desk.proofs.AddedRows.{chosen_woken, rows_behind}
use Rattle.fts_desk.proofs.submit.add_sources.Goals as goal

pub next_source-requires : goal.next_source-requires
next_source-requires c =
    let before = c.args.rows.now.items in
    let first = c.len-first.result in
    let added = new_rows c.args.job (length before + 1) NotUsed c.args.files.items in
    let at : first ≡ length before = omega (arith, c.len-first.ensures, c.args.rows.now.ok.0) in
    let behind = rows_behind before added c.deref.result.now first (c.deref.ensures.value ∙ c.add_rows.ensures) at in
    record { room = omega (arith, ap length behind, length-new_rows c.args.job (length before + 1) NotUsed c.args.files.items, c.requires.files) }

pub returns-in-Some : goal.returns-in-Some
returns-in-Some c =
    let before = c.args.rows.now.items in
    let first = c.len-first.result in
    let place = c.in-Some.place in
    let added = new_rows c.args.job (length before + 1) NotUsed c.args.files.items in
    let at : first ≡ length before = omega (arith, c.len-first.ensures, c.args.rows.now.ok.0) in
    let number : first + place ≡ length before + place = omega (arith, at) in
    let behind = rows_behind before added c.deref.result.now first (c.deref.ensures.value ∙ c.add_rows.ensures) at in
    let all : c.deref_mut.result.now ≡ before ++ added = c.deref_mut.ensures.value ∙ c.add_rows.ensures in
    let inside : place < length added = omega (arith, ap length behind, c.in-Some.ensures.inside) in
    let chosen : slice_get added place ≡ next_alternative c.args.strategy before added =
    ap (λ (rows : List FileRow). slice_get rows place) (sym behind) ∙ c.in-Some.ensures.row before c.requires.loaded
    ∙ ap (next_alternative c.args.strategy before) behind in
    record {
      rows = with_items_is c.add_rows.new.rows c.wake_at.new.rows (c.wake_at.auto.rows ∙ c.deref_mut.ensures.len)
          ∙ chosen_woken before added c.wake_at.new.rows place (first + place) (length before + 1) (next_alternative c.args.strategy before added)
          (new_rows-numbered c.args.job (length before + 1) NotUsed c.args.files.items) number inside chosen (c.wake_at.ensures.rows
          ∙ ap (change_at (first + place) woken) all);
    }
