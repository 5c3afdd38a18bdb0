use Rattle.std.proofs.Common.{◌≡◌, true, ap, sym, ◌∙◌, subst}
use Rattle.std.specs.Prelude.{◌&&◌, ◌==◌, IfSome}
use Rattle.std.specs.List.{list_any}
use Rattle.fts_heads.proofs.Firsts.{if_some}
use Rattle.fts_tables.specs.declared.rows.FileRow.{FileRow}
use Rattle.fts_line.specs.LineData.{is_on, waits_own}
use Rattle.fts_claims.specs.Changes.{IsBetween}
use Rattle.fts_claims.proofs.Changed.{same_row}
use Rattle.fts_claims.proofs.RowsInLine.{between_there}
use Rattle.fts_claims.proofs.parts.ClaimParts.link_in_line.Goals as goal

pub returns-clause-answer : goal.returns-clause-answer
returns-clause-answer c = λ other at.
    c.own_link.ensures.answer
    ∙ ap (λ (some : FileRow). waits_own c.args.self.now.line some.id)
    (same_row c.args.rows.now c.args.place c.index-rows-place.result other c.requires.inside (sym c.index-rows-place.is) at)

pub returns-clause-ends : goal.returns-clause-ends
returns-clause-ends c =
    let rows = c.args.rows.now in
    let row = c.index-rows-place.result in
    let parts = c.args.self.now in
    if_some _ c.own_link.result (λ link is other at.
    subst (IsBetween parts.slots.settings link) (same_row rows c.args.place row other c.requires.inside (sym c.index-rows-place.is) at)
    (between_there c.args.jobs.now rows c.args.place row c.requires.inside (sym c.index-rows-place.is) c.filters_keep_the_order.ensures.any
    c.requires.rows_numbered parts c.requires.tied link
    (subst (λ answer. IfSome answer
    (λ some. list_any (λ waiter. (waiter.file == row.id) && is_on some waiter) parts.line.waiting.waiters ≡ true)) is c.own_link.ensures.waits)))
