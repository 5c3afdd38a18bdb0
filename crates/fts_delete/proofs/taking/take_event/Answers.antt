-- The row of the event's id is changed at its place.
use Rattle.std.proofs.Common.{IsSome, sym, subst, ap, ◌∙◌, arith, ◌≤◌}
use Rattle.fts_delete.specs.declared.rows.DeleteRow.{DeleteRow}
use Rattle.fts_delete.specs.declared.events.Event.TheVariants.{Gone, Missed}
use Rattle.fts_delete.specs.Rows.{rows_after, gone_row, missed_row}
use Rattle.fts_delete.proofs.Taken.{stands_at, changed_there, missed_few}
use Rattle.fts_delete.proofs.taking.take_event.Goals as goal

pub overflow_sub-id : goal.overflow_sub-id
overflow_sub-id c =
    let legal : IsSome (rows_after c.args.rows.now.items (Gone c.in-Gone.id)) = subst (λ e. IsSome (rows_after c.args.rows.now.items e)) c.in-Gone.is c.requires.legal in
    (stands_at c.in-Gone.id gone_row c.args.rows.now.items c.requires.formed.numbered legal).some

pub index_mut-requires : goal.index_mut-requires
index_mut-requires c =
    let legal : IsSome (rows_after c.args.rows.now.items (Gone c.in-Gone.id)) = subst (λ e. IsSome (rows_after c.args.rows.now.items e)) c.in-Gone.is c.requires.legal in
    omega (arith, (stands_at c.in-Gone.id gone_row c.args.rows.now.items c.requires.formed.numbered legal).inside, c.args.rows.now.ok.0)

pub overflow_sub-id-in-Missed : goal.overflow_sub-id-in-Missed
overflow_sub-id-in-Missed c =
    let legal : IsSome (rows_after c.args.rows.now.items (Missed c.in-Missed.id)) = subst (λ e. IsSome (rows_after c.args.rows.now.items e)) c.in-Missed.is c.requires.legal in
    (stands_at c.in-Missed.id missed_row c.args.rows.now.items c.requires.formed.numbered legal).some

pub index_mut-requires-in-Missed : goal.index_mut-requires-in-Missed
index_mut-requires-in-Missed c =
    let legal : IsSome (rows_after c.args.rows.now.items (Missed c.in-Missed.id)) = subst (λ e. IsSome (rows_after c.args.rows.now.items e)) c.in-Missed.is c.requires.legal in
    omega (arith, (stands_at c.in-Missed.id missed_row c.args.rows.now.items c.requires.formed.numbered legal).inside, c.args.rows.now.ok.0)

pub miss-requires : goal.miss-requires
miss-requires c =
    let legal : IsSome (rows_after c.args.rows.now.items (Missed c.in-Missed.id)) = subst (λ e. IsSome (rows_after c.args.rows.now.items e)) c.in-Missed.is c.requires.legal in
    let few = missed_few c.in-Missed.id missed_row c.args.rows.now.items c.index_mut-in-Missed.result.now c.requires.formed legal in
    subst (λ (row : DeleteRow). row.missed ≤ 2) (sym c.index_mut-in-Missed.ensures.value) few

pub returns-in-Gone : goal.returns-in-Gone
returns-in-Gone c =
    let legal : IsSome (rows_after c.args.rows.now.items (Gone c.in-Gone.id)) = subst (λ e. IsSome (rows_after c.args.rows.now.items e)) c.in-Gone.is c.requires.legal in
    ap (rows_after c.args.rows.now.items) c.in-Gone.is
    ∙ changed_there c.in-Gone.id gone_row c.args.rows.now.items c.index_mut.result.now c.finish.new.row c.requires.formed.numbered legal
    (c.finish.ensures ∙ ap gone_row c.index_mut.ensures.value)

pub returns-in-Missed : goal.returns-in-Missed
returns-in-Missed c =
    let legal : IsSome (rows_after c.args.rows.now.items (Missed c.in-Missed.id)) = subst (λ e. IsSome (rows_after c.args.rows.now.items e)) c.in-Missed.is c.requires.legal in
    ap (rows_after c.args.rows.now.items) c.in-Missed.is
    ∙ changed_there c.in-Missed.id missed_row c.args.rows.now.items c.index_mut-in-Missed.result.now c.miss.new.row c.requires.formed.numbered legal
    (c.miss.ensures ∙ ap missed_row c.index_mut-in-Missed.ensures.value)
