-- A row that is cancelled at its place, and counts anew.
use Rattle.std.proofs.Common.{◌≡◌, ◌+◌, ◌-◌, ◌<◌, length, sym, subst, ◌∙◌, arith}
use Rattle.fts_tables.specs.Tables.{AreNumberedFrom}
use Rattle.fts_tables.specs.Moves.{cancelled_for}
use Rattle.fts_tables.specs.declared.rows.FileRow.{FileRow}
use Rattle.fts_desk.proofs.CancelledParts.{file_cancelled, id_cancelled, numbered-change}
use Rattle.fts_desk.proofs.Counted.{counts_placed}
use Rattle.fts_desk.proofs.ChangedRows.{change_row-place}
use Rattle.fts_desk.specs.Parts.{limits_of}
use Rattle.fts_desk.proofs.KeptEnds.{ends_placed}
use Rattle.fts_desk.proofs.cancels.cancel_at.Goals as goal

pub recount_left-requires-clause-rows_numbered : goal.recount_left-requires-clause-rows_numbered
recount_left-requires-clause-rows_numbered c =
    subst (AreNumberedFrom (λ (row : FileRow). row.id) 1) (sym c.cancel_place-canceled.ensures.rows)
    (numbered-change 1 c.args.rows.now (c.args.file - 1) (cancelled_for c.args.reason) (id_cancelled c.args.reason) c.requires.inside.numbered)

pub recount_left-requires-clause-before : goal.recount_left-requires-clause-before
recount_left-requires-clause-before c =
    let within : c.args.file - 1 < length c.args.rows.now = omega (arith, c.requires.inside.first, c.requires.inside.last) in
    counts_placed c.args.jobs.now c.args.rows.now c.cancel_place-canceled.new.rows (c.args.file - 1) (cancelled_for c.args.reason)
    (file_cancelled c.args.reason) c.counted-was.result c.args.beside.now.counts within c.counted-was.ensures.counted c.requires.beside.counts
    c.cancel_place-canceled.ensures.rows

pub recount_left-requires-clause-ends : goal.recount_left-requires-clause-ends
recount_left-requires-clause-ends c =
    let within : c.args.file - 1 < length c.args.rows.now = omega (arith, c.requires.inside.first, c.requires.inside.last) in
    ends_placed c.args.rows.now c.cancel_place-canceled.new.rows (c.args.file - 1) (cancelled_for c.args.reason) (file_cancelled c.args.reason) within
    c.cancel_place-canceled.ensures.rows (limits_of c.args.beside.now.parts) (limits_of c.cancel_place-canceled.new.parts) c.link_in_line-link.result
    c.cancel_place-canceled.ensures.limits c.link_in_line-link.ensures.ends

pub returns-clause-rows : goal.returns-clause-rows
returns-clause-rows c =
    let inside = c.requires.inside in
    let id : c.args.file ≡ 1 + (c.args.file - 1) = omega (arith, inside.first) in
    c.cancel_place-canceled.ensures.rows
    ∙ sym (change_row-place 1 c.args.rows.now (c.args.file - 1) c.args.file (cancelled_for c.args.reason) inside.numbered id)
