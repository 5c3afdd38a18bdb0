-- A row that isn't ACTIVE stays as it is.
use Rattle.std.proofs.Common.{◌+◌, get_or, ap, arith, sym, ◌∙◌}
use Rattle.std.proofs.lemmas.Option.{get_or_from_slice_get, slice_get-get_or}
use Rattle.fts_tables.specs.Tables.{is_active}
use Rattle.fts_tables.specs.Step.{released}
use Rattle.fts_tables.specs.declared.rows.FileRow.{FileRow}
use Rattle.fts_desk.proofs.CancelledParts.{change_at-same}
use Rattle.fts_desk.proofs.Released.{released_stays}
use Rattle.fts_desk.proofs.RowsBeside.{room_fewer}
use Rattle.fts_desk.proofs.restart.release_at.Goals as goal

pub returns-then-is_active-clause-was : goal.returns-then-is_active-clause-was
returns-then-is_active-clause-was c = λ row at. sym c.if-is_active.true ∙ (c.is_active.ensures
    ∙ ap (λ (other : FileRow). is_active other.state) (get_or_from_slice_get c.args.rows.now c.args.place row c.index-rows-place.result at))

pub returns-else-is_active-clause-rows : goal.returns-else-is_active-clause-rows
returns-else-is_active-clause-rows c =
    let rows = c.args.rows.now in
    let row = get_or rows c.args.place c.index-rows-place.result in
    change_at-same rows c.args.place released row (slice_get-get_or rows c.args.place c.index-rows-place.result c.requires.inside)
    (released_stays row (sym c.is_active.ensures ∙ c.if-is_active.false))

pub returns-else-is_active-clause-was : goal.returns-else-is_active-clause-was
returns-else-is_active-clause-was c = λ row at. sym c.if-is_active.false ∙ (c.is_active.ensures
    ∙ ap (λ (other : FileRow). is_active other.state) (get_or_from_slice_get c.args.rows.now c.args.place row c.index-rows-place.result at))

pub returns-else-is_active-clause-room : goal.returns-else-is_active-clause-room
returns-else-is_active-clause-room c = λ count row room. room_fewer count (count + 0) row c.args.beside.now.parts (omega arith) room
