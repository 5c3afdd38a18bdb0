-- A row that is given up is left before it changes, comes in again behind the change, and counts anew.
use Rattle.std.proofs.Common.{◌+◌, set, get_or, ap, arith, ◌∙◌}
use Rattle.fts_tables.specs.Tables.{AreNumberedFrom}
use Rattle.fts_tables.specs.Step.{released}
use Rattle.fts_desk.proofs.ChangedRows.{change_at-set}
use Rattle.fts_desk.proofs.CancelledParts.{same_limits}
use Rattle.fts_desk.proofs.Counted.{counts_before}
use Rattle.fts_desk.proofs.Released.{released_file, released_idle}
use Rattle.fts_desk.proofs.RowsBeside.{room_fewer, room_left, site_numbered, site_line, site_idle, site_room, site_stood}
use Rattle.fts_desk.proofs.restart.release_active.Goals as goal
use Rattle.fts_desk.proofs.restart.release_active.Goals.{After-release_row}

-- the rows stay numbered
numbered : (c : After-release_row) → AreNumberedFrom (λ row. row.id) 1 (set c.args.rows.now c.args.place c.release_row.new.row)
numbered c =
    site_numbered c.args.rows.now c.args.place released released_file c.index-rows-place.result c.release_row.new.row c.requires.inside
    c.release_row.ensures.row c.requires.numbered

pub wait-requires-clause-rows_numbered : goal.wait-requires-clause-rows_numbered
wait-requires-clause-rows_numbered c = numbered (goal.at.wait-requires-clause-rows_numbered c).After-release_row

pub wait-requires-clause-line : goal.wait-requires-clause-line
wait-requires-clause-line c =
    site_line c.args.rows.now c.args.place released released_file c.index-rows-place.result c.release_row.new.row c.requires.inside
    c.release_row.ensures.row c.leave.new.parts c.leave.ensures.line

pub wait-requires-clause-idle : goal.wait-requires-clause-idle
wait-requires-clause-idle c = λ row at.
    let read = c.index-rows-place.result in
    site_idle c.args.rows.now c.args.place released released_file read c.release_row.new.row c.requires.inside c.release_row.ensures.row
    (released_idle (get_or c.args.rows.now c.args.place read)) row at

pub wait-requires-clause-room : goal.wait-requires-clause-room
wait-requires-clause-room c = λ row at.
    let rows = c.args.rows.now in
    let place = c.args.place in
    let read = c.index-rows-place.result in
    let stood = site_stood rows place released released_file read c.release_row.new.row c.requires.inside c.release_row.ensures.row in
    site_room rows place released released_file read c.release_row.new.row c.requires.inside c.release_row.ensures.row c.args.beside.now.parts
    c.leave.new.parts c.leave.ensures.same (c.requires.room (get_or rows place read) stood) row at

pub recount-requires-clause-rows_numbered : goal.recount-requires-clause-rows_numbered
recount-requires-clause-rows_numbered c = numbered (goal.at.recount-requires-clause-rows_numbered c).After-release_row

pub recount-requires-clause-before : goal.recount-requires-clause-before
recount-requires-clause-before c =
    counts_before c.args.jobs.now c.args.rows.now _ c.args.place released released_file c.counted-was.result c.args.beside.now.counts c.requires.inside
    c.counted-was.ensures.counted c.requires.beside.counts c.index-rows-place.result
    (ap (set c.args.rows.now c.args.place) c.release_row.ensures.row)

pub returns-clause-rows : goal.returns-clause-rows
returns-clause-rows c =
    change_at-set c.args.rows.now c.args.place released c.index-rows-place.result c.release_row.new.row c.requires.inside c.release_row.ensures.row

pub returns-clause-limits : goal.returns-clause-limits
returns-clause-limits c =
    same_limits 1 c.leave.new.parts c.wait.new.parts c.wait.ensures.same ∙ same_limits 0 c.args.beside.now.parts c.leave.new.parts c.leave.ensures.same

pub returns-clause-room : goal.returns-clause-room
returns-clause-room c = λ count row room.
    room_left 1 count row c.leave.new.parts c.wait.new.parts c.wait.ensures.same
    (room_left 0 (count + 1) row c.args.beside.now.parts c.leave.new.parts c.leave.ensures.same
    (room_fewer (count + 1 + 0) (count + 1) row c.args.beside.now.parts (omega arith) room))
