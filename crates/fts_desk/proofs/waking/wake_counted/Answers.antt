-- A row that is woken at its place, waits among the others, and counts from then on.
use Rattle.std.proofs.Common.{get_or, set, ap, sym, ◌∙◌}
use Rattle.fts_tables.specs.Tables.{AreNumberedFrom}
use Rattle.fts_desk.specs.Places.{woken}
use Rattle.fts_desk.proofs.ChangedRows.{change_at-set, change_at-past}
use Rattle.fts_desk.proofs.Counted.{counts_before}
use Rattle.fts_desk.proofs.RowsBeside.{woken_file, woken_idle, woken_stays, unused_again, site_stood, site_numbered, site_line, site_idle, site_room}
use Rattle.fts_desk.proofs.waking.wake_counted.Goals as goal
use Rattle.fts_desk.proofs.waking.wake_counted.Goals.{After-wake}
use Rattle.fts_desk.proofs.waking.wake_counted.Goals.{else-place-rows-via-then-place-rows+else-is_not_used, else-place-rows-via-else-place-rows}

-- the rows stay numbered
numbered : (c : After-wake) → AreNumberedFrom (λ row. row.id) 1 (set c.args.rows.now c.args.place c.wake.new.row)
numbered c =
    site_numbered c.args.rows.now c.args.place woken woken_file c.index-rows-place-then-is_not_used.result c.wake.new.row c.if-place-rows.true
    c.wake.ensures.row c.requires.numbered

pub wait-requires-clause-rows_numbered : goal.wait-requires-clause-rows_numbered
wait-requires-clause-rows_numbered c = numbered (goal.at.wait-requires-clause-rows_numbered c).After-wake

pub wait-requires-clause-line : goal.wait-requires-clause-line
wait-requires-clause-line c =
    site_line c.args.rows.now c.args.place woken woken_file c.index-rows-place-then-is_not_used.result c.wake.new.row c.if-place-rows.true
    c.wake.ensures.row c.leave.new.parts c.leave.ensures.line

pub wait-requires-clause-idle : goal.wait-requires-clause-idle
wait-requires-clause-idle c = λ row at.
    let read = c.index-rows-place-then-is_not_used.result in
    let unused = unused_again c.args.rows.now c.args.place c.index-rows-place.result read c.is_not_used.result c.if-place-rows.true c.is_not_used.ensures
    c.if-is_not_used.true in
    site_idle c.args.rows.now c.args.place woken woken_file read c.wake.new.row c.if-place-rows.true c.wake.ensures.row
    (woken_idle (get_or c.args.rows.now c.args.place read) unused) row at

pub wait-requires-clause-room : goal.wait-requires-clause-room
wait-requires-clause-room c = λ row at.
    let rows = c.args.rows.now in
    let place = c.args.place in
    let read = c.index-rows-place-then-is_not_used.result in
    let stood = site_stood rows place woken woken_file read c.wake.new.row c.if-place-rows.true c.wake.ensures.row in
    site_room rows place woken woken_file read c.wake.new.row c.if-place-rows.true c.wake.ensures.row c.args.beside.now.parts c.leave.new.parts
    c.leave.ensures.same (c.requires.room (get_or rows place read) stood) row at

pub recount-requires-clause-rows_numbered : goal.recount-requires-clause-rows_numbered
recount-requires-clause-rows_numbered c = numbered (goal.at.recount-requires-clause-rows_numbered c).After-wake

pub recount-requires-clause-before : goal.recount-requires-clause-before
recount-requires-clause-before c =
    counts_before c.args.jobs.now c.args.rows.now _ c.args.place woken woken_file c.counted-was.result c.args.beside.now.counts c.if-place-rows.true
    c.counted-was.ensures.counted c.requires.beside.counts c.index-rows-place-then-is_not_used.result
    (ap (set c.args.rows.now c.args.place) c.wake.ensures.row)

pub returns-then-is_not_used-clause-rows : goal.returns-then-is_not_used-clause-rows
returns-then-is_not_used-clause-rows c =
    change_at-set c.args.rows.now c.args.place woken c.index-rows-place-then-is_not_used.result c.wake.new.row c.if-place-rows.true c.wake.ensures.row

pub returns-else-place-rows-clause-rows : goal.returns-else-place-rows-clause-rows
returns-else-place-rows-clause-rows c = elim c.else-place-rows.branch [
  | else-place-rows-via-then-place-rows+else-is_not_used w ↦ sym (woken_stays c.args.rows.now c.args.place w.index-rows-place.result w.if-place-rows.true
      (sym w.is_not_used.ensures ∙ w.if-is_not_used.false))
  | else-place-rows-via-else-place-rows w ↦ sym (change_at-past c.args.rows.now c.args.place woken w.if-place-rows.false)
]
