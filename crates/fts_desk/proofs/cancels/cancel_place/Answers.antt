-- A row that runs keeps its part; another is left before it changes, and comes in again behind the change.
use Rattle.fts_tables.specs.Moves.{cancelled_for}
use Rattle.fts_desk.proofs.CancelledParts.{alike_stay_tied, running_alike, numbered_then, line_then, idle_then, may_wait_then}
use Rattle.fts_desk.proofs.ChangedRows.{change_at-set}
use Rattle.fts_desk.proofs.cancels.cancel_place.Goals as goal

pub returns-then-is_active-clause-rows : goal.returns-then-is_active-clause-rows
returns-then-is_active-clause-rows c =
    change_at-set c.args.rows.now c.args.place (cancelled_for c.args.reason) c.index-rows-place-then-is_active.result c.cancel.new.row
    c.requires.inside c.cancel.ensures.row

pub returns-then-is_active-clause-tied : goal.returns-then-is_active-clause-tied
returns-then-is_active-clause-tied c = alike_stay_tied c.args.jobs.now c.args.rows.now _ c.args.parts.now c.same_parts_stay_tied.ensures.tied
    (running_alike c.args.reason c.args.rows.now c.args.place c.index-rows-place.result
    c.index-rows-place-then-is_active.result c.cancel.new.row c.is_active.result
    c.requires.inside c.is_active.ensures c.cancel.ensures.row c.if-is_active.true) c.requires.tied

pub wait-requires-clause-rows_numbered : goal.wait-requires-clause-rows_numbered
wait-requires-clause-rows_numbered c =
    numbered_then c.args.reason c.args.rows.now c.args.place c.index-rows-place.result c.index-rows-place-2.result c.cancel-canceled.new.row
    c.is_active.result c.requires.inside c.is_active.ensures c.cancel-canceled.ensures.row c.requires.numbered

pub wait-requires-clause-idle : goal.wait-requires-clause-idle
wait-requires-clause-idle c =
    idle_then c.args.reason c.args.rows.now c.args.place c.index-rows-place.result c.index-rows-place-2.result c.cancel-canceled.new.row
    c.is_active.result c.requires.inside c.is_active.ensures c.cancel-canceled.ensures.row c.if-is_active.false

pub wait-requires-clause-room : goal.wait-requires-clause-room
wait-requires-clause-room c =
    may_wait_then c.args.reason c.args.rows.now c.args.place c.index-rows-place.result c.index-rows-place-2.result c.cancel-canceled.new.row
    c.is_active.result c.requires.inside c.is_active.ensures c.cancel-canceled.ensures.row c.leave.new.parts

pub returns-clause-rows : goal.returns-clause-rows
returns-clause-rows c =
    change_at-set c.args.rows.now c.args.place (cancelled_for c.args.reason) c.index-rows-place-2.result c.cancel-canceled.new.row c.requires.inside
    c.cancel-canceled.ensures.row

pub returns-then-is_active-clause-line : goal.returns-then-is_active-clause-line
returns-then-is_active-clause-line c =
    line_then c.args.reason c.args.rows.now c.args.place c.index-rows-place.result c.index-rows-place-then-is_active.result c.cancel.new.row
    c.is_active.result c.requires.inside c.is_active.ensures c.cancel.ensures.row c.args.parts.now c.requires.line

pub wait-requires-clause-line : goal.wait-requires-clause-line
wait-requires-clause-line c =
    line_then c.args.reason c.args.rows.now c.args.place c.index-rows-place.result c.index-rows-place-2.result c.cancel-canceled.new.row
    c.is_active.result c.requires.inside c.is_active.ensures c.cancel-canceled.ensures.row c.leave.new.parts c.leave.ensures.line
