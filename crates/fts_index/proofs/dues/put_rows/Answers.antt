use Rattle.std.proofs.Common.{length, refl, arith}
use Rattle.std.proofs.lemmas.Option.{slice_get_read}
use Rattle.fts_index.proofs.RowsComing.{absent_next, room_next}
use Rattle.fts_index.proofs.dues.put_rows.Goals as goal

pub put_in-requires-clause-absent : goal.put_in-requires-clause-absent
put_in-requires-clause-absent c =
    absent_next c.args.rows.now c.args.moment (record { dues = c.args.dues.now.keys; files = _; room = c.args.dues.now.room })
    c.loop-row.dues.keys c.loop-row.row-index c.row-item.result c.requires.may c.loop-row.invariant.counts
    (slice_get_read c.args.rows.now (length c.args.rows.now) c.loop-row.row-index c.row-item.result refl c.loop-row-test.true c.row-item.is)

pub put_in-requires-clause-room : goal.put_in-requires-clause-room
put_in-requires-clause-room c =
    room_next c.args.rows.now c.args.moment (record { dues = c.args.dues.now.keys; files = _; room = c.args.dues.now.room })
    c.loop-row.dues.keys c.loop-row.row-index c.row-item.result c.requires.may c.loop-row.invariant.counts
    (slice_get_read c.args.rows.now (length c.args.rows.now) c.loop-row.row-index c.row-item.result refl c.loop-row-test.true c.row-item.is)
    c.loop-row.dues.room c.loop-row.invariant.room (omega arith)
