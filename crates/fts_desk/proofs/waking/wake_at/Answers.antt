use Rattle.std.proofs.Common.{sym}
use Rattle.fts_desk.specs.Places.{woken}
use Rattle.fts_desk.proofs.ChangedRows.{change_at-set, change_at-past}
use Rattle.fts_desk.proofs.waking.wake_at.Goals as goal

pub returns-then-place-rows : goal.returns-then-place-rows
returns-then-place-rows c = record {
  rows = change_at-set c.args.rows.now c.args.place woken c.index-rows-place.result c.wake.new.row c.if-place-rows.true c.wake.ensures.row;
}

pub returns-else-place-rows : goal.returns-else-place-rows
returns-else-place-rows c = record { rows = sym (change_at-past c.args.rows.now c.args.place woken c.if-place-rows.false) }
