-- A turn of the walk of a ban that cancels, and what it leaves.
use Rattle.std.proofs.Common.{◌<◌, ◌≤◌, length, ap, sym, ◌∙◌, arith}
use Rattle.std.proofs.lemmas.List.{take_all}
use Rattle.std.specs.Prelude.{bytes_eq, ◌||◌}
use Rattle.std.specs.List.{list_any}
use Rattle.fts_tables.specs.Waits.{waits_at}
use Rattle.fts_tables.specs.declared.rows.FileRow.{FileRow}
use Rattle.fts_tables.specs.declared.rows.Reason.TheVariants.{Cancelled}
use Rattle.fts_desk.proofs.CanceledCounts.{canceled-few}
use Rattle.fts_desk.proofs.GoneTogether.{walk_turn, none_left, waits_no_more}
use Rattle.fts_desk.proofs.bans.cancel_waiting.Goals as goal

pub overflow_add-cancelled : goal.overflow_add-cancelled
overflow_add-cancelled c =
    omega (
      arith,
      c.cancel_if_waiting-cancelled.ensures.count,
      c.loop-place.invariant.count,
      canceled-few c.cancel_if_waiting-cancelled.new.rows,
      c.cancel_if_waiting-cancelled.auto.rows,
      c.loop-place.auto.rows,
      c.requires.beside.counts.loads.few,
    )

pub loop-place-preserved : goal.loop-place-preserved
loop-place-preserved c =
    let inv = c.loop-place.invariant in
    let rows = c.loop-place.rows in
    let inside : c.loop-place.place < length rows = omega (arith, c.loop-place-test.true) in
    let turned = walk_turn Cancelled c.args.jobs.now (waits_at c.args.storage.now)
    (waits_no_more Cancelled (λ (row : FileRow). bytes_eq row.source.endpoint c.args.storage.now || bytes_eq row.dest.endpoint c.args.storage.now))
    rows c.loop-place.place inside inv.formed inv.passed c.cancel_if_waiting-cancelled.new.rows c.cancel_if_waiting-cancelled.ensures.rows in
    record {
      formed = turned.formed;
      ends = turned.ends ∙ inv.ends;
      passed = turned.passed;
      count = omega (arith, c.cancel_if_waiting-cancelled.ensures.count, inv.count);
      beside = c.cancel_if_waiting-cancelled.ensures.beside;
      limits = c.cancel_if_waiting-cancelled.ensures.limits ∙ inv.limits;
    }

pub returns-clause-rows : goal.returns-clause-rows
returns-clause-rows c =
    let inv = c.loop-place.invariant in
    let rows = c.loop-place.rows in
    let all : length rows ≤ c.loop-place.place = omega (arith, c.loop-place-test.false, c.loop-place.auto.rows) in
    sym (none_left Cancelled c.args.jobs.now (waits_at c.args.storage.now) rows
    (ap (list_any (waits_at c.args.storage.now)) (sym (take_all c.loop-place.place rows all)) ∙ inv.passed))
    ∙ inv.ends
