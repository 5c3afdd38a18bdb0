-- One row more was looked at.
use Rattle.std.proofs.Common.{◌≡◌, ◌<◌, ◌+◌, List, length, get_or, take, ap, sym, ◌∙◌, arith}
use Rattle.std.specs.Prelude.{count_by, if◌then◌else◌}
use Rattle.fts_tables.specs.Waits.{waits_at}
use Rattle.fts_tables.specs.declared.rows.FileRow.{FileRow}
use Rattle.fts_routes.specs.Changes.{goes_whole}
use Rattle.fts_routes.proofs.Counted.{is_counted, counts-next}
use Rattle.fts_routes.proofs.counts.count_cancelled.Goals.{then-row-job, else-row-job, then-becomes_canceled, else-becomes_canceled}
use Rattle.fts_routes.proofs.counts.count_cancelled.Goals as goal

pub loop-row-preserved : goal.loop-row-preserved
loop-row-preserved c =
    let rows = c.rows-row-items.ensures.rows in
    let inside : c.loop-row.row-index < length c.args.desk.now.tables.rows = omega (arith, ap length rows) in
    let here : c.row-item.result ≡ get_or c.args.desk.now.tables.rows c.loop-row.row-index c.row-item.result =
    c.row-item.is ∙ ap (λ (list : List FileRow). get_or list c.loop-row.row-index c.row-item.result) rows in
    let own : c.if-row-job.job ≡ c.row-item.result.job = elim c.if-row-job.branch [
      | then-row-job w ↦ w.job-is
      | else-row-job w ↦ w.job-is ∙ sym w.if-row-job.false
    ] in
    let whole : c.if-row-job.whole ≡ goes_whole c.args.desk.now.tables (waits_at c.args.storage.now) c.if-row-job.job = elim c.if-row-job.branch [
      | then-row-job w ↦ w.whole-is ∙ (w.goes_whole-whole-then-row-job.ensures
          ∙ ap (goes_whole c.args.desk.now.tables (waits_at c.args.storage.now)) (sym w.job-is))
      | else-row-job w ↦ w.whole-is ∙ (c.loop-row.invariant.whole ∙ ap (goes_whole c.args.desk.now.tables (waits_at c.args.storage.now)) (sym w.job-is))
    ] in
    let next : (if c.becomes_canceled.result then c.loop-row.count + 1 else c.loop-row.count)
    ≡ count_by (is_counted c.args.desk.now.tables (waits_at c.args.storage.now)) (take (c.loop-row.row-index + 1) c.args.desk.now.tables.rows) =
    counts-next c.args.desk.now.tables (waits_at c.args.storage.now) c.loop-row.row-index c.loop-row.count c.row-item.result c.if-row-job.whole
    c.becomes_canceled.result inside here (whole ∙ ap (goes_whole c.args.desk.now.tables (waits_at c.args.storage.now)) own) c.becomes_canceled.ensures
    c.loop-row.invariant.counted in
    record {
      counted = elim c.if-becomes_canceled.branch [
        | then-becomes_canceled w ↦ w.count-is ∙ (rw w.if-becomes_canceled.true at next)
        | else-becomes_canceled w ↦ w.count-is ∙ (rw w.if-becomes_canceled.false at next)
      ];
      whole = whole;
    }
