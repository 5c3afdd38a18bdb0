-- A turn of the loop that takes the file of the first moment, and what the loop leaves.
use Rattle.std.proofs.Common.{◌-◌, true, List, ap, sym, subst, ◌∙◌, arith}
use Rattle.std.proofs.lemmas.Option.{slice_get_within}
use Rattle.fts_tables.specs.Waits.{is_overdue, has_come, row_overdue_from, rows_cancelled}
use Rattle.fts_tables.specs.declared.rows.FileRow.{FileRow}
use Rattle.fts_tables.specs.declared.rows.Reason.TheVariants.{Expired}
use Rattle.fts_index.specs.RowDues.{AreDuesOf}
use Rattle.fts_desk.specs.Standing.{AreFormed}
use Rattle.fts_desk.proofs.CanceledCounts.{canceled-few}
use Rattle.fts_desk.proofs.Expiring.{due_at_front, none_first, moments_fewer}
use Rattle.fts_desk.proofs.GoneTogether.{gone_by, none_left, waits_no_more, turn_formed}
use Rattle.fts_desk.proofs.expiries.cancel_overdue.Goals as goal

pub overflow_sub-file : goal.overflow_sub-file
overflow_sub-file c =
    let inv = c.loop-file.invariant in
    let due = due_at_front c.args.jobs.now c.loop-file.rows c.loop-file.beside.counts.dues c.args.now c.in-Some.file c.dues_tell_the_overdue.ensures.first
    inv.formed.rows inv.beside.counts.dues (sym c.in-Some.ensures.first) in
    due.above

pub cancel_with_job-cancelled-requires-clause-inside : goal.cancel_with_job-cancelled-requires-clause-inside
cancel_with_job-cancelled-requires-clause-inside c =
    let inv = c.loop-file.invariant in
    let due = due_at_front c.args.jobs.now c.loop-file.rows c.loop-file.beside.counts.dues c.args.now c.in-Some.file c.dues_tell_the_overdue.ensures.first
    inv.formed.rows inv.beside.counts.dues (sym c.in-Some.ensures.first) in
    slice_get_within c.loop-file.rows (c.in-Some.file - 1) due.row due.there

pub overflow_add-cancelled : goal.overflow_add-cancelled
overflow_add-cancelled c =
    omega (
      arith,
      c.cancel_with_job-cancelled.ensures.count,
      c.loop-file.invariant.count,
      canceled-few c.cancel_with_job-cancelled.new.rows,
      c.cancel_with_job-cancelled.auto.rows,
      c.loop-file.auto.rows,
      c.requires.beside.counts.loads.few,
    )

pub loop-file-preserved : goal.loop-file-preserved
loop-file-preserved c =
    let inv = c.loop-file.invariant in
    let jobs = c.args.jobs.now in
    let rows = c.loop-file.rows in
    let test = is_overdue jobs c.args.now in
    let due = due_at_front jobs rows c.loop-file.beside.counts.dues c.args.now c.in-Some.file c.dues_tell_the_overdue.ensures.first inv.formed.rows
    inv.beside.counts.dues (sym c.in-Some.ensures.first) in
    let after = c.cancel_with_job-cancelled.ensures.rows due.row due.there in
    record {
      formed = subst (AreFormed jobs) (sym after)
          (turn_formed Expired jobs test (waits_no_more Expired (λ (row : FileRow). has_come c.args.now (row_overdue_from jobs row))) rows
          (c.in-Some.file - 1) due.row due.there true inv.formed);
      ends = ap (rows_cancelled Expired jobs test) after
          ∙ (gone_by Expired jobs test rows (c.in-Some.file - 1) due.row due.there due.passes inv.formed.rows ∙ inv.ends);
      count = omega (arith, c.cancel_with_job-cancelled.ensures.count, inv.count);
      beside = c.cancel_with_job-cancelled.ensures.beside;
      limits = c.cancel_with_job-cancelled.ensures.limits ∙ inv.limits;
    }

pub loop-file-smaller : goal.loop-file-smaller
loop-file-smaller c =
    let inv = c.loop-file.invariant in
    let jobs = c.args.jobs.now in
    let rows = c.loop-file.rows in
    let old = c.loop-file.beside.counts.dues in
    let new = c.cancel_with_job-cancelled.new.beside.counts.dues in
    let due = due_at_front jobs rows old c.args.now c.in-Some.file c.dues_tell_the_overdue.ensures.first inv.formed.rows inv.beside.counts.dues
    (sym c.in-Some.ensures.first) in
    moments_fewer Expired jobs rows (c.in-Some.file - 1) due.row old new due.there due.limited inv.beside.counts.dues
    (subst (λ (rows : List FileRow). AreDuesOf jobs rows new) (c.cancel_with_job-cancelled.ensures.rows due.row due.there)
    c.cancel_with_job-cancelled.ensures.beside.counts.dues)

pub returns-clause-rows : goal.returns-clause-rows
returns-clause-rows c =
    let inv = c.loop-file.invariant in
    let jobs = c.args.jobs.now in
    let rows = c.loop-file.rows in
    sym (none_left Expired jobs (is_overdue jobs c.args.now) rows
    (c.dues_tell_the_overdue.ensures.tells jobs rows c.loop-file.beside.counts.dues c.args.now inv.beside.counts.dues
    ∙ none_first c.args.now c.loop-file.beside.counts.dues.dues (sym c.first_due.ensures.first ∙ c.in_default.is)))
    ∙ inv.ends
