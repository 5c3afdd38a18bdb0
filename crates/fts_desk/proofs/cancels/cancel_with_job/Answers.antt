-- The row at the place goes, with its job where that goes as a whole.
use Rattle.std.proofs.Common.{[], Some, None, ap, sym, ◌∙◌}
use Rattle.std.proofs.lemmas.Option.{get_or_from_slice_get, slice_get-get_or}
use Rattle.fts_tables.specs.Tables.{job_at}
use Rattle.fts_tables.specs.Moves.{cancelled_for, change_row}
use Rattle.fts_tables.specs.declared.rows.FileRow.{FileRow}
use Rattle.fts_desk.specs.Cancels.{after_file}
use Rattle.fts_desk.proofs.GoneTogether.{inside_at, gone_of_kind, gone_of_none}
use Rattle.fts_desk.proofs.cancels.cancel_with_job.Goals as goal

pub cancel_by_kind-requires-clause-together : goal.cancel_by_kind-requires-clause-together
cancel_by_kind-requires-clause-together c =
    c.rows_stand_together.ensures.together (record { jobs = c.args.jobs.now; rows = c.args.rows.now; moment = 0; settings = None; banned = [] })
    _ _ c.requires.formed (sym c.in-Some.ensures.job)

pub cancel_by_kind-requires-clause-inside : goal.cancel_by_kind-requires-clause-inside
cancel_by_kind-requires-clause-inside c =
    inside_at c.args.rows.now c.args.place _ c.requires.formed.rows (slice_get-get_or c.args.rows.now c.args.place c.index-rows-place.result c.requires.inside)

pub cancel_at-requires-clause-inside : goal.cancel_at-requires-clause-inside
cancel_at-requires-clause-inside c =
    inside_at c.args.rows.now c.args.place _ c.requires.formed.rows (slice_get-get_or c.args.rows.now c.args.place c.index-rows-place.result c.requires.inside)

pub returns-in-Some-clause-rows : goal.returns-in-Some-clause-rows
returns-in-Some-clause-rows c = λ row at.
    let rows = c.args.rows.now in
    let read = λ (default : FileRow). get_or_from_slice_get rows c.args.place row default at in
    c.cancel_by_kind.ensures.rows
    ∙ (ap (λ (other : FileRow). after_file c.args.reason (Some c.in-Some.job.now.kind) c.in-Some.job.now.number other.id rows) (read c.index-rows-place.result)
    ∙ gone_of_kind c.args.reason c.args.jobs.now c.in-Some.job.now row rows
    (ap (λ (other : FileRow). job_at c.args.jobs.now other.job) (sym (read c.index-rows-place-2.result)) ∙ sym c.in-Some.ensures.job))

pub returns-in-None-clause-rows : goal.returns-in-None-clause-rows
returns-in-None-clause-rows c = λ row at.
    let rows = c.args.rows.now in
    let read = λ (default : FileRow). get_or_from_slice_get rows c.args.place row default at in
    c.cancel_at.ensures.rows ∙ (ap (λ (other : FileRow). change_row other.id (cancelled_for c.args.reason) rows) (read c.index-rows-place.result)
    ∙ gone_of_none c.args.reason c.args.jobs.now row rows
    (ap (λ (other : FileRow). job_at c.args.jobs.now other.job) (sym (read c.index-rows-place-2.result)) ∙ sym c.in-None.ensures.job))
