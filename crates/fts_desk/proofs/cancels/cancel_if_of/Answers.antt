-- A row that is cancelled at its place where it is of the job, and counts anew.
use Rattle.std.proofs.Common.{sym, subst}
use Rattle.std.specs.Prelude.{◌==◌}
use Rattle.fts_tables.specs.Tables.{AreNumberedFrom}
use Rattle.fts_tables.specs.declared.rows.FileRow.{FileRow}
use Rattle.fts_desk.specs.Cancels.{cancelled_of}
use Rattle.fts_desk.proofs.CancelledParts.{file_if_cancelled, id_cancelled_of, numbered-change}
use Rattle.fts_desk.proofs.Counted.{counts_placed}
use Rattle.fts_desk.specs.Parts.{limits_of}
use Rattle.fts_desk.proofs.KeptEnds.{ends_placed}
use Rattle.fts_desk.proofs.cancels.cancel_if_of.Goals as goal

pub recount_left-requires-clause-rows_numbered : goal.recount_left-requires-clause-rows_numbered
recount_left-requires-clause-rows_numbered c =
    subst (AreNumberedFrom (λ (row : FileRow). row.id) 1) (sym c.cancel_place_of-canceled.ensures.rows)
    (numbered-change 1 c.args.rows.now c.args.place (cancelled_of c.args.reason c.args.job) (id_cancelled_of c.args.reason c.args.job) c.requires.numbered)

pub recount_left-requires-clause-before : goal.recount_left-requires-clause-before
recount_left-requires-clause-before c =
    counts_placed c.args.jobs.now c.args.rows.now c.cancel_place_of-canceled.new.rows c.args.place (cancelled_of c.args.reason c.args.job)
    (λ row. file_if_cancelled c.args.reason row (row.job == c.args.job)) c.counted-was.result c.args.beside.now.counts c.requires.inside
    c.counted-was.ensures.counted c.requires.beside.counts c.cancel_place_of-canceled.ensures.rows

pub recount_left-requires-clause-ends : goal.recount_left-requires-clause-ends
recount_left-requires-clause-ends c =
    ends_placed c.args.rows.now c.cancel_place_of-canceled.new.rows c.args.place (cancelled_of c.args.reason c.args.job)
    (λ row. file_if_cancelled c.args.reason row (row.job == c.args.job)) c.requires.inside c.cancel_place_of-canceled.ensures.rows
    (limits_of c.args.beside.now.parts) (limits_of c.cancel_place_of-canceled.new.parts) c.link_in_line-link.result
    c.cancel_place_of-canceled.ensures.limits c.link_in_line-link.ensures.ends
