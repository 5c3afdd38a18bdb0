use Rattle.std.proofs.Common.{sym, subst}
use Rattle.fts_desk.specs.Parts.{IsFollowOf}
use Rattle.fts_desk.proofs.RowsBeside.{follow_fits}
use Rattle.fts_desk.proofs.reports.report_row.Goals as goal

pub returns-clause-kind : goal.returns-clause-kind
returns-clause-kind c =
    subst (IsFollowOf c.args.job.now.kind) (sym c.after_report-after.ensures.follow) (follow_fits c.args.job.now.kind c.after_report-after.result.state)
