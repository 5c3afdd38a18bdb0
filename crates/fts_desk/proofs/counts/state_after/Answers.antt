-- A job has rows; as long as one is live, it is ACTIVE where one has begun, and SUBMITTED where none has.
use Rattle.std.proofs.Common.{sym, ◌∙◌}
use Rattle.fts_desk.proofs.JobProgress.{job_has_rows, some_begun, none_begun}
use Rattle.fts_desk.proofs.counts.state_after.Goals as goal

pub job_state-requires : goal.job_state-requires
job_state-requires c = record {
  some = rw c.rows_of_job.ensures.rows (job_has_rows c.args.rows.now c.args.place c.args.job.now.number c.requires.inside c.requires.own);
}

pub returns-then-begun-eq0 : goal.returns-then-begun-eq0
returns-then-begun-eq0 c = record {
  state = none_begun c.args.job.now.kind c.args.rows.now c.args.job.now.number (λ none. c.if-live-eq0.false (c.requires.live ∙ none))
      (sym c.requires.begun ∙ c.if-begun-eq0.true);
}

pub returns-else-begun-eq0 : goal.returns-else-begun-eq0
returns-else-begun-eq0 c = record {
  state = some_begun c.args.job.now.kind c.args.rows.now c.args.job.now.number (λ none. c.if-live-eq0.false (c.requires.live ∙ none))
      (λ none. c.if-begun-eq0.false (c.requires.begun ∙ none));
}
