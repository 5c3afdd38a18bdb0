-- The jobs behind a number are those above it or below it.
use Rattle.std.proofs.Common.{length, ap}
use Rattle.fts_tables.specs.declared.rows.JobRow.{JobRow}
use Rattle.fts_pages.proofs.Behind.{range_all, range_above, range_below}
use Rattle.fts_pages.proofs.places.places_behind.Goals as goal

pub returns-in-None-clause-jobs : goal.returns-in-None-clause-jobs
returns-in-None-clause-jobs c = rw c.in-None.is (range_all _ c.args.desk.now.tables.jobs (ap length c.jobs-count.ensures.jobs))

pub returns-then-asked-clause-jobs : goal.returns-then-asked-clause-jobs
returns-then-asked-clause-jobs c = rw (c.in-Some.is, c.if-asked.true) (range_below (λ (job : JobRow). job.number) c.in-Some.number c.min.result
    c.args.desk.now.tables.jobs c.standing.ensures.standing.formed.jobs (rw (ap length c.jobs-count.ensures.jobs, c.saturating_sub.ensures) at c.min.ensures))

pub returns-else-asked-clause-jobs : goal.returns-else-asked-clause-jobs
returns-else-asked-clause-jobs c = rw (c.in-Some.is, c.if-asked.false) (range_above (λ (job : JobRow). job.number) c.in-Some.number c.min-else-asked.result _
    c.args.desk.now.tables.jobs c.standing.ensures.standing.formed.jobs (ap length c.jobs-count.ensures.jobs)
    (rw (ap length c.jobs-count.ensures.jobs) at c.min-else-asked.ensures))
