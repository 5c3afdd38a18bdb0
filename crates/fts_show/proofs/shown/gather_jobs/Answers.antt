-- The lines of one job more, and lines that were cut short; a job is found by its own number.
use Rattle.std.proofs.Common.{length, refl, ap, arith}
use Rattle.fts_tables.specs.declared.rows.JobRow.{JobRow}
use Rattle.fts_routes.proofs.Numbered.{own-number}
use Rattle.fts_show.specs.Shown.{lines_of}
use Rattle.fts_show.proofs.Gathering.{waits_still}
use Rattle.fts_show.proofs.Showing.{line_gathered, line_cut}
use Rattle.fts_show.proofs.shown.gather_jobs.Goals as goal

pub jobs-init : goal.jobs-init
jobs-init g c = record {
  so_far = waits_still (g.K.Sink.held c.args.output.now) c.args.gathered.now;
  keeps = omega arith;
}

pub gather_job-requires : goal.gather_job-requires
gather_job-requires g c = record {
  number = rw c.jobs-jobs.ensures.jobs (own-number (λ (job : JobRow). job.number) c.args.desk.now.tables.jobs c.jobs.job-index _
      c.standing.ensures.standing.formed.jobs (omega (arith, c.jobs-test.true, ap length c.jobs-jobs.ensures.jobs)));
}

pub jobs-preserved : goal.jobs-preserved
jobs-preserved g c = record {
  so_far = line_gathered (lines_of c.args.desk.now.tables) c.args.desk.now.tables.jobs c.jobs.job-index _ _
      (omega (arith, c.jobs-test.true, ap length c.jobs-jobs.ensures.jobs)) refl
      (g.K.Sink.held c.args.output.now) (g.K.Sink.held c.jobs.output) (g.K.Sink.held c.gather_job.new.output)
      c.args.gathered.now c.jobs.gathered c.gather_job.new.gathered c.jobs.invariant.so_far
      (rw c.jobs-jobs.ensures.jobs at c.in-Ok.ensures.gathers);
  keeps = omega (arith, c.jobs.invariant.keeps, c.gather_job.ensures.cause.keeps);
}

pub returns-in-Err-clause-gathers : goal.returns-in-Err-clause-gathers
returns-in-Err-clause-gathers g c = line_cut (lines_of c.args.desk.now.tables) c.args.desk.now.tables.jobs c.jobs.job-index _ _
    (omega (arith, c.jobs-test.true, ap length c.jobs-jobs.ensures.jobs)) refl
    (g.K.Sink.held c.args.output.now) (g.K.Sink.held c.jobs.output) (g.K.Sink.held c.gather_job.new.output)
    c.args.gathered.now c.jobs.gathered c.gather_job.new.gathered c.jobs.invariant.so_far c.in-Err.fault
    (rw c.jobs-jobs.ensures.jobs at c.in-Err.ensures.gathers)
