-- The lines so far were gathered.
use Rattle.std.proofs.Common.{◌≤◌, take}
use Rattle.std.specs.List.{flat_map}
use Rattle.fts_show.specs.Gathered.{IsGathered}
use Rattle.fts_show.specs.Shown.{lines_of}
use Rattle.fts_show.proofs.shown.gather_jobs.Given as goal

abbrev pub invariant-jobs : goal.invariant-jobs
invariant-jobs g l = record {
  so_far : IsGathered (g.K.Sink.held l.fn.output) (g.K.Sink.held l.output) l.fn.gathered l.gathered (flat_map (lines_of l.desk.tables) (take l.job-index l.desk.tables.jobs));
  keeps : g.K.Sink.faults l.fn.output ≤ g.K.Sink.faults l.output;
}
