-- The lines so far were gathered.
use Rattle.std.proofs.Common.{◌≤◌, take}
use Rattle.std.specs.List.{flat_map}
use Rattle.fts_show.specs.Gathered.{IsGathered}
use Rattle.fts_show.specs.Shown.{file_line}
use Rattle.fts_show.proofs.shown.gather_files.Given as goal

abbrev pub invariant-rows : goal.invariant-rows
invariant-rows g l = record {
  so_far : IsGathered (g.K.Sink.held l.fn.output) (g.K.Sink.held l.output) l.fn.gathered l.gathered (flat_map file_line (take l.row-index l.rows));
  keeps : g.K.Sink.faults l.fn.output ≤ g.K.Sink.faults l.output;
}
