-- A line more, and a line that was cut short.
use Rattle.std.proofs.Common.{sym, arith}
use Rattle.fts_show.specs.Shown.{file_line}
use Rattle.fts_show.proofs.Gathering.{waits_still}
use Rattle.fts_show.proofs.Showing.{line_gathered, line_cut}
use Rattle.fts_show.proofs.shown.gather_files.Goals as goal

pub rows-init : goal.rows-init
rows-init g c = record {
  so_far = waits_still (g.K.Sink.held c.args.output.now) c.args.gathered.now;
  keeps = omega arith;
}

pub rows-preserved : goal.rows-preserved
rows-preserved g c = record {
  so_far = line_gathered file_line c.args.rows.now c.rows.row-index c.row-item.result c.row-item.result c.rows-test.true (sym c.row-item.is)
      (g.K.Sink.held c.args.output.now) (g.K.Sink.held c.rows.output) (g.K.Sink.held c.gather_file_line.new.output)
      c.args.gathered.now c.rows.gathered c.gather_file_line.new.gathered c.rows.invariant.so_far c.in-Ok.ensures.gathers;
  keeps = omega (arith, c.rows.invariant.keeps, c.gather_file_line.ensures.cause.keeps);
}

pub returns-in-Err-clause-gathers : goal.returns-in-Err-clause-gathers
returns-in-Err-clause-gathers g c = line_cut file_line c.args.rows.now c.rows.row-index c.row-item.result c.row-item.result c.rows-test.true (sym c.row-item.is)
    (g.K.Sink.held c.args.output.now) (g.K.Sink.held c.rows.output) (g.K.Sink.held c.gather_file_line.new.output)
    c.args.gathered.now c.rows.gathered c.gather_file_line.new.gathered c.rows.invariant.so_far c.in-Err.fault c.in-Err.ensures.gathers
