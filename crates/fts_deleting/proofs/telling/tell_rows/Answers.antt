-- A line more, and a line that was cut short.
use Rattle.std.proofs.Common.{sym, arith}
use Rattle.fts_wire.specs.declared.outside.SinkFailed.{SinkFailed}
use Rattle.fts_deleting.specs.Told.{row_line}
use Rattle.fts_deleting.proofs.Lines.{line_sent, line_cut}
use Rattle.fts_deleting.proofs.telling.tell_rows.Goals as goal

pub rows-preserved : goal.rows-preserved
rows-preserved g c = record {
  sent = line_sent SinkFailed row_line c.args.rows.now c.rows.row-index c.row-item.result c.row-item.result c.rows-test.true (sym c.row-item.is)
      (g.K.Sink.held c.args.output.now) (g.K.Sink.held c.rows.output) (g.K.Sink.held c.tell_row.new.output) c.rows.invariant.sent c.in-Ok.ensures.sent;
  keeps = omega (arith, c.rows.invariant.keeps, c.tell_row.ensures.cause.keeps);
}

pub returns-in-Err-clause-sent : goal.returns-in-Err-clause-sent
returns-in-Err-clause-sent g c = line_cut SinkFailed row_line c.args.rows.now c.rows.row-index c.row-item.result c.row-item.result c.rows-test.true (sym c.row-item.is)
    (g.K.Sink.held c.args.output.now) (g.K.Sink.held c.rows.output) (g.K.Sink.held c.tell_row.new.output) c.rows.invariant.sent c.in-Err.fault c.in-Err.ensures.sent
