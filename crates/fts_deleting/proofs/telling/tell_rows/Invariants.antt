-- The lines so far were written whole.
use Rattle.std.proofs.Common.{◌≤◌, take, Ok}
use Rattle.std.specs.List.{flat_map}
use Rattle.fts_wire.specs.Response.{Sends}
use Rattle.fts_wire.specs.declared.outside.SinkFailed.{SinkFailed}
use Rattle.fts_deleting.specs.Told.{row_line}
use Rattle.fts_deleting.proofs.telling.tell_rows.Given as goal

abbrev pub invariant-rows : goal.invariant-rows
invariant-rows g l = record {
  sent : Sends {E = SinkFailed} (g.K.Sink.held l.fn.output) (g.K.Sink.held l.output) (flat_map row_line (take l.row-index l.rows)) (Ok tt);
  keeps : g.K.Sink.faults l.fn.output ≤ g.K.Sink.faults l.output;
}
