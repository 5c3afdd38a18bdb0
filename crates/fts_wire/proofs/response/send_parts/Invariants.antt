-- The parts so far were sent whole.
use Rattle.std.proofs.Common.{◌≡◌, ◌≤◌, take, Ok}
use Rattle.std.specs.Prelude.{map}
use Rattle.std.specs.List.{concat}
use Rattle.fts_wire.specs.Response.{Sends}
use Rattle.fts_wire.specs.declared.outside.SinkFailed.{SinkFailed}
use Rattle.fts_wire.proofs.response.send_parts.Given as goal

abbrev pub invariant-sending : goal.invariant-sending
invariant-sending g l = record {
  sent : Sends {E = SinkFailed} (g.K.Sink.held l.fn.sink) (g.K.Sink.held l.sink) (concat (map (λ part. part.now) (take l.part-index l.parts))) (Ok tt);
  keeps : g.K.Sink.faults l.fn.sink ≤ g.K.Sink.faults l.sink;
  beside : g.K.Sink.beside l.sink ≡ g.K.Sink.beside l.fn.sink;
}
