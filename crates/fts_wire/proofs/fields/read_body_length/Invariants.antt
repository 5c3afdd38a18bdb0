use Rattle.std.proofs.Common.{take, map}
use Rattle.std.specs.Prelude.{codes}
use Rattle.httparse.specs.Spans.{header_bytes}
use Rattle.fts_wire.specs.Fields.{values_of}
use Rattle.fts_wire.proofs.Values.{IsOnly}
use Rattle.fts_wire.proofs.fields.read_body_length.Given as goal

abbrev pub invariant-loop-header : goal.invariant-loop-header
invariant-loop-header l = IsOnly l.head (values_of (codes "content-length") (map (header_bytes l.head) (take l.header-index l.headers))) l.found
