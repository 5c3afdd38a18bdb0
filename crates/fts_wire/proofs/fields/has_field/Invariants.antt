use Rattle.std.proofs.Common.{◌≡◌, false, take, map}
use Rattle.httparse.specs.Spans.{header_bytes}
use Rattle.fts_wire.specs.Fields.{has_field}
use Rattle.fts_wire.proofs.fields.has_field.Given as goal

abbrev pub invariant-loop-header : goal.invariant-loop-header
invariant-loop-header l = has_field l.name (map (header_bytes l.head) (take l.header-index l.headers)) ≡ false
