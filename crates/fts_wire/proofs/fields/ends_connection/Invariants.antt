use Rattle.std.proofs.Common.{◌≡◌, false, take, map}
use Rattle.httparse.specs.Spans.{header_bytes}
use Rattle.fts_wire.specs.Fields.{says_close}
use Rattle.fts_wire.proofs.fields.ends_connection.Given as goal

abbrev pub invariant-loop-header : goal.invariant-loop-header
invariant-loop-header l = says_close l.minor (map (header_bytes l.head) (take l.header-index l.headers)) ≡ false
