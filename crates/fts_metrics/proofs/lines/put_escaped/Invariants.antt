use Rattle.std.proofs.Common.{◌≡◌, ◌++◌, take}
use Rattle.fts_metrics.specs.Form.{escaped}
use Rattle.fts_metrics.proofs.lines.put_escaped.Given as goal

abbrev pub invariant-loop-byte : goal.invariant-loop-byte
invariant-loop-byte l = l.text.items ≡ l.fn.text.items ++ escaped (take l.byte-index l.value)
