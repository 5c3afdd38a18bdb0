use Rattle.std.proofs.Common.{◌≡◌, ◌++◌, take}
use Rattle.fts_log.specs.Quoting.{escaped}
use Rattle.fts_log.proofs.fields.put_escaped.Given as goal

abbrev pub invariant-loop-byte : goal.invariant-loop-byte
invariant-loop-byte l = l.line.items ≡ l.fn.line.items ++ escaped (take l.byte-index l.text)
