use Rattle.std.proofs.Common.{◌≡◌, ℕ, ◌<◌, true, get_or}
use Rattle.httparse.specs.Pieces.{is_newline}
use Rattle.fts_wire.proofs.lines.count_blanks.Given as goal

abbrev pub invariant-loop-i : goal.invariant-loop-i
invariant-loop-i l = (k : ℕ) → k < l.i → is_newline (get_or l.bytes k 0) ≡ true
