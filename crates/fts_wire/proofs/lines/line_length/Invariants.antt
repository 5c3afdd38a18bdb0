use Rattle.std.proofs.Common.{◌≡◌, ℕ, ◌<◌, false, get_or}
use Rattle.fts_wire.proofs.Feeds.{is_feed}
use Rattle.fts_wire.proofs.lines.line_length.Given as goal

abbrev pub invariant-loop-i : goal.invariant-loop-i
invariant-loop-i l = (k : ℕ) → k < l.i → is_feed (get_or l.bytes k 0) ≡ false
