use Rattle.std.proofs.Common.{◌≡◌, ◌<◌, ◌%◌, ℕ, length, get_or}
use Rattle.fts_load.proofs.sources.fill.Given as goal

-- the bytes before this one are there
abbrev pub invariant-loop-at : goal.invariant-loop-at
invariant-loop-at l = record {
  long : length l.buffer ≡ length l.initial.buffer;
  filled : (at : ℕ) → at < l.at → get_or l.buffer at 0 ≡ at % 256;
}
