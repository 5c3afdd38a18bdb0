use Rattle.std.proofs.Common.{◌≡◌, ◌+◌, ◌-◌, ◌<◌, ◌≤◌, true, false, length}
use Rattle.ordered.specs.Chunks.{chunk_at, ends_before}
use Rattle.ordered.proofs.chunks.seek_chunk.Given as goal

-- the chunks in front end before the key, and one does not
abbrev pub invariant-loop-from : goal.invariant-loop-from
invariant-loop-from g l = record {
  inside : l.from ≤ l.to;
  end : l.to + 1 ≤ length l.chunks;
  front : 0 < l.from → ends_before g.K.Key.before l.key (chunk_at l.chunks (l.from - 1)) ≡ true;
  back : l.to + 1 < length l.chunks → ends_before g.K.Key.before l.key (chunk_at l.chunks l.to) ≡ false;
}

abbrev pub decreases-loop-from : goal.decreases-loop-from
decreases-loop-from g l = l.to - l.from
