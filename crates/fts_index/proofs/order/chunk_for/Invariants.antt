use Rattle.std.proofs.Common.{◌<◌, ◌≤◌, ◌-◌, length}
use Rattle.fts_index.specs.PlaceLists.{chunk_at, first_id}
use Rattle.fts_index.proofs.order.chunk_for.Given as goal

-- a chunk to begin at, and one behind it or the end
abbrev pub invariant-loop-to : goal.invariant-loop-to
invariant-loop-to l =
    (l.from < l.to)
    × (l.to ≤ length l.chunks)
    × (0 < l.from → first_id (chunk_at l.chunks l.from) ≤ l.id)
    × (l.to < length l.chunks → l.id < first_id (chunk_at l.chunks l.to))

abbrev pub decreases-loop-to : goal.decreases-loop-to
decreases-loop-to l = l.to - l.from
