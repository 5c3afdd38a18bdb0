-- The join of the segments, by a byte.
use Rattle.fts_joburl.proofs.Joins.{joined_by_byte}
use Rattle.fts_joburl.proofs.parts.join_by_slashes.Goals as goal

pub returns : goal.returns
returns c = rw (joined_by_byte (λ s. s.now) 0x2f c.args.segments.now) at c.join.ensures.ok
