-- A half is shorter than the whole.
use Rattle.std.proofs.Common.{length, ◌+◌, ◌*◌, max}
use Rattle.fts_shop.proofs.many.+halves.Given as goal

abbrev pub decreases-spread : goal.decreases-spread
decreases-spread g l = 3 * length l.jobs.now

abbrev pub decreases-spread_both : goal.decreases-spread_both
decreases-spread_both g l = 3 * max (length l.front.now) (length l.back.now) + 2

abbrev pub decreases-spread_both-first : goal.decreases-spread_both-first
decreases-spread_both-first g l = 3 * length l.front.now + 1

abbrev pub decreases-spread_both-second : goal.decreases-spread_both-second
decreases-spread_both-second g l = 3 * length l.back.now + 1
