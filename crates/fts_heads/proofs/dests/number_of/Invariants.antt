use Rattle.std.proofs.Common.{◌≡◌, ◌<◌, ℕ, ◌-◌, false}
use Rattle.fts_tables.specs.Places.{is_same_place}
use Rattle.fts_heads.specs.Dests.{dests_of}
use Rattle.fts_heads.proofs.Numbers.{passes_at}
use Rattle.fts_heads.proofs.dests.number_of.Given as goal

-- no row so far goes there
abbrev pub invariant-loop-number : goal.invariant-loop-number
invariant-loop-number l = (other : ℕ) → other < l.from → passes_at (λ place. is_same_place place l.place) (dests_of l.rows) other ≡ false

abbrev pub decreases-loop-number : goal.decreases-loop-number
decreases-loop-number l = 4294967296 - l.from
