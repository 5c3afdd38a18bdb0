-- The jobs up to the place are seen.
use Rattle.std.proofs.Common.{◌≡◌}
use Rattle.std.specs.Prelude.{nat_le}
use Rattle.fts_chronicle.specs.Finishes.{finishes_seen}
use Rattle.fts_chronicle.proofs.finishes.see_all.Given as goal

abbrev pub invariant-loop-place : goal.invariant-loop-place
invariant-loop-place l = l.finishes ≡ finishes_seen (λ number. nat_le number l.place) l.desk.tables l.now 1 l.fn.finishes
