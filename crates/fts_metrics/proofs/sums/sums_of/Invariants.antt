use Rattle.std.proofs.Common.{◌≡◌, ℕ, ◌*◌, ◌<◌, ◌≤◌, length, take}
use Rattle.std.specs.Prelude.{slice_index}
use Rattle.fts_metrics.specs.Sums.{sum_at}
use Rattle.fts_metrics.proofs.sums.sums_of.Given as goal

abbrev pub invariant-loop-share : goal.invariant-loop-share
invariant-loop-share l = record {
  places : length l.sums.items ≡ l.places;
  sums : (place : ℕ) → place < l.places → slice_index l.sums.items place ≡ sum_at place (take l.share-index l.shares);
  low : (place : ℕ) → place < l.places → slice_index l.sums.items place ≤ l.share-index * 18446744073709551615;
}
