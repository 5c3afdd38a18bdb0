use Rattle.std.proofs.Common.{◌≡◌}
use Rattle.fts_choice.specs.LeastPlaces.{least_place, is_not_used_at, load_of}
use Rattle.fts_choice.proofs.alternatives.least_loaded.Given as goal

abbrev pub invariant-loop-place : goal.invariant-loop-place
invariant-loop-place loop = record {
  best : loop.best ≡ least_place (is_not_used_at loop.rows) (load_of loop.loads) loop.place;
}
