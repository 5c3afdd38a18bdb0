use Rattle.std.proofs.Common.{◌≡◌}
use Rattle.fts_choice.specs.LeastPlaces.{least_place, is_eligible_at, held_of}
use Rattle.fts_choice.proofs.links.pick_link.Given as goal

abbrev pub invariant-loop-place : goal.invariant-loop-place
invariant-loop-place loop = record {
  best : loop.best ≡ least_place (is_eligible_at loop.links) (held_of loop.links) loop.place;
}
