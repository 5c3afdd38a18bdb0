-- The places stay, no room falls, and there is room at the ranks so far.
use Rattle.std.proofs.Common.{◌≡◌, ℕ, ◌<◌, ◌≤◌}
use Rattle.fts_desk.specs.JobLists.{places_at}
use Rattle.fts_desk.proofs.job_states.make_room_by_rank.Given as goal

abbrev pub invariant-loop-at : goal.invariant-loop-at
invariant-loop-at l = record {
  keys : (at : ℕ) → (places_at l.by_rank at).keys ≡ (places_at l.initial.by_rank at).keys;
  least : (at : ℕ) → (places_at l.initial.by_rank at).room ≤ (places_at l.by_rank at).room;
  room : (at : ℕ) → at < l.at → l.room ≤ (places_at l.by_rank at).room;
}
