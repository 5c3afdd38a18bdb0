-- A hand for each store so far, with words on the stream of its place.
use Rattle.std.proofs.Common.{◌≡◌, length, map}
use Rattle.fts_devices.specs.Hands.{AreOnStreams}
use Rattle.fts_devices.proofs.hands.hands_over.Given as goal

abbrev pub invariant-loop-store : goal.invariant-loop-store
invariant-loop-store g l = record {
  count : length l.hands.items ≡ length l.yielded;
  stores : map (λ hand. hand.store) l.hands.items ≡ l.yielded;
  words : AreOnStreams l.moment 0 (map (λ hand. hand.words) l.hands.items);
}
