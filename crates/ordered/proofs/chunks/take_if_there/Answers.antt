use Rattle.std.proofs.Common.{◌≡◌, ◌+◌, ◌<◌, true, length, ap, sym, ◌∙◌, subst, arith}
use Rattle.ordered.specs.Orders.{has_key}
use Rattle.ordered.specs.Chunks.{joined, chunk_at, front_of, back_of, IsGapFor}
use Rattle.ordered.proofs.Places.{there_inside, removed_at, same_gap}
use Rattle.ordered.proofs.chunks.take_if_there.Goals as goal
use Rattle.ordered.proofs.chunks.take_if_there.Goals.{Then-is_there}

-- where the key stands, if it is there
there_of : (g : _) (c : Then-is_there g) → has_key g.K.Key.before c.args.key.now (joined c.args.chunks.now.items) ≡ true
there_of g c =
    ap (λ chunks. has_key g.K.Key.before c.args.key.now (joined chunks)) (sym c.as_slice-2.ensures.value)
    ∙ (sym c.is_at-is_there.ensures.answer ∙ c.if-is_there.true)

inside_of : (g : _) (c : Then-is_there g) → c.spot_for-spot.result.chunk < length c.args.chunks.now.items
inside_of g c = omega (arith, c.spot_for-spot.ensures.chunk, ap length c.as_slice.ensures.value)

gap_of : (g : _) (c : Then-is_there g)
    → IsGapFor g.K.Key.before c.args.key.now (front_of c.args.chunks.now.items c.spot_for-spot.result.chunk c.spot_for-spot.result.at)
    (back_of c.args.chunks.now.items c.spot_for-spot.result.chunk c.spot_for-spot.result.at)
gap_of g c = same_gap g.K.Key.before c.args.key.now _ c.args.chunks.now.items _ _ c.as_slice.ensures.value c.spot_for-spot.ensures.gap

less_of : (g : _) (c : Then-is_there g) → c.spot_for-spot.result.at < length (chunk_at c.args.chunks.now.items c.spot_for-spot.result.chunk)
less_of g c =
    there_inside g.K.Key.before g.met.K.Key.order c.args.key.now c.args.chunks.now.items c.spot_for-spot.result.chunk c.spot_for-spot.result.at (inside_of g c)
    (gap_of g c) (there_of g c)
    (subst
    (λ chunks. c.spot_for-spot.result.chunk + 1 < length chunks → c.spot_for-spot.result.at < length (chunk_at chunks c.spot_for-spot.result.chunk))
    c.as_slice.ensures.value c.spot_for-spot.ensures.inside)

pub take_at-requires-clause-at : goal.take_at-requires-clause-at
take_at-requires-clause-at g c = less_of g (goal.at.take_at-requires-clause-at g c).Then-is_there

pub returns-then-is_there-clause-keys : goal.returns-then-is_there-clause-keys
returns-then-is_there-clause-keys g c =
    let here = (goal.at.returns-then-is_there-clause-keys g c).Then-is_there in
    λ yes. c.take_at.ensures.keys
    ∙ removed_at g.K.Key.before g.met.K.Key.order c.args.key.now c.args.chunks.now.items c.spot_for-spot.result.chunk c.spot_for-spot.result.at
    (inside_of g here) (gap_of g here) c.requires.order (there_of g here) (less_of g here)
