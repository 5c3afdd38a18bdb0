use Rattle.std.proofs.Common.{◌≡◌, ℕ, ◌+◌, ◌++◌, ◌∷◌, [], List, length, insert, refl, sym, ap, ◌∙◌, subst, arith}
use Rattle.fts_index.specs.IdOrder.{PlacedId, IsOrderOf}
use Rattle.fts_index.specs.PlaceLists.{order_of, places_before}
use Rattle.fts_index.proofs.Ordered.{added_again, added_new, with_id}
use Rattle.fts_index.proofs.job_ids.JobIds.add.Goals as goal
use Rattle.fts_index.proofs.job_ids.JobIds.add.Goals.{in-Ok, in-Err}

-- an id that is there has its place in the order already, and a new one takes it in its gap
pub invariant_of-self : goal.invariant_of-self
invariant_of-self c = elim c.match-find_unless_sought.branch [
  | in-Ok w ↦
      with_id c.self.inside c.match-find_unless_sought.self-inside _ _ _ c.args.self.now c.args.id c.self.invariant c.self.view_is c.requires.room
      w.self-inside-is c.take.ensures.after refl c.push_reserved.ensures.items (omega (arith, c.push_reserved.ensures.capacity))
      (added_again c.self.inside.ids.items (order_of c.self.inside.order.chunks) c.self.invariant.order c.args.id w.in-Ok.ensures.found.at
      w.in-Ok.ensures.found.there)
  | in-Err w ↦
      let ids : List ℕ = c.self.inside.ids.items in
      let order : List PlacedId = order_of c.self.inside.order.chunks in
      let at : ℕ = places_before c.self.inside.order.chunks w.in-Err.spot.chunk + w.in-Err.spot.at in
      let place : c.len-place.result ≡ length ids = omega (arith, c.len-place.ensures) in
      with_id c.self.inside c.match-find_unless_sought.self-inside _ _ _ c.args.self.now c.args.id c.self.invariant c.self.view_is c.requires.room
      w.self-inside-is c.take.ensures.after refl c.push_reserved.ensures.items (omega (arith, c.push_reserved.ensures.capacity))
      (subst (IsOrderOf (ids ++ c.args.id ∷ [])) (sym (w.insert.ensures.order ∙ ap (λ some. insert order at (record { id = c.args.id; place = some })) place))
      (added_new ids order c.self.invariant.order c.args.id at w.in-Err.ensures.absent.gap))
]
