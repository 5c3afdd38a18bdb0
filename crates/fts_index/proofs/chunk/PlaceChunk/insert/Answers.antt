use Rattle.std.proofs.Common.{◌≡◌, ℕ, List, length, insert, cond, Bool, true, ap, ◌∙◌, arith}
use Rattle.std.proofs.lemmas.List.Edits.{length-insert}
use Rattle.fts_index.specs.Chunk.{placed}
use Rattle.fts_index.specs.IdOrder.{PlacedId}
use Rattle.fts_index.proofs.Placed.{lengths, placed-insert}
use Rattle.fts_index.proofs.chunk.PlaceChunk.insert.Goals as goal
use Rattle.fts_index.proofs.chunk.PlaceChunk.insert.Goals.{After-insert-2}

-- an insertion that has its memory
put : (items new : List ℕ) (at item : ℕ) (answer : Bool) → new ≡ cond answer (insert items at item) items → answer ≡ true → new ≡ insert items at item
put items new at item answer is done = is ∙ ap (λ (some : Bool). cond some (insert items at item) items) done

pub insert-requires : goal.insert-requires
insert-requires c = omega (arith, c.requires.inside, (lengths c.self.inside c.args.self.now c.self.invariant c.self.view_is).0)

pub insert-requires-2 : goal.insert-requires-2
insert-requires-2 c = omega (arith, c.requires.inside, (lengths c.self.inside c.args.self.now c.self.invariant c.self.view_is).1)

-- there is memory for the id and for its place
both_put : (c : After-insert-2) → (c.insert.new.self.items ≡ insert c.self.inside.ids.items c.args.at c.args.id)
    × (c.insert-2.new.self.items ≡ insert c.self.inside.places.items c.args.at c.args.place)
both_put c =
    let long = lengths c.self.inside c.args.self.now c.self.invariant c.self.view_is in (
      put c.self.inside.ids.items c.insert.new.self.items c.args.at c.args.id _ c.insert.ensures.items
          (c.insert.ensures.succeeds (omega (arith, c.self.invariant.ids, c.requires.room, long.0))),
      put c.self.inside.places.items c.insert-2.new.self.items c.args.at c.args.place _ c.insert-2.ensures.items
          (c.insert-2.ensures.succeeds (omega (arith, c.self.invariant.places, c.requires.room, long.1))),
    )

pub invariant_of-self : goal.invariant_of-self
invariant_of-self c =
    let long = lengths c.self.inside c.args.self.now c.self.invariant c.self.view_is in
    let both = both_put (goal.at.invariant_of-self c).After-insert-2 in
    record {
      even = omega (
        arith,
        c.self.invariant.even,
        ap length both.0,
        ap length both.1,
        length-insert c.self.inside.ids.items c.args.at c.args.id (omega (arith, c.requires.inside, long.0)),
        length-insert c.self.inside.places.items c.args.at c.args.place (omega (arith, c.requires.inside, long.1)),
      );
      ids = omega (arith, c.self.invariant.ids, c.insert.ensures.capacity);
      places = omega (arith, c.self.invariant.places, c.insert-2.ensures.capacity);
    }

pub returns : goal.returns
returns c =
    let long = lengths c.self.inside c.args.self.now c.self.invariant c.self.view_is in
    let both = both_put (goal.at.returns c).After-insert-2 in
    record {
      ids = ap (λ some. placed some c.insert-2.new.self.items) both.0
          ∙ (ap (λ some. placed (insert c.self.inside.ids.items c.args.at c.args.id) some) both.1
          ∙ (placed-insert c.self.inside.ids.items c.self.inside.places.items c.self.invariant.even c.args.at c.args.id c.args.place
          (omega (arith, c.requires.inside, long.1))
          ∙ ap (λ (order : List PlacedId). insert order c.args.at (record { id = c.args.id; place = c.args.place })) c.self.view_is));
    }
