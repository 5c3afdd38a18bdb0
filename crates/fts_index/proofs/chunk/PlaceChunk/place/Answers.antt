use Rattle.std.proofs.Common.{◌<◌, ℕ, List, length, sym, ap, ◌∙◌, arith}
use Rattle.std.proofs.lemmas.List.{get_or_default}
use Rattle.fts_index.specs.IdOrder.{place_in_order}
use Rattle.fts_index.proofs.Placed.{lengths, place_of}
use Rattle.fts_index.proofs.chunk.PlaceChunk.place.Goals as goal

pub index-requires : goal.index-requires
index-requires c = omega (arith, c.requires.inside, (lengths c.self.inside c.args.self.now c.self.invariant c.self.view_is).1)

-- the place that stands as far as the id
pub returns : goal.returns
returns c =
    let places : List ℕ = c.self.inside.places.items in
    let inside : c.args.at < length places = omega (arith, c.requires.inside, (lengths c.self.inside c.args.self.now c.self.invariant c.self.view_is).1) in
    record {
      place = c.index.ensures
          ∙ (get_or_default places c.args.at c.index.result.now 0 inside
          ∙ (sym (place_of c.self.inside.ids.items places c.self.invariant.even c.args.at) ∙ ap (λ some. place_in_order some c.args.at) c.self.view_is));
    }
