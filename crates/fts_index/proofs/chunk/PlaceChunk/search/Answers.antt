use Rattle.std.proofs.Common.{List, ℕ, length, IfOk, IfErr, subst, sym}
use Rattle.std.specs.List.Sorted.{IsSearchInRange, IsBinarySearchResult}
use Rattle.std.specs.Ordering.{nat_cmp}
use Rattle.fts_index.specs.Chunk.{placed_ids}
use Rattle.fts_index.specs.IdOrder.{PlacedId, AreRising, IsInOrderAt, IsGapFor}
use Rattle.fts_index.proofs.Placed.{IsSearched, searched}
use Rattle.fts_index.proofs.chunk.PlaceChunk.search.Goals as goal
use Rattle.fts_index.proofs.chunk.PlaceChunk.search.Goals.{After-binary_search}

-- the search ends at the id, or at the gap for it
search_of : (c : After-binary_search) → IsSearched (placed_ids c.self.inside) c.args.id c.binary_search.result
search_of c =
    let same = c.as_slice.ensures.value in
    searched c.self.inside.ids.items c.self.inside.places.items c.self.invariant.even (subst AreRising (sym c.self.view_is) c.requires.rising) c.args.id
    c.binary_search.result (subst (λ (some : List ℕ). IsSearchInRange c.binary_search.result (length some)) same c.binary_search.ensures.bound)
    (subst (λ (some : List ℕ). IsBinarySearchResult (λ other. nat_cmp other c.args.id) some c.binary_search.result) same c.binary_search.ensures.position)

pub returns-clause-found : goal.returns-clause-found
returns-clause-found c =
    subst (λ (order : List PlacedId). IfOk c.binary_search.result (IsInOrderAt order c.args.id)) c.self.view_is
    (search_of (goal.at.returns-clause-found c).After-binary_search).found

pub returns-clause-absent : goal.returns-clause-absent
returns-clause-absent c =
    subst (λ (order : List PlacedId). IfErr c.binary_search.result (IsGapFor order c.args.id)) c.self.view_is
    (search_of (goal.at.returns-clause-absent c).After-binary_search).absent
