use Rattle.std.proofs.Common.{◌≡◌, ℕ, ◌+◌, ◌<◌, ◌≤◌, List, [], length, ap, sym, ◌∙◌, subst, arith}
use Rattle.std.specs.Prelude.{is_some}
use Rattle.std.proofs.lemmas.List.{get_or_default}
use Rattle.fts_index.specs.IdOrder.{PlacedId, place_in_order, AreRising, IsInOrderAt, IsPlaceOf, IsGapFor}
use Rattle.fts_index.specs.PlaceLists.{PlaceLists, chunk_at, first_id, IsGapIn, order_of}
use Rattle.fts_index.proofs.Sought.{rising_there, found_there, gap_there}
use Rattle.fts_index.proofs.order.PlacesInOrder.find.Goals as goal

pub search-requires : goal.search-requires
search-requires c =
    let chunks : List (List PlacedId) = c.self.inside.chunks.items in
    let at : ℕ = c.chunk_for-chunk.result in
    let inside : at < length chunks = omega (arith, c.chunk_for-chunk.ensures.inside, ap length c.as_slice.ensures.value) in
    let rising = subst (λ (lists : PlaceLists). AreRising (order_of lists.chunks)) (sym c.self.view_is) c.requires.rising in
    let read = c.index.ensures ∙ get_or_default chunks at c.index.result.now [] inside in
    record { rising = subst AreRising (sym read) (rising_there chunks at rising inside) }

pub returns-in-Ok-clause-found : goal.returns-in-Ok-clause-found
returns-in-Ok-clause-found c =
    let chunks : List (List PlacedId) = c.self.inside.chunks.items in
    let at : ℕ = c.chunk_for-chunk.result in
    let inside : at < length chunks = omega (arith, c.chunk_for-chunk.ensures.inside, ap length c.as_slice.ensures.value) in
    let rising = subst (λ (lists : PlaceLists). AreRising (order_of lists.chunks)) (sym c.self.view_is) c.requires.rising in
    let read = c.index.ensures ∙ get_or_default chunks at c.index.result.now [] inside in
    let read_again = c.index-in-Ok.ensures ∙ get_or_default chunks at c.index-in-Ok.result.now [] inside in
    let there = subst (λ chunk. IsInOrderAt chunk c.args.id c.in-Ok.at) read c.in-Ok.ensures.found in
    subst (λ (lists : PlaceLists). IsPlaceOf (order_of lists.chunks) c.args.id c.place.result) c.self.view_is
    (subst (λ place. IsPlaceOf (order_of chunks) c.args.id place) (sym (c.place.ensures.place ∙ ap (λ chunk. place_in_order chunk c.in-Ok.at) read_again))
    (found_there chunks at rising inside c.args.id c.in-Ok.at there))

pub returns-in-Err-clause-absent : goal.returns-in-Err-clause-absent
returns-in-Err-clause-absent c =
    let chunks : List (List PlacedId) = c.self.inside.chunks.items in
    let at : ℕ = c.chunk_for-chunk.result in
    let same : c.as_slice.result.now ≡ chunks = c.as_slice.ensures.value in
    let inside : at < length chunks = omega (arith, c.chunk_for-chunk.ensures.inside, ap length same) in
    let rising = subst (λ (lists : PlaceLists). AreRising (order_of lists.chunks)) (sym c.self.view_is) c.requires.rising in
    let read = c.index.ensures ∙ get_or_default chunks at c.index.result.now [] inside in
    let gap = subst (λ chunk. IsGapFor chunk c.args.id c.in-Err.at) read c.in-Err.ensures.absent in
    let begins = subst (λ (some : List (List PlacedId)). 0 < at → first_id (chunk_at some at) ≤ c.args.id) same c.chunk_for-chunk.ensures.begins in
    let next = subst (λ (some : List (List PlacedId)). at + 1 < length some → c.args.id < first_id (chunk_at some (at + 1))) same
    c.chunk_for-chunk.ensures.next in
    subst (λ (lists : PlaceLists). IsGapIn lists c.args.id at c.in-Err.at) c.self.view_is
    (gap_there chunks at rising inside c.args.id c.in-Err.at c.self.invariant.fit begins next gap (is_some c.self.inside.spare))
