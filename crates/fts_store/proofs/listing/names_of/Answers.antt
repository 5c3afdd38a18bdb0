use Rattle.std.proofs.Common.{map, ap, ◌∙◌}
use Rattle.fts_store.proofs.Listings.{in_place, one_more, all_pieces}
use Rattle.fts_store.proofs.listing.names_of.Goals as goal

pub pieces-preserved : goal.pieces-preserved
pieces-preserved c = c.in_ok-keep_text.ensures
    ∙ one_more (λ piece. piece.now) c.as_slice-piece-items.result.now c.pieces.piece-index _ _
    (in_place _ _ _ c.pieces-test.true) c.pieces-test.true c.pieces.invariant

pub returns : goal.returns
returns c = all_pieces (λ piece. piece.now) c.as_slice-piece-items.result.now c.pieces.piece-index _ _ c.pieces-test.false c.pieces.invariant
    (ap (map (λ piece. piece.now)) c.as_slice-piece-items.ensures.value ∙ c.in_ok-pieces.ensures)
