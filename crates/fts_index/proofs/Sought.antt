-- What a search in the chunk for an id says of the whole order.
use Rattle.std.proofs.Common.{◌≡◌, Bool, true, false, Option, Some, None, ℕ, zero, suc, ◌+◌, ◌<◌, ◌≤◌, List, [], ◌∷◌, length, take, drop, get_or, ap, sym, ◌∙◌, subst, arith}
use Rattle.std.specs.Prelude.{IsTrue, is_some}
use Rattle.fts_index.specs.IdOrder.{PlacedId, place_in_order, AreRising, IsInOrderAt, IsPlaceOf, IsGapFor}
use Rattle.fts_index.specs.Order.{IsFit, IsSpare}
use Rattle.fts_index.specs.PlaceLists.{chunk_at, first_id, IsGapIn, order_of}
use Rattle.fts_index.proofs.InChunks.{place_in, rising_in, found_in, gap_in, order_of-at, next_begins}

-- what stands before a chunk is before it
front_some : (chunks : List (List PlacedId)) (at : ℕ) → 0 < length (order_of (take at chunks)) → 0 < at
front_some chunks zero some = absurd (omega (arith, some))
front_some chunks (suc at) some = omega arith

module _ (chunks : List (List PlacedId)) (at : ℕ) (rising : AreRising (order_of chunks)) (inside : at < length chunks) where
  abbrev front : List PlacedId
  front = order_of (take at chunks)

  abbrev chunk : List PlacedId
  chunk = get_or chunks at []

  abbrev back : List PlacedId
  back = order_of (drop (suc at) chunks)

  -- the ids rise along the chunk
  pub rising_there : AreRising chunk
  rising_there = rising_in front chunk back (subst AreRising (order_of-at chunks at inside) rising)

  -- an id that stands in the chunk stands in the order
  pub found_there : (id within : ℕ) → IsInOrderAt chunk id within → IsPlaceOf (order_of chunks) id (place_in_order chunk within)
  found_there id within there = record {
    at = length front + within;
    there = subst (λ order. IsInOrderAt order id (length front + within)) (sym (order_of-at chunks at inside)) (found_in front chunk back id within there);
    is = ap (λ order. place_in_order order (length front + within)) (order_of-at chunks at inside)
        ∙ ap (λ (some : PlacedId). some.place) (place_in front chunk back within there.inside);
  }

  -- a gap in the chunk is one in the order
  pub gap_there : (id within : ℕ) → IsFit chunks → (0 < at → first_id (chunk_at chunks at) ≤ id)
      → (at + 1 < length chunks → id < first_id (chunk_at chunks (at + 1))) → IsGapFor chunk id within → (ready : Bool)
      → IsGapIn (record { chunks = chunks; ready = ready }) id at within
  gap_there id within fit begins next gap ready = record {
    there = λ is. inside;
    inside = gap.inside;
    gap = subst (λ order. IsGapFor order id (length front + within)) (sym (order_of-at chunks at inside))
        (gap_in front chunk back id within (subst AreRising (order_of-at chunks at inside) rising)
        (λ some. ((fit at inside).1 (front_some chunks at some), begins (front_some chunks at some)))
        (λ some.
        let behind = next_begins chunks at (λ there. (fit (suc at) there).1 (omega arith)) some in
        let same : first_id (chunk_at chunks (at + 1)) ≡ first_id (chunk_at chunks (suc at)) =
        ap (λ place. first_id (chunk_at chunks place)) {x = at + 1} {y = suc at} (omega arith) in
        omega (arith, next (omega (arith, behind.inside)), same, ap (λ (some : PlacedId). some.id) behind.first))
        gap);
  }

-- without chunks there is no spare one, and an id has its gap at the head
pub gap_of_none : (chunks : List (List PlacedId)) (id memory : ℕ) (spare : Option (List PlacedId)) → length chunks ≡ 0 → IsSpare (length chunks) memory spare
    → IsGapIn (record { chunks = chunks; ready = is_some spare }) id 0 0
gap_of_none [] id memory None none is = record {
  there = λ (ready : IsTrue false). let clash : false ≡ true = ready in cc;
  inside = omega arith;
  gap = record { inside = omega arith; before = λ place lt. absurd (omega (arith, lt)); behind = λ place le lt. absurd (omega (arith, lt)) };
}
gap_of_none [] id memory (Some spare) none is = absurd (omega (arith, is.1))
gap_of_none (chunk ∷ chunks) id memory spare none is = absurd (omega (arith, none))
