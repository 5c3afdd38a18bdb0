-- The ids of a chunk with their places, against the two lists that hold them.
use Rattle.std.proofs.Common.{◌≡◌, ℕ, zero, suc, ◌<◌, ◌≤◌, List, [], ◌∷◌, length, take, drop, get_or, insert, Result, Ok, Err, IfOk, IfErr, refl, ap, sym, ◌∙◌, arith}
use Rattle.std.specs.List.Sorted.{IsSearchInRange, IsBinarySearchResult, IsNonDecreasingBy}
use Rattle.std.specs.Ordering.{nat_cmp, ordering_index}
use Rattle.std.proofs.lemmas.Cmp.{ranked}
use Rattle.std.proofs.lemmas.List.Sorted.{IsNonDecreasingBy-from_default}
use Rattle.std.proofs.lemmas.Bool.Decides.{nat_tests}
use Rattle.fts_index.specs.Chunk.{placed, IsChunk}
use Rattle.fts_index.specs.declared.chunk.PlaceChunk.TheInside.{Inside}
use Rattle.fts_index.specs.IdOrder.{PlacedId, id_in_order, place_in_order, AreRising, IsInOrderAt, IsGapFor}

-- as many as there are places
pub length-placed : (ids places : List ℕ) → length ids ≡ length places → length (placed ids places) ≡ length places
length-placed [] [] even = refl
length-placed [] (place ∷ places) even = absurd (omega (arith, even))
length-placed (id ∷ ids) [] even = absurd (omega (arith, even))
length-placed (id ∷ ids) (place ∷ places) even = ap suc (length-placed ids places (omega (arith, even)))

-- a chunk that is seen as some ids with their places has as many ids, and as many places
pub lengths : (chunk : Inside) (seen : List PlacedId) → IsChunk chunk → placed chunk.ids.items chunk.places.items ≡ seen
    → (length chunk.ids.items ≡ length seen) × (length chunk.places.items ≡ length seen)
lengths chunk seen is same =
    let count = length-placed chunk.ids.items chunk.places.items is.even in
    (omega (arith, count, is.even, ap length same), omega (arith, count, ap length same))

-- the id and the place that stand so far behind the first
pub id_of : (ids places : List ℕ) → length ids ≡ length places → (at : ℕ) → id_in_order (placed ids places) at ≡ get_or ids at 0
id_of [] places even at = refl
id_of (id ∷ ids) [] even at = absurd (omega (arith, even))
id_of (id ∷ ids) (place ∷ places) even zero = refl
id_of (id ∷ ids) (place ∷ places) even (suc at) = id_of ids places (omega (arith, even)) at

pub place_of : (ids places : List ℕ) → length ids ≡ length places → (at : ℕ) → place_in_order (placed ids places) at ≡ get_or places at 0
place_of [] [] even at = refl
place_of [] (place ∷ places) even at = absurd (omega (arith, even))
place_of (id ∷ ids) [] even at = absurd (omega (arith, even))
place_of (id ∷ ids) (place ∷ places) even zero = refl
place_of (id ∷ ids) (place ∷ places) even (suc at) = place_of ids places (omega (arith, even)) at

-- what stands in front of a place, and from there on
pub placed-take : (ids places : List ℕ) → length ids ≡ length places → (at : ℕ) → placed (take at ids) (take at places) ≡ take at (placed ids places)
placed-take ids places even zero = refl
placed-take [] [] even (suc at) = refl
placed-take [] (place ∷ places) even (suc at) = absurd (omega (arith, even))
placed-take (id ∷ ids) [] even (suc at) = absurd (omega (arith, even))
placed-take (id ∷ ids) (place ∷ places) even (suc at) =
    ap (λ behind. record { id = id; place = place } ∷ behind) (placed-take ids places (omega (arith, even)) at)

pub placed-drop : (ids places : List ℕ) → length ids ≡ length places → (at : ℕ) → placed (drop at ids) (drop at places) ≡ drop at (placed ids places)
placed-drop ids places even zero = refl
placed-drop [] [] even (suc at) = refl
placed-drop [] (place ∷ places) even (suc at) = absurd (omega (arith, even))
placed-drop (id ∷ ids) [] even (suc at) = absurd (omega (arith, even))
placed-drop (id ∷ ids) (place ∷ places) even (suc at) = placed-drop ids places (omega (arith, even)) at

-- an id and a place put in at the same place of their lists
pub placed-insert : (ids places : List ℕ) → length ids ≡ length places → (at id place : ℕ) → at ≤ length places
    → placed (insert ids at id) (insert places at place) ≡ insert (placed ids places) at (record { id = id; place = place })
placed-insert ids places even zero id place inside = refl
placed-insert [] [] even (suc at) id place inside = absurd (omega (arith, inside))
placed-insert [] (first ∷ places) even (suc at) id place inside = absurd (omega (arith, even))
placed-insert (head ∷ ids) [] even (suc at) id place inside = absurd (omega (arith, even))
placed-insert (head ∷ ids) (first ∷ places) even (suc at) id place inside =
    ap (λ behind. record { id = head; place = first } ∷ behind) (placed-insert ids places (omega (arith, even)) at id place (omega (arith, inside)))

-- where a search by halves ends: at the id, or at the gap for it
pub record IsSearched (order : List PlacedId) (id : ℕ) (result : Result ℕ ℕ) : Type 0 where
  pub found : IfOk result (IsInOrderAt order id)
  pub absent : IfErr result (IsGapFor order id)

module _ (ids places : List ℕ) (even : length ids ≡ length places) (rising : AreRising (placed ids places)) where
  -- the comparisons with an id rise along the ids, as a search by halves asks
  comparisons_rise : (id : ℕ) → IsNonDecreasingBy (λ some. ordering_index (nat_cmp some id)) ids
  comparisons_rise id = IsNonDecreasingBy-from_default (λ some. ordering_index (nat_cmp some id)) ids 0 (λ at later before inside.
      let count = length-placed ids places even in
      let ids_rise : get_or ids at 0 ≤ get_or ids later 0 =
      grind (
        arith,
        count,
        even,
        id_of ids places even at,
        id_of ids places even later,
        rising at later,
        λ (same : at ≡ later). ap (λ some. get_or ids some 0) same,
      ) in
      grind (arith, nat_tests))

  -- a search by halves ends at the id, or at the gap for it
  pub searched : (id : ℕ) (result : Result ℕ ℕ) → IsSearchInRange result (length ids) → IsBinarySearchResult (λ some. nat_cmp some id) ids result
      → IsSearched (placed ids places) id result
  searched id (Ok at) in_range equal = record {
    found = record {
      inside = omega (arith, in_range, even, length-placed ids places even);
      has = id_of ids places even at ∙ ranked _ id _ (sym (equal 0));
    };
    absent = tt;
  }
  searched id (Err at) in_range parted = record {
    found = tt;
    absent = record {
      inside = omega (arith, in_range, even, length-placed ids places even);
      before = λ some lt.
          let lesser : get_or ids some 0 < id = ranked _ id _ (sym ((parted (comparisons_rise id)).0 some 0 (omega arith) lt)) in
          omega (arith, lesser, id_of ids places even some);
      behind = λ some le lt.
          let inside : some < length ids = omega (arith, lt, even, length-placed ids places even) in
          let greater : id < get_or ids some 0 = ranked _ id _ (sym ((parted (comparisons_rise id)).1 some 0 le inside)) in
          omega (arith, greater, id_of ids places even some);
    };
  }
