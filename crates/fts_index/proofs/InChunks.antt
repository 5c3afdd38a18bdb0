-- What holds in one chunk of an order, and what it says of the whole.
use Rattle.std.proofs.Common.{◌≡◌, ◌⊎◌, inl, inr, ℕ, zero, suc, ◌+◌, ◌-◌, ◌<◌, ◌≤◌, List, [], ◌∷◌, ◌++◌, length, take, drop, get_or, insert, refl, ap, sym, ◌∙◌, subst, arith}
use Rattle.std.proofs.Math.ListN.{set, get_or-append}
use Rattle.std.proofs.lemmas.Bool.{cases_lt, cases_eq}
use Rattle.std.proofs.lemmas.List.{get_or-append-add, set-get_or, length-append, length-take, length-drop, take-append-drop, append_assoc, get_or-set_same, get_or-set_other, length-set}
use Rattle.std.proofs.lemmas.List.Edits.{insert-append_left, insert-append_right, length-insert, get_or-insert_below, get_or-insert_at, get_or-insert_above}
use Rattle.fts_index.specs.declared.chunk.TheConstants.{CHUNK_ROOM, CHUNK_HALF}
use Rattle.fts_index.specs.IdOrder.{PlacedId, no_id, id_in_order, AreRising, IsInOrderAt, IsGapFor}
use Rattle.fts_index.specs.Order.{IsFit}
use Rattle.fts_index.specs.PlaceLists.{places_before, order_of}

module _ (front chunk back : List PlacedId) where
  abbrev whole : List PlacedId
  whole = front ++ (chunk ++ back)

  -- a place of the chunk, and one behind it
  pub place_in : (at : ℕ) → at < length chunk → get_or whole (length front + at) no_id ≡ get_or chunk at no_id
  place_in at inside = get_or-append-add front (chunk ++ back) at no_id ∙ get_or-append chunk back no_id at inside

  place_behind : (at : ℕ) → get_or whole (length front + (length chunk + at)) no_id ≡ get_or back at no_id
  place_behind at = get_or-append-add front (chunk ++ back) (length chunk + at) no_id ∙ get_or-append-add chunk back at no_id

  pub length_whole : length whole ≡ length front + (length chunk + length back)
  length_whole = length-append front (chunk ++ back) ∙ ap (λ more. length front + more) (length-append chunk back)

  id_in : (at : ℕ) → at < length chunk → id_in_order whole (length front + at) ≡ id_in_order chunk at
  id_in at inside = ap (λ (some : PlacedId). some.id) (place_in at inside)

  id_behind : (at : ℕ) → id_in_order whole (length front + (length chunk + at)) ≡ id_in_order back at
  id_behind at = ap (λ (some : PlacedId). some.id) (place_behind at)

  -- the ids rise along the chunk
  pub rising_in : AreRising whole → AreRising chunk
  rising_in rising at later before inside =
      omega (
        arith,
        rising (length front + at) (length front + later) (omega (arith, before)) (omega (arith, inside, length_whole)),
        id_in at (omega (arith, before, inside)),
        id_in later inside,
      )

  -- an id of the chunk stands in the whole
  pub found_in : (id at : ℕ) → IsInOrderAt chunk id at → IsInOrderAt whole id (length front + at)
  found_in id at there = record { inside = omega (arith, there.inside, length_whole); has = id_in at there.inside ∙ there.has }

  -- a gap in the chunk is one in the whole, where the chunk begins at the id or a lesser one, and what is behind it at a greater one
  pub gap_in : (id at : ℕ) → AreRising whole → (0 < length front → (0 < length chunk) × (id_in_order chunk 0 ≤ id))
      → (0 < length back → id < id_in_order back 0) → IsGapFor chunk id at → IsGapFor whole id (length front + at)
  gap_in id at rising begins next gap = record {
    inside = omega (arith, gap.inside, length_whole);
    before = λ place lt. before place lt (cases_lt place (length front));
    behind = λ place le inside. behind place le inside (cases_lt place (length front + length chunk));
  }
    where
      before : (place : ℕ) → place < length front + at → (place < length front) ⊎ (length front ≤ place) → id_in_order whole place < id
      before place lt (inl lesser) =
          let facts = begins (omega (arith, lesser)) in
          omega (
            arith,
            rising place (length front + 0) (omega (arith, lesser)) (omega (arith, facts.0, length_whole)),
            id_in 0 facts.0,
            facts.1,
          )
      before place lt (inr le) =
          let is : length front + (place - length front) ≡ place = omega (arith, le) in
          let here = id_in (place - length front) (omega (arith, lt, le, gap.inside)) in
          subst (λ (some : ℕ). id_in_order whole some < id) is
          (omega (arith, here, gap.before (place - length front) (omega (arith, lt, le))))

      behind : (place : ℕ) → length front + at ≤ place → place < length whole → (place < length front + length chunk) ⊎ (length front + length chunk ≤ place)
          → id < id_in_order whole place
      behind place le inside (inl lt) =
          let is : length front + (place - length front) ≡ place = omega (arith, le) in
          let here = id_in (place - length front) (omega (arith, lt, le)) in
          subst (λ (some : ℕ). id < id_in_order whole some) is
          (omega (arith, here, gap.behind (place - length front) (omega (arith, le)) (omega (arith, lt, le))))
      behind place le inside (inr ge) =
          let some : 0 < length back = omega (arith, inside, ge, length_whole) in
          let first : id < id_in_order whole (length front + (length chunk + 0)) = omega (arith, next some, id_behind 0) in
          by_place (cases_lt (length front + (length chunk + 0)) place) first
        where
          by_place : (length front + (length chunk + 0) < place) ⊎ (place ≤ length front + (length chunk + 0))
              → id < id_in_order whole (length front + (length chunk + 0)) → id < id_in_order whole place
          by_place (inl lt) first = omega (arith, first, rising (length front + (length chunk + 0)) place lt inside)
          by_place (inr same) first =
              subst (λ (some : ℕ). id < id_in_order whole some) {x = length front + (length chunk + 0)} (omega (arith, same, ge)) first

  -- an id put into the chunk is put into the whole
  pub put_in : (at : ℕ) (entry : PlacedId) → at ≤ length chunk → front ++ (insert chunk at entry ++ back) ≡ insert whole (length front + at) entry
  put_in at entry inside =
      ap (λ behind. front ++ behind) (sym (insert-append_left chunk back at entry inside))
      ∙ (ap (λ some. front ++ insert (chunk ++ back) some entry) {x = at} {y = length front + at - length front} (omega arith)
      ∙ sym (insert-append_right front (chunk ++ back) (length front) (length front + at) entry refl (omega arith)))

-- the later of two in one place
pub set-again : {Item : Type 0} (items : List Item) (at : ℕ) (one other : Item) → set (set items at one) at other ≡ set items at other
set-again [] at one other = refl
set-again (item ∷ items) zero one other = refl
set-again (item ∷ items) (suc at) one other = ap (λ behind. item ∷ behind) (set-again items at one other)

-- the order around a chunk that another is put in place of
pub order_of-set : (chunks : List (List PlacedId)) (at : ℕ) (other : List PlacedId) → at < length chunks
    → order_of (set chunks at other) ≡ order_of (take at chunks) ++ (other ++ order_of (drop (suc at) chunks))
order_of-set [] at other inside = absurd (omega (arith, inside))
order_of-set (chunk ∷ chunks) zero other inside = refl
order_of-set (chunk ∷ chunks) (suc at) other inside =
    ap (λ behind. chunk ++ behind) (order_of-set chunks at other (omega (arith, inside)))
    ∙ sym (append_assoc chunk (order_of (take at chunks)) (other ++ order_of (drop (suc at) chunks)))

-- the order around a chunk
pub order_of-at : (chunks : List (List PlacedId)) (at : ℕ) → at < length chunks
    → order_of chunks ≡ order_of (take at chunks) ++ (get_or chunks at [] ++ order_of (drop (suc at) chunks))
order_of-at chunks at inside = ap order_of (sym (set-get_or chunks at [])) ∙ order_of-set chunks at (get_or chunks at []) inside

-- a chunk in two parts is the same order
pub order_of-split : (chunks : List (List PlacedId)) (at : ℕ) (half other : List PlacedId) → at < length chunks
    → order_of (insert (set chunks at half) (suc at) other) ≡ order_of (set chunks at (half ++ other))
order_of-split [] at half other inside = absurd (omega (arith, inside))
order_of-split (chunk ∷ chunks) zero half other inside = sym (append_assoc half other (order_of chunks))
order_of-split (chunk ∷ chunks) (suc at) half other inside = ap (λ behind. chunk ++ behind) (order_of-split chunks at half other (omega (arith, inside)))

-- what stands behind a chunk begins as the next chunk, which is not empty
pub next_begins : (chunks : List (List PlacedId)) (at : ℕ) → (suc at < length chunks → 0 < length (get_or chunks (suc at) []))
    → 0 < length (order_of (drop (suc at) chunks))
    → record { inside : suc at < length chunks; first : get_or (order_of (drop (suc at) chunks)) 0 no_id ≡ get_or (get_or chunks (suc at) []) 0 no_id }
next_begins [] at filled some = absurd (omega (arith, some))
next_begins (chunk ∷ []) zero filled some = absurd (omega (arith, some))
next_begins (chunk ∷ next ∷ chunks) zero filled some = record { inside = omega arith; first = get_or-append next (order_of chunks) no_id 0 (filled (omega arith)) }
next_begins (chunk ∷ chunks) (suc at) filled some =
    let behind = next_begins chunks at (λ inside. filled (omega (arith, inside))) some in
    record { inside = omega (arith, behind.inside); first = behind.first }

-- chunks with one in place of another
pub fit-set : (chunks : List (List PlacedId)) (at : ℕ) (other : List PlacedId) → IsFit chunks → at < length chunks → length other < CHUNK_ROOM → (0 < at → 0 < length other)
    → IsFit (set chunks at other)
fit-set chunks at other fit inside small filled some within = by_side (cases_eq some at)
  where
    by_side : (some ≡ at) ⊎ (some ≡ at → ⊥) → (length (get_or (set chunks at other) some []) < CHUNK_ROOM) × (0 < some → 0 < length (get_or (set chunks at other) some []))
    by_side (inl same) =
        let is : get_or (set chunks at other) some [] ≡ other = ap (λ place. get_or (set chunks at other) place []) same ∙ get_or-set_same chunks at other [] inside in
        let long = ap length is in
        (omega (arith, long, small), λ above. omega (arith, long, filled (omega (arith, same, above))))
    by_side (inr apart) =
        let long = ap length (get_or-set_other chunks at some other [] apart) in
        let facts = fit some (omega (arith, within, length-set chunks at other)) in
        (omega (arith, long, facts.0), λ above. omega (arith, long, facts.1 above))

-- chunks with one more behind the first
pub fit-insert : (chunks : List (List PlacedId)) (at : ℕ) (other : List PlacedId) → IsFit chunks → 0 < at → at ≤ length chunks → length other < CHUNK_ROOM → 0 < length other
    → IsFit (insert chunks at other)
fit-insert chunks at other fit above inside small filled some within = by_side (cases_lt some at) (cases_lt at some)
  where
    by_side : (some < at) ⊎ (at ≤ some) → (at < some) ⊎ (some ≤ at)
        → (length (get_or (insert chunks at other) some []) < CHUNK_ROOM) × (0 < some → 0 < length (get_or (insert chunks at other) some []))
    by_side (inl lt) side =
        let long = ap length (get_or-insert_below chunks at other [] some lt inside) in
        let facts = fit some (omega (arith, lt, inside)) in
        (omega (arith, long, facts.0), λ later. omega (arith, long, facts.1 later))
    by_side (inr le) (inl gt) =
        let one_back : some - 1 + 1 ≡ some = omega (arith, gt) in
        let is : get_or (insert chunks at other) some [] ≡ get_or chunks (some - 1) [] =
        ap (λ place. get_or (insert chunks at other) place []) (sym one_back) ∙ get_or-insert_above chunks at other [] (some - 1) (omega (arith, gt)) inside in
        let long = ap length is in
        let facts = fit (some - 1) (omega (arith, gt, within, length-insert chunks at other inside)) in
        (omega (arith, long, facts.0), λ later. omega (arith, long, facts.1 (omega (arith, gt, above))))
    by_side (inr le) (inr ge) =
        let same : some ≡ at = omega (arith, le, ge) in
        let is : get_or (insert chunks at other) some [] ≡ other = ap (λ place. get_or (insert chunks at other) place []) same ∙ get_or-insert_at chunks at other [] inside in
        let long = ap length is in
        (omega (arith, long, small), λ later. omega (arith, long, filled))

-- an id put into a chunk is put into the order
pub order_of-put : (chunks : List (List PlacedId)) (at within : ℕ) (entry : PlacedId) → at < length chunks → within ≤ length (get_or chunks at [])
    → order_of (set chunks at (insert (get_or chunks at []) within entry)) ≡ insert (order_of chunks) (places_before chunks at + within) entry
order_of-put chunks at within entry inside le =
    order_of-set chunks at (insert (get_or chunks at []) within entry) inside
    ∙ (put_in (order_of (take at chunks)) (get_or chunks at []) (order_of (drop (suc at) chunks)) within entry le
    ∙ ap (λ some. insert some (places_before chunks at + within) entry) (sym (order_of-at chunks at inside)))

-- the halves of a chunk in its place are the same order
pub order_of-halves : (chunks : List (List PlacedId)) (at : ℕ) (whole_chunk : List PlacedId) → at < length chunks
    → order_of (insert (set chunks at (take CHUNK_HALF whole_chunk)) (at + 1) (drop CHUNK_HALF whole_chunk)) ≡ order_of (set chunks at whole_chunk)
order_of-halves chunks at whole_chunk inside =
    ap (λ place. order_of (insert (set chunks at (take CHUNK_HALF whole_chunk)) place (drop CHUNK_HALF whole_chunk))) {x = at + 1} {y = suc at} (omega arith)
    ∙ (order_of-split chunks at (take CHUNK_HALF whole_chunk) (drop CHUNK_HALF whole_chunk) inside
    ∙ ap (λ chunk. order_of (set chunks at chunk)) (take-append-drop CHUNK_HALF whole_chunk))

-- the halves of a full chunk in its place fit
pub fit-halves : (chunks : List (List PlacedId)) (at : ℕ) (full : List PlacedId) → IsFit chunks → at < length chunks → length full ≡ CHUNK_ROOM
    → IsFit (insert (set chunks at (take CHUNK_HALF full)) (at + 1) (drop CHUNK_HALF full))
fit-halves chunks at full fit inside is =
    let first : length (take CHUNK_HALF full) ≡ CHUNK_HALF = omega (arith, length-take CHUNK_HALF full, is) in
    let second : length (drop CHUNK_HALF full) ≡ CHUNK_ROOM - CHUNK_HALF = omega (arith, length-drop CHUNK_HALF full, is) in
    fit-insert (set chunks at (take CHUNK_HALF full)) (at + 1) (drop CHUNK_HALF full)
    (fit-set chunks at (take CHUNK_HALF full) fit inside (omega (arith, first)) (λ later. omega (arith, first)))
    (omega arith) (omega (arith, inside, length-set chunks at (take CHUNK_HALF full))) (omega (arith, second)) (omega (arith, second))
