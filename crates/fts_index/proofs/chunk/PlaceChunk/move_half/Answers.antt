use Rattle.std.proofs.Common.{◌≡◌, ◌≤◌, ◌-◌, [], ◌++◌, ◌∷◌, List, ℕ, length, take, drop, Bool, true, cond, refl, ap, sym, ◌∙◌, arith}
use Rattle.std.proofs.Math.Seq.{take-length}
use Rattle.std.proofs.lemmas.List.{length-drop, length-take}
use Rattle.fts_index.specs.Chunk.{placed, IsChunk}
use Rattle.fts_index.specs.IdOrder.{PlacedId}
use Rattle.fts_index.specs.declared.chunk.TheConstants.{CHUNK_ROOM, CHUNK_HALF}
use Rattle.fts_index.specs.declared.chunk.PlaceChunk.TheInside.{Inside}
use Rattle.fts_index.proofs.Placed.{lengths, placed-take, placed-drop}
use Rattle.fts_index.proofs.chunk.PlaceChunk.move_half.Goals as goal
use Rattle.fts_index.proofs.chunk.PlaceChunk.move_half.Goals.{After-extend_from_slice-2}

-- a full chunk has as many ids, and as many places
both_full : (chunk : Inside) (seen : List PlacedId) → IsChunk chunk → placed chunk.ids.items chunk.places.items ≡ seen → length seen ≡ CHUNK_ROOM
    → (length chunk.ids.items ≡ CHUNK_ROOM) × (length chunk.places.items ≡ CHUNK_ROOM)
both_full chunk seen is same full = let long = lengths chunk seen is same in (long.0 ∙ full, long.1 ∙ full)

-- one without ids has neither
none_of : (items : List ℕ) → length items ≡ 0 → items ≡ []
none_of [] none = refl
none_of (item ∷ items) none = absurd (omega (arith, none))

both_empty : (chunk : Inside) (seen : List PlacedId) → IsChunk chunk → placed chunk.ids.items chunk.places.items ≡ seen → seen ≡ []
    → (chunk.ids.items ≡ []) × (chunk.places.items ≡ [])
both_empty chunk seen is same empty =
    let long = lengths chunk seen is same in
    (none_of chunk.ids.items (long.0 ∙ ap length empty), none_of chunk.places.items (long.1 ∙ ap length empty))

-- how much is moved
few : (seen items : List ℕ) → seen ≡ items → length items ≡ CHUNK_ROOM → length (take (length seen - CHUNK_HALF) (drop CHUNK_HALF seen)) ≤ CHUNK_ROOM
few seen items same full = omega (arith, length-take (length seen - CHUNK_HALF) (drop CHUNK_HALF seen), length-drop CHUNK_HALF seen, ap length same, full)

-- and what stands then where nothing stood
moved : (seen items spare new : List ℕ) (answer : Bool) → new ≡ cond answer (spare ++ take (length seen - CHUNK_HALF) (drop CHUNK_HALF seen)) spare → answer ≡ true
    → spare ≡ [] → seen ≡ items → new ≡ drop CHUNK_HALF items
moved seen items spare new answer is done empty same =
    is
    ∙ (ap (λ (some : Bool). cond some (spare ++ take (length seen - CHUNK_HALF) (drop CHUNK_HALF seen)) spare) done
    ∙ (ap (λ front. front ++ take (length seen - CHUNK_HALF) (drop CHUNK_HALF seen)) empty
    ∙ (ap (λ many. take many (drop CHUNK_HALF seen)) (sym (length-drop CHUNK_HALF seen))
    ∙ (take-length (drop CHUNK_HALF seen)
    ∙ ap (λ some. drop CHUNK_HALF some) same))))

pub slice_bounds-extend_from_slice-count : goal.slice_bounds-extend_from_slice-count
slice_bounds-extend_from_slice-count c =
    let full = both_full c.self.inside c.args.self.now c.self.invariant c.self.view_is c.requires.full in
    omega (arith, full.0, ap length c.deref.ensures.value)

pub slice_bounds-extend_from_slice-start : goal.slice_bounds-extend_from_slice-start
slice_bounds-extend_from_slice-start c =
    let full = both_full c.self.inside c.args.self.now c.self.invariant c.self.view_is c.requires.full in
    omega (arith, full.0, ap length c.deref.ensures.value)

pub slice_bounds-extend_from_slice-count-2 : goal.slice_bounds-extend_from_slice-count-2
slice_bounds-extend_from_slice-count-2 c =
    let full = both_full c.self.inside c.args.self.now c.self.invariant c.self.view_is c.requires.full in
    omega (arith, full.1, ap length c.deref-2.ensures.value)

pub slice_bounds-extend_from_slice-start-2 : goal.slice_bounds-extend_from_slice-start-2
slice_bounds-extend_from_slice-start-2 c =
    let full = both_full c.self.inside c.args.self.now c.self.invariant c.self.view_is c.requires.full in
    omega (arith, full.1, ap length c.deref-2.ensures.value)

-- there is memory for all that is moved
both_moved : (c : After-extend_from_slice-2) → (c.extend_from_slice.new.self.items ≡ drop CHUNK_HALF c.self.inside.ids.items)
    × (c.extend_from_slice-2.new.self.items ≡ drop CHUNK_HALF c.self.inside.places.items)
both_moved c =
    let full = both_full c.self.inside c.args.self.now c.self.invariant c.self.view_is c.requires.full in
    let empty = both_empty c.spare.inside c.args.spare.now c.spare.invariant c.spare.view_is c.requires.empty in
    let few_ids = few c.deref.result.now c.self.inside.ids.items c.deref.ensures.value full.0 in
    let few_places = few c.deref-2.result.now c.self.inside.places.items c.deref-2.ensures.value full.1 in (
      moved c.deref.result.now c.self.inside.ids.items c.spare.inside.ids.items c.extend_from_slice.new.self.items _ c.extend_from_slice.ensures.items
          (c.extend_from_slice.ensures.succeeds (omega (arith, ap length empty.0, c.spare.inside.ids.ok.0, c.spare.invariant.ids, few_ids)))
          empty.0 c.deref.ensures.value,
      moved c.deref-2.result.now c.self.inside.places.items c.spare.inside.places.items c.extend_from_slice-2.new.self.items _
          c.extend_from_slice-2.ensures.items
          (c.extend_from_slice-2.ensures.succeeds (omega (arith, ap length empty.1, c.spare.inside.places.ok.0, c.spare.invariant.places, few_places)))
          empty.1 c.deref-2.ensures.value,
    )

pub invariant_of-spare : goal.invariant_of-spare
invariant_of-spare c =
    let full = both_full c.self.inside c.args.self.now c.self.invariant c.self.view_is c.requires.full in
    let both = both_moved (goal.at.invariant_of-spare c).After-extend_from_slice-2 in
    record {
      even = omega (
        arith,
        ap length both.0,
        ap length both.1,
        length-drop CHUNK_HALF c.self.inside.ids.items,
        length-drop CHUNK_HALF c.self.inside.places.items,
        full.0,
        full.1,
      );
      ids = omega (arith, c.extend_from_slice.ensures.capacity, c.spare.invariant.ids);
      places = omega (arith, c.extend_from_slice-2.ensures.capacity, c.spare.invariant.places);
    }

pub returns-clause-stays : goal.returns-clause-stays
returns-clause-stays c =
    ap (λ some. placed some c.truncate-2.new.self.items) c.truncate.ensures.items
    ∙ (ap (λ some. placed (take CHUNK_HALF c.self.inside.ids.items) some) c.truncate-2.ensures.items
    ∙ (placed-take c.self.inside.ids.items c.self.inside.places.items c.self.invariant.even CHUNK_HALF
    ∙ ap (λ (order : List PlacedId). take CHUNK_HALF order) c.self.view_is))

pub returns-clause-moves : goal.returns-clause-moves
returns-clause-moves c =
    let both = both_moved (goal.at.returns-clause-moves c).After-extend_from_slice-2 in
    ap (λ some. placed some c.extend_from_slice-2.new.self.items) both.0
    ∙ (ap (λ some. placed (drop CHUNK_HALF c.self.inside.ids.items) some) both.1
    ∙ (placed-drop c.self.inside.ids.items c.self.inside.places.items c.self.invariant.even CHUNK_HALF
    ∙ ap (λ (order : List PlacedId). drop CHUNK_HALF order) c.self.view_is))
