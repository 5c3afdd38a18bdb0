use Rattle.std.proofs.Common.{◌≡◌, ℕ, ◌+◌, ◌<◌, ◌≤◌, List, [], length, take, drop, insert, get_or, ap, sym, ◌∙◌, subst, arith, vec_capacity}
use Rattle.std.proofs.Math.ListN.{set}
use Rattle.std.proofs.lemmas.List.{get_or_default, get_or-set_same, length-set}
use Rattle.std.proofs.lemmas.List.Edits.{length-insert}
use Rattle.fts_index.specs.declared.chunk.TheConstants.{CHUNK_ROOM, CHUNK_HALF}
use Rattle.fts_index.specs.IdOrder.{PlacedId}
use Rattle.fts_index.specs.Order.{IsFit, IsSpare}
use Rattle.fts_index.specs.PlaceLists.{PlaceLists, places_before, order_of}
use Rattle.fts_index.proofs.InChunks.{set-again, order_of-put, order_of-halves, fit-set, fit-halves}
use Rattle.fts_index.proofs.order.PlacesInOrder.insert.Goals as goal
use Rattle.fts_index.proofs.order.PlacesInOrder.insert.Goals.{After-index}

-- a chunk with one id more among the chunks, and what is read of it then
record IsPut (chunks seen : List (List PlacedId)) (at within : ℕ) (entry : PlacedId) (new read : List PlacedId) : Type 0 where
  pub inside : at < length chunks
  pub longer : length new ≡ length (get_or chunks at []) + 1
  pub read_is : read ≡ new
  pub order : order_of (set chunks at new) ≡ insert (order_of seen) (places_before seen at + within) entry

put_of : (chunks seen : List (List PlacedId)) (at within : ℕ) (entry : PlacedId) (was new read : List PlacedId) → chunks ≡ seen
    → at < length seen → within ≤ length (get_or seen at [])
    → was ≡ get_or chunks at was → new ≡ insert was within entry → read ≡ get_or (set chunks at new) at read → IsPut chunks seen at within entry new read
put_of chunks seen at within entry was new read same at_seen within_seen is_was is_new is_read =
    let inside : at < length chunks = omega (arith, at_seen, ap length same) in
    let chunk_is : was ≡ get_or chunks at [] = is_was ∙ get_or_default chunks at was [] inside in
    let within_chunk : within ≤ length (get_or chunks at []) = omega (arith, within_seen, ap (λ some. length (get_or some at [])) same) in
    let new_is : new ≡ insert (get_or chunks at []) within entry = is_new ∙ ap (λ some. insert some within entry) chunk_is in
    record {
      inside = inside;
      longer = ap length new_is ∙ length-insert (get_or chunks at []) within entry within_chunk;
      read_is = is_read
          ∙ (get_or_default (set chunks at new) at read [] (omega (arith, inside, length-set chunks at new)) ∙ get_or-set_same chunks at new [] inside);
      order = ap (λ chunk. order_of (set chunks at chunk)) new_is
          ∙ (order_of-put chunks at within entry inside within_chunk ∙ ap (λ some. insert (order_of some) (places_before some at + within) entry) same);
    }

-- the halves of the chunk that was put there
halves_are : (chunks : List (List PlacedId)) (at : ℕ) (full : List PlacedId) → at < length chunks
    → insert (set (set chunks at full) at (take CHUNK_HALF (get_or (set chunks at full) at []))) (at + 1) (drop CHUNK_HALF (get_or (set chunks at full) at []))
    ≡ insert (set chunks at (take CHUNK_HALF full)) (at + 1) (drop CHUNK_HALF full)
halves_are chunks at full within =
    ap (λ some. insert (set (set chunks at full) at (take CHUNK_HALF some)) (at + 1) (drop CHUNK_HALF some)) (get_or-set_same chunks at full [] within)
    ∙ ap (λ some. insert some (at + 1) (drop CHUNK_HALF full)) (set-again chunks at full (take CHUNK_HALF full))

-- what this insertion puts
the_put : (c : After-index) → IsPut c.self.inside.chunks.items c.args.self.now.chunks c.args.spot.chunk c.args.spot.at
    (record { id = c.args.id; place = c.args.place }) c.insert.new.self c.index.result.now
the_put c =
    put_of c.self.inside.chunks.items c.args.self.now.chunks c.args.spot.chunk c.args.spot.at (record { id = c.args.id; place = c.args.place })
    c.index_mut.result.now c.insert.new.self c.index.result.now (ap (λ (lists : PlaceLists). lists.chunks) c.self.view_is) c.requires.chunk c.requires.at
    c.index_mut.ensures.value c.insert.ensures.ids c.index.ensures

-- the chunk isn't full
pub invariant_of-self-else-len-eq-CHUNK_ROOM : goal.invariant_of-self-else-len-eq-CHUNK_ROOM
invariant_of-self-else-len-eq-CHUNK_ROOM c =
    let chunks : List (List PlacedId) = c.self.inside.chunks.items in
    let at : ℕ = c.args.spot.chunk in
    let new : List PlacedId = c.insert.new.self in
    let put = the_put (goal.at.invariant_of-self-else-len-eq-CHUNK_ROOM c).After-index in
    let small : length new < CHUNK_ROOM =
    omega (
      arith,
      put.longer,
      (c.self.invariant.fit at put.inside).0,
      c.if-len-eq-CHUNK_ROOM.false,
      c.len.ensures.len ∙ ap length put.read_is,
    ) in
    record {
      fit = fit-set chunks at new c.self.invariant.fit put.inside small (λ later. omega (arith, put.longer));
      spare = subst (λ some. IsSpare some (vec_capacity c.self.inside.chunks) c.self.inside.spare) (sym (length-set chunks at new)) c.self.invariant.spare;
    }

pub returns-else-len-eq-CHUNK_ROOM : goal.returns-else-len-eq-CHUNK_ROOM
returns-else-len-eq-CHUNK_ROOM c = record { order = (the_put (goal.at.returns-else-len-eq-CHUNK_ROOM c).After-index).order }

-- a full chunk was split: its halves stand in its place, and no spare one waits
pub invariant_of-self : goal.invariant_of-self
invariant_of-self c =
    let chunks : List (List PlacedId) = c.self.inside.chunks.items in
    let at : ℕ = c.args.spot.chunk in
    let full : List PlacedId = c.insert.new.self in
    let put = the_put (goal.at.invariant_of-self c).After-index in
    let long : length full ≡ CHUNK_ROOM = omega (arith, c.if-len-eq-CHUNK_ROOM.true, c.len.ensures.len ∙ ap length put.read_is) in
    record {
      fit = subst IsFit (sym (c.split.ensures.halves ∙ halves_are chunks at full put.inside)) (fit-halves chunks at full c.self.invariant.fit put.inside long);
      spare = subst (λ spare. IsSpare (length c.split.new.chunks.items) (vec_capacity c.split.new.chunks) spare) (sym c.take.ensures.after) tt;
    }

pub returns-in-Some : goal.returns-in-Some
returns-in-Some c =
    let chunks : List (List PlacedId) = c.self.inside.chunks.items in
    let at : ℕ = c.args.spot.chunk in
    let full : List PlacedId = c.insert.new.self in
    let put = the_put (goal.at.returns-in-Some c).After-index in
    record {
      order = ap order_of (c.split.ensures.halves ∙ halves_are chunks at full put.inside) ∙ (order_of-halves chunks at full put.inside ∙ put.order);
    }
