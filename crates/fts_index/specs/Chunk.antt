-- What a `PlaceChunk` is to its callers, and what it keeps.
use Rattle.std.specs.Prelude.{◌≡◌, ℕ, ◌≤◌, List, [], ◌∷◌, length, vec_capacity}
use Rattle.fts_index.specs.IdOrder.{PlacedId}
use Rattle.fts_index.specs.declared.chunk.TheConstants.{CHUNK_ROOM}
use Rattle.fts_index.specs.declared.chunk.PlaceChunk.TheInside.{Inside}

-- each id with the place that stands as far in the other list
abbrev pub placed : List ℕ → List ℕ → List PlacedId
placed [] places = []
placed (id ∷ ids) [] = []
placed (id ∷ ids) (place ∷ places) = record { id = id; place = place } ∷ placed ids places

-- the ids with their places
abbrev pub placed_ids : Inside → List PlacedId
placed_ids chunk = placed chunk.ids.items chunk.places.items

-- each id has a place, and there is memory for all the ids and places of a chunk
pub record IsChunk (chunk : Inside) : Type 0 where
  pub even : length chunk.ids.items ≡ length chunk.places.items
  pub ids : CHUNK_ROOM ≤ vec_capacity chunk.ids
  pub places : CHUNK_ROOM ≤ vec_capacity chunk.places
