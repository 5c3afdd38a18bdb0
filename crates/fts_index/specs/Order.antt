-- The order of ids in chunks: what it is to its callers, and what it keeps.
use Rattle.std.specs.Prelude.{◌≡◌, ℕ, ◌<◌, List, [], length, Option, Some, None, is_some, vec_capacity}
use Rattle.fts_index.specs.IdOrder.{PlacedId}
use Rattle.fts_index.specs.declared.chunk.TheConstants.{CHUNK_ROOM}
use Rattle.fts_index.specs.declared.order.PlacesInOrder.TheInside.{Inside}
use Rattle.fts_index.specs.PlaceLists.{PlaceLists, chunk_at}

-- the chunks, and whether a spare one waits
abbrev pub place_lists : Inside → PlaceLists
place_lists order = record { chunks = order.chunks.items; ready = is_some order.spare }

-- the spare chunk is empty; there is a chunk to insert into, and memory for one more in the list of chunks
abbrev pub IsSpare : ℕ → ℕ → Option (List PlacedId) → Type 0
IsSpare chunks memory None = Unit {0}
IsSpare chunks memory (Some spare) = (spare ≡ []) × (0 < chunks) × (chunks < memory)

-- no chunk is full, and none but the first is empty
abbrev pub IsFit : List (List PlacedId) → Type 0
IsFit chunks = (at : ℕ) → at < length chunks → (length (chunk_at chunks at) < CHUNK_ROOM) × (0 < at → 0 < length (chunk_at chunks at))

-- what is kept of the chunks and of the spare one
pub record AreInChunks (order : Inside) : Type 0 where
  pub fit : IsFit order.chunks.items
  pub spare : IsSpare (length order.chunks.items) (vec_capacity order.chunks) order.spare
