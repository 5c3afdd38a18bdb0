-- The order of ids in chunks: the ids of one chunk after the other, with their places, are the order.
use Rattle.std.specs.Prelude.{ℕ, ◌+◌, ◌<◌, ◌≤◌, Bool, IsTrue, List, [], ◌∷◌, ◌++◌, length, take, slice_index_or}
use Rattle.fts_index.specs.IdOrder.{PlacedId, id_in_order, IsGapFor}

-- the chunks, and whether there is memory for one id more
pub record PlaceLists : Type 0 where
  pub chunks : List (List PlacedId)
  pub ready : Bool

-- a chunk by its number, and none behind the last
abbrev pub chunk_at : List (List PlacedId) → ℕ → List PlacedId
chunk_at chunks at = slice_index_or chunks at []

-- the order: what stands in one chunk after the other
abbrev pub order_of : List (List PlacedId) → List PlacedId
order_of [] = []
order_of (chunk ∷ chunks) = chunk ++ order_of chunks

-- how far in the order a chunk begins
abbrev pub places_before : List (List PlacedId) → ℕ → ℕ
places_before chunks at = length (order_of (take at chunks))

-- the id that a chunk begins at
abbrev pub first_id : List PlacedId → ℕ
first_id chunk = id_in_order chunk 0

-- the id would stand so far in the chunk, which is there where one id more has its memory
pub record IsGapIn (lists : PlaceLists) (id chunk at : ℕ) : Type 0 where
  pub there : IsTrue lists.ready → chunk < length lists.chunks
  pub inside : at ≤ length (chunk_at lists.chunks chunk)
  pub gap : IsGapFor (order_of lists.chunks) id (places_before lists.chunks chunk + at)
