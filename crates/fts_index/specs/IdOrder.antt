-- Ids with their places, in order of the ids: what a search by halves goes over.
use Rattle.std.specs.Prelude.{◌≡◌, ◌≢◌, ℕ, ◌+◌, ◌<◌, ◌≤◌, List, length, slice_index_or, Some, None}
use Rattle.fts_index.specs.Numbers.{number_in}

-- an id, and its place among the ids, counted from 0
pub record PlacedId : Type 0 where
  pub id : ℕ
  pub place : ℕ

-- what is read behind the end of an order
abbrev pub no_id : PlacedId
no_id = record { id = 0; place = 0 }

-- the id that stands so far in the order
abbrev pub id_in_order : List PlacedId → ℕ → ℕ
id_in_order order at = (slice_index_or order at no_id).id

-- the place of the id that stands so far in the order
abbrev pub place_in_order : List PlacedId → ℕ → ℕ
place_in_order order at = (slice_index_or order at no_id).place

-- the ids rise along the order
abbrev pub AreRising : List PlacedId → Type 0
AreRising order = (at later : ℕ) → at < later → later < length order → id_in_order order at < id_in_order order later

-- the order has each different id once, with its least place, in rising order of the ids
pub record IsOrderOf (ids : List ℕ) (order : List PlacedId) : Type 0 where
  -- the ids rise along the order
  pub rising : AreRising order
  -- each place is the least of its id: that of the number that the id has
  pub least : (at : ℕ) → at < length order → number_in ids (id_in_order order at) ≡ Some (place_in_order order at + 1)
  -- an id that stands nowhere in the order has no number
  pub whole : (id : ℕ) → ((at : ℕ) → at < length order → id_in_order order at ≢ id) → number_in ids id ≡ None

-- the id stands so far in the order
pub record IsInOrderAt (order : List PlacedId) (id at : ℕ) : Type 0 where
  pub inside : at < length order
  pub has : id_in_order order at ≡ id

-- the id stands in the order, with the place
pub record IsPlaceOf (order : List PlacedId) (id place : ℕ) : Type 0 where
  pub at : ℕ
  pub there : IsInOrderAt order id at
  pub is : place_in_order order at ≡ place

-- the id would stand so far in the order: lesser ids before it, and greater ones from there on
pub record IsGapFor (order : List PlacedId) (id at : ℕ) : Type 0 where
  pub inside : at ≤ length order
  pub before : (some : ℕ) → some < at → id_in_order order some < id
  pub behind : (some : ℕ) → at ≤ some → some < length order → id < id_in_order order some
