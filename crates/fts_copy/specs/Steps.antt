-- What each step of a copy finds and does.
use Rattle.std.specs.Prelude.{◌≡◌, ℕ, ◌+◌, ◌≤◌, true, false, Some, None, IsSome, Result, Ok, Err, OnOk, IfOk, List, [], ◌++◌, length, take, drop}
use Rattle.md5.specs.Md5.{md5, Holds}
use Rattle.md5.specs.declared.Md5.{Md5}
use Rattle.fts_tables.specs.declared.rows.Outcome.{Outcome}
use Rattle.fts_tables.specs.declared.rows.Outcome.TheVariants.{Verified, SourceMissing, DestinationExists, SourceSize, SourceDigest, ReadBackDiffers, StoreFailed, Stopped}
use Rattle.fts_store.specs.Store.{StoreState, IsTold, IsFaithful, bytes_of, Same, SameBut, SameButTwo, with_move}
use Rattle.fts_copy.specs.Differences.{first_difference}
use Rattle.fts_copy.specs.Copy.{Order, part_of, is_other_size, is_other_digest, is_in_the_way}

-- the content of the source
abbrev pub source_bytes : Order → StoreState → List ℕ
source_bytes order store = bytes_of (store.files order.source)

-- the content of the part
abbrev pub part_bytes : Order → StoreState → List ℕ
part_bytes order store = bytes_of (store.files (part_of order))

-- a store tells its files, and the source has this size
pub record KnowsSource (order : Order) (store : StoreState) (size : ℕ) : Type 0 where
  pub told : IsTold store
  pub whole : length (source_bytes order store) ≡ size

-- so many bytes from an offset on, or as many as there are
abbrev pub piece_at : List ℕ → ℕ → ℕ → List ℕ
piece_at bytes offset wanted = take wanted (drop offset bytes)

-- so many bytes at the front of a buffer are those of a file from an offset on
pub record IsFilled (bytes : List ℕ) (offset : ℕ) (buffer : List ℕ) (filled : ℕ) : Type 0 where
  pub given : take filled buffer ≡ take filled (drop offset bytes)
  pub within : filled ≤ length (drop offset bytes)

-- a read behind what stands in a buffer put so many bytes there, and none only at the file's end
pub record ReadsMore (bytes : List ℕ) (offset : ℕ) (old new : List ℕ) (from count : ℕ) : Type 0 where
  pub given : take (from + count) new ≡ take from old ++ take count (drop offset bytes)
  pub within : count ≤ length (drop offset bytes)
  pub none : count ≡ 0 → drop offset bytes ≡ []

-- the checks before anything is made
abbrev pub IsLook : Order → StoreState → Result ℕ Outcome → Type 0
IsLook order store (Ok size) = IsTold store
    → (length (source_bytes order store) ≡ size) × IsSome (store.files order.source)
    × (is_in_the_way order store.files ≡ false) × (is_other_size order.size size ≡ false)
IsLook order store (Err SourceMissing) = IsTold store → store.files order.source ≡ None
IsLook order store (Err DestinationExists) = IsTold store → IsSome (store.files order.source) × (is_in_the_way order store.files ≡ true)
IsLook order store (Err (SourceSize seen)) = IsTold store
    → (length (source_bytes order store) ≡ seen) × IsSome (store.files order.source)
    × (is_in_the_way order store.files ≡ false) × (is_other_size order.size seen ≡ true)
IsLook order store (Err StoreFailed) = Unit {0}
IsLook order store (Err Stopped) = ⊥
IsLook order store (Err (SourceDigest seen)) = ⊥
IsLook order store (Err (ReadBackDiffers at)) = ⊥
IsLook order store (Err (Verified size digest)) = ⊥

-- a step ends by a failed call or a no, and otherwise is done
abbrev pub IsBroken : {T : Type 0} → Result T Outcome → Type 0
IsBroken (Ok value) = Unit {0}
IsBroken (Err StoreFailed) = Unit {0}
IsBroken (Err Stopped) = Unit {0}
IsBroken (Err SourceMissing) = ⊥
IsBroken (Err DestinationExists) = ⊥
IsBroken (Err (SourceSize seen)) = ⊥
IsBroken (Err (SourceDigest seen)) = ⊥
IsBroken (Err (ReadBackDiffers at)) = ⊥
IsBroken (Err (Verified size digest)) = ⊥

-- a piece of the source was put behind the part, and into the digest
pub record PutsPiece (order : Order) (old new : StoreState) (before after : Md5) (offset wanted : ℕ) (result : Result ℕ Outcome) : Type 0 where
  pub others : SameBut (part_of order) old.files new.files
  pub there : OnOk result (IsSome (new.files (part_of order)))
  pub appended : IsFaithful old → OnOk result (part_bytes order new ≡ part_bytes order old ++ piece_at (source_bytes order old) offset wanted)
  pub hashed : OnOk result ((message : List ℕ) → Holds before message → Holds after (message ++ piece_at (source_bytes order old) offset wanted))
  pub count : IfOk result (λ count. count ≡ length (piece_at (source_bytes order old) offset wanted))

-- so many bytes of the source were put behind the part, and into the digest
pub record PutSoFar (order : Order) (old new : StoreState) (hasher : Md5) (done : ℕ) : Type 0 where
  pub there : IsSome (old.files (part_of order)) → IsSome (new.files (part_of order))
  pub appended : IsFaithful old → part_bytes order new ≡ part_bytes order old ++ take done (source_bytes order old)
  pub hashed : Holds hasher (take done (source_bytes order old))

-- all pieces were put behind a part that is there
abbrev pub PutsPieces : Order → StoreState → StoreState → ℕ → Result (List ℕ) Outcome → Type 0
PutsPieces order old new size (Ok digest) = KnowsSource order old size → (digest ≡ md5 (source_bytes order old))
    × (IsSome (old.files (part_of order)) → IsSome (new.files (part_of order)))
    × (IsFaithful old → part_bytes order new ≡ part_bytes order old ++ source_bytes order old)
PutsPieces order old new size (Err (SourceSize seen)) = KnowsSource order old size → ⊥
PutsPieces order old new size (Err StoreFailed) = Unit {0}
PutsPieces order old new size (Err Stopped) = Unit {0}
PutsPieces order old new size (Err SourceMissing) = ⊥
PutsPieces order old new size (Err DestinationExists) = ⊥
PutsPieces order old new size (Err (SourceDigest seen)) = ⊥
PutsPieces order old new size (Err (ReadBackDiffers at)) = ⊥
PutsPieces order old new size (Err (Verified n digest)) = ⊥

-- the part was made from nothing, and the source's digest is the one that is wanted
abbrev pub IsWritten : Order → StoreState → StoreState → ℕ → Result (List ℕ) Outcome → Type 0
IsWritten order old new size (Ok digest) = KnowsSource order old size → (digest ≡ md5 (source_bytes order old)) × (is_other_digest order.wanted digest ≡ false)
    × IsSome (new.files (part_of order)) × (IsFaithful old → part_bytes order new ≡ source_bytes order old)
IsWritten order old new size (Err (SourceDigest seen)) = KnowsSource order old size
    → (seen ≡ md5 (source_bytes order old)) × (is_other_digest order.wanted seen ≡ true)
IsWritten order old new size (Err (SourceSize seen)) = KnowsSource order old size → ⊥
IsWritten order old new size (Err StoreFailed) = Unit {0}
IsWritten order old new size (Err Stopped) = Unit {0}
IsWritten order old new size (Err SourceMissing) = ⊥
IsWritten order old new size (Err DestinationExists) = ⊥
IsWritten order old new size (Err (ReadBackDiffers at)) = ⊥
IsWritten order old new size (Err (Verified n digest)) = ⊥

-- a piece of the part is that of the source, and was put into the digest; or they differ at a place
abbrev pub MatchesPiece : Order → StoreState → Md5 → Md5 → ℕ → ℕ → Result ℕ Outcome → Type 0
MatchesPiece order store before after offset wanted (Ok done) = IsTold store
    → (piece_at (part_bytes order store) offset wanted ≡ piece_at (source_bytes order store) offset wanted)
    × ((message : List ℕ) → Holds before message → Holds after (message ++ piece_at (part_bytes order store) offset wanted))
MatchesPiece order store before after offset wanted (Err (ReadBackDiffers at)) = IsTold store
    → (n : ℕ) × (first_difference (piece_at (source_bytes order store) offset wanted) (piece_at (part_bytes order store) offset wanted) ≡ Some n)
    × (at ≡ offset + n)
MatchesPiece order store before after offset wanted (Err StoreFailed) = Unit {0}
MatchesPiece order store before after offset wanted (Err Stopped) = Unit {0}
MatchesPiece order store before after offset wanted (Err SourceMissing) = ⊥
MatchesPiece order store before after offset wanted (Err DestinationExists) = ⊥
MatchesPiece order store before after offset wanted (Err (SourceSize seen)) = ⊥
MatchesPiece order store before after offset wanted (Err (SourceDigest seen)) = ⊥
MatchesPiece order store before after offset wanted (Err (Verified n digest)) = ⊥

-- so many bytes of the part are those of the source, and were put into the digest
pub record MatchedSoFar (order : Order) (store : StoreState) (hasher : Md5) (done : ℕ) : Type 0 where
  pub same : take done (part_bytes order store) ≡ take done (source_bytes order store)
  pub hashed : Holds hasher (take done (source_bytes order store))

-- all pieces of the part are those of the source, and this is their digest; or they differ at a place
abbrev pub MatchesPieces : Order → StoreState → ℕ → Result (List ℕ) Outcome → Type 0
MatchesPieces order store size (Ok digest) = KnowsSource order store size
    → (take size (part_bytes order store) ≡ source_bytes order store) × (digest ≡ md5 (source_bytes order store))
MatchesPieces order store size (Err (ReadBackDiffers at)) = KnowsSource order store size
    → first_difference (source_bytes order store) (part_bytes order store) ≡ Some at
MatchesPieces order store size (Err StoreFailed) = Unit {0}
MatchesPieces order store size (Err Stopped) = Unit {0}
MatchesPieces order store size (Err SourceMissing) = ⊥
MatchesPieces order store size (Err DestinationExists) = ⊥
MatchesPieces order store size (Err (SourceSize seen)) = ⊥
MatchesPieces order store size (Err (SourceDigest seen)) = ⊥
MatchesPieces order store size (Err (Verified n digest)) = ⊥

-- the part holds what the source holds, and this is its digest; or they differ at a place
abbrev pub IsReadBack : Order → StoreState → ℕ → Result (List ℕ) Outcome → Type 0
IsReadBack order store size (Ok digest) = KnowsSource order store size
    → (part_bytes order store ≡ source_bytes order store) × (digest ≡ md5 (source_bytes order store))
IsReadBack order store size (Err (ReadBackDiffers at)) = KnowsSource order store size
    → first_difference (source_bytes order store) (part_bytes order store) ≡ Some at
IsReadBack order store size (Err StoreFailed) = Unit {0}
IsReadBack order store size (Err Stopped) = Unit {0}
IsReadBack order store size (Err SourceMissing) = ⊥
IsReadBack order store size (Err DestinationExists) = ⊥
IsReadBack order store size (Err (SourceSize seen)) = ⊥
IsReadBack order store size (Err (SourceDigest seen)) = ⊥
IsReadBack order store size (Err (Verified n digest)) = ⊥

-- the part became the destination
abbrev pub IsPutInPlace : Order → StoreState → StoreState → Result (Unit {0}) Outcome → Type 0
IsPutInPlace order old new (Ok done) = IsTold old → Same new.files (with_move old.files (part_of order) order.dest)
IsPutInPlace order old new (Err Stopped) = IsTold old → Same new.files old.files
IsPutInPlace order old new (Err StoreFailed) = IsTold old → SameButTwo (part_of order) order.dest old.files new.files
IsPutInPlace order old new (Err SourceMissing) = ⊥
IsPutInPlace order old new (Err DestinationExists) = ⊥
IsPutInPlace order old new (Err (SourceSize seen)) = ⊥
IsPutInPlace order old new (Err (SourceDigest seen)) = ⊥
IsPutInPlace order old new (Err (ReadBackDiffers at)) = ⊥
IsPutInPlace order old new (Err (Verified n digest)) = ⊥
