-- What a copy of a file is: its outcome, and what each outcome leaves of the files. The digest is MD5 (RFC 1321).
use Rattle.std.specs.Prelude.{◌≡◌, ◌⊎◌, ℕ, ◌==◌, ◌&&◌, not, Bool, false, if◌then◌else◌, Option, Some, None, is_some, Result, Ok, Err, List, length, bytes_eq, IsTrue}
use Rattle.std.specs.List.{list_all}
use Rattle.md5.specs.Md5.{md5}
use Rattle.fts_tables.specs.declared.places.Place.{Place}
use Rattle.fts_tables.specs.declared.rows.FileRow.{FileRow}
use Rattle.fts_tables.specs.declared.rows.Outcome.{Outcome}
use Rattle.fts_tables.specs.declared.rows.Outcome.TheVariants.{Verified, SourceMissing, DestinationExists, SourceSize, SourceDigest, ReadBackDiffers, StoreFailed, Stopped}
use Rattle.fts_tables.specs.Names.{is_segment, segments, IsPathKey}
use Rattle.fts_tables.specs.Places.{is_same_place, part_path}
use Rattle.fts_store.specs.Store.{StoreState, IsFaithful, bytes_of, with_file, Same, SameBut, SameButTwo}
use Rattle.fts_copy.specs.Differences.{first_difference}

-- the outcome of a row of steps: that of the last, or of the one that ended it
abbrev pub ended : Result Outcome Outcome → Outcome
ended (Ok outcome) = outcome
ended (Err outcome) = outcome

-- what is to be copied
pub record Order : Type 0 where
  pub source : Place
  pub dest : Place
  -- the number of the file, after which its part is named
  pub file : ℕ
  -- the size that is wanted; 0 asks for any
  pub size : ℕ
  -- the digest that is wanted, where one is
  pub wanted : Option (List ℕ)
  -- what is at the destination may be replaced
  pub overwrite : Bool

-- what a file's row asks for
abbrev pub order_of : FileRow → Bool → Order
order_of row overwrite = record { source = row.source; dest = row.dest; file = row.id; size = row.size; wanted = row.wanted; overwrite = overwrite }

-- where the file lies while it is written: the part on the destination's endpoint
abbrev pub part_of : Order → Place
part_of order = record { endpoint = order.dest.endpoint; path = part_path order.file }

-- no segment of a path is empty, "." or ".."
abbrev pub HasSegments : List ℕ → Type 0
HasSegments path = IsTrue (list_all is_segment (segments path))

-- none is in any path of an order, the part's too
pub record StaysInside (order : Order) : Type 0 where
  pub source : HasSegments order.source.path
  pub dest : HasSegments order.dest.path
  pub part : HasSegments (part_of order).path

-- both paths are those of files, so neither is the part's
pub record IsOrder (order : Order) : Type 0 where
  pub source : IsPathKey order.source.path
  pub dest : IsPathKey order.dest.path

-- the part is neither the source nor the destination
pub record IsApart (order : Order) : Type 0 where
  pub source : is_same_place order.source (part_of order) ≡ false
  pub dest : is_same_place order.dest (part_of order) ≡ false

-- another size is wanted
abbrev pub is_other_size : ℕ → ℕ → Bool
is_other_size wanted size = not (wanted == 0) && not (wanted == size)

-- another digest is wanted
abbrev pub is_other_digest : Option (List ℕ) → List ℕ → Bool
is_other_digest (Some wanted) digest = not (bytes_eq wanted digest)
is_other_digest None digest = false

-- what is at the destination may not be replaced
abbrev pub is_in_the_way : Order → (Place → Option (List ℕ)) → Bool
is_in_the_way order files = not order.overwrite && is_some (files order.dest)

-- what reading back finds: the first place at which the part differs, or none
abbrev pub read_back_of : List ℕ → Option ℕ → Outcome
read_back_of source (Some at) = ReadBackDiffers at
read_back_of source None = Verified (length source) (md5 source)

-- the outcome of a copy of this content by way of this part
abbrev pub transferred_of : Order → List ℕ → List ℕ → Outcome
transferred_of order source part =
    if is_other_size order.size (length source) then SourceSize (length source)
    else if is_other_digest order.wanted (md5 source) then SourceDigest (md5 source)
    else read_back_of source (first_difference source part)

-- the outcome of a copy of what is at the source
abbrev pub copied_from : Order → (Place → Option (List ℕ)) → Option (List ℕ) → List ℕ → Outcome
copied_from order files (Some source) part = if is_in_the_way order files then DestinationExists else transferred_of order source part
copied_from order files None part = SourceMissing

-- the outcome of a copy where no call fails and no watch says no, by the content of the part after the last append
abbrev pub copied_of : Order → (Place → Option (List ℕ)) → List ℕ → Outcome
copied_of order files part = copied_from order files (files order.source) part

-- the outcome of a copy through a part that holds what the source does
abbrev pub faithful_of : Order → (Place → Option (List ℕ)) → Outcome
faithful_of order files = copied_of order files (bytes_of (files order.source))

-- the files after a verified copy: the destination holds what the source held, and the part is gone
abbrev pub verified_files : Order → (Place → Option (List ℕ)) → Place → Option (List ℕ)
verified_files order files = with_file (with_file files (part_of order) None) order.dest (files order.source)

-- an outcome is that of a copy
abbrev pub IsVerified : Outcome → Type 0
IsVerified (Verified size digest) = Unit {0}
IsVerified SourceMissing = ⊥
IsVerified DestinationExists = ⊥
IsVerified (SourceSize seen) = ⊥
IsVerified (SourceDigest seen) = ⊥
IsVerified (ReadBackDiffers at) = ⊥
IsVerified StoreFailed = ⊥
IsVerified Stopped = ⊥

-- how a copy from old files to new ones ends, and what each end leaves
abbrev pub CopyEnds : Order → (Place → Option (List ℕ)) → (Place → Option (List ℕ)) → Outcome → Type 0
-- all as the copy is defined, and the part held what the source holds
CopyEnds order old new (Verified size digest) = (Verified size digest ≡ faithful_of order old) × Same new (verified_files order old)
-- before the part is made nothing has changed
CopyEnds order old new SourceMissing = ((part : List ℕ) → SourceMissing ≡ copied_of order old part) × Same new old
CopyEnds order old new DestinationExists = ((part : List ℕ) → DestinationExists ≡ copied_of order old part) × Same new old
CopyEnds order old new (SourceSize seen) = ((part : List ℕ) → SourceSize seen ≡ copied_of order old part) × Same new old
-- from then on the part may have
CopyEnds order old new (SourceDigest seen) = ((part : List ℕ) → SourceDigest seen ≡ copied_of order old part) × SameBut (part_of order) old new
CopyEnds order old new (ReadBackDiffers at) = (ReadBackDiffers at ≡ copied_of order old (bytes_of (new (part_of order)))) × SameBut (part_of order) old new
CopyEnds order old new Stopped = SameBut (part_of order) old new
-- only a rename that failed may have changed the destination, and it was owed
CopyEnds order old new StoreFailed = SameBut (part_of order) old new ⊎ (IsVerified (faithful_of order old) × SameButTwo (part_of order) order.dest old new)

-- the destination is as it was, but after a verified copy and a rename that failed
abbrev pub KeepsDest : Order → (Place → Option (List ℕ)) → (Place → Option (List ℕ)) → Outcome → Type 0
KeepsDest order old new (Verified size digest) = Unit {0}
KeepsDest order old new SourceMissing = new order.dest ≡ old order.dest
KeepsDest order old new DestinationExists = new order.dest ≡ old order.dest
KeepsDest order old new (SourceSize seen) = new order.dest ≡ old order.dest
KeepsDest order old new (SourceDigest seen) = new order.dest ≡ old order.dest
KeepsDest order old new (ReadBackDiffers at) = new order.dest ≡ old order.dest
KeepsDest order old new Stopped = new order.dest ≡ old order.dest
KeepsDest order old new StoreFailed = (new order.dest ≡ old order.dest) ⊎ IsVerified (faithful_of order old)

-- what a copy is over a store that tells its files
pub record IsCopy (order : Order) (old new : StoreState) (outcome : Outcome) : Type 0 where
  pub ends : CopyEnds order old.files new.files outcome
  -- over a faithful store the part holds what the source does
  pub faithful : IsFaithful old → (at : ℕ) → outcome ≡ ReadBackDiffers at → ⊥
