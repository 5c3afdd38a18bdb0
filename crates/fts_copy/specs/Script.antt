-- The copy as a script: which call it makes of a store, when it asks its watch, and how it ends, by the answer to each. The digest is MD5 (RFC 1321).
use Rattle.std.specs.Prelude.{◌≡◌, ◌⊎◌, ℕ, zero, suc, ◌+◌, ◌-◌, min, Bool, true, false, ◌||◌, nat_lt, is_some, if◌then◌else◌, bytes_eq, Option, Some, None, Result, Ok, Err, List, [], ◌∷◌, ◌++◌, length}
use Rattle.md5.specs.Md5.{md5}
use Rattle.fts_tables.specs.declared.places.Place.{Place}
use Rattle.fts_tables.specs.declared.rows.Outcome.{Outcome}
use Rattle.fts_tables.specs.declared.rows.Outcome.TheVariants.{Verified, SourceMissing, DestinationExists, SourceSize, SourceDigest, ReadBackDiffers, StoreFailed, Stopped}
use Rattle.fts_store.specs.Calls.{Call, Sized, Read, Created, Appended, Renamed, with_call}
use Rattle.fts_copy.specs.Copy.{Order, part_of, is_other_size, is_other_digest}
use Rattle.fts_copy.specs.Differences.{first_difference}
use Rattle.fts_copy.specs.Watch.{pieces, with_answer}
use Rattle.fts_copy.specs.declared.pieces.TheConstants.{PIECE_BYTES}

-- what is still to be done: the copy has ended, or asks the watch, or makes a call of the store, and goes on by what that answers
pub data Script : Type 0 where
  Ends : Outcome → Script
  Asks : Script → Script
  Sizes : Place → (Option ℕ → Script) → Script
  -- from which byte on, and how many at most
  Reads : Place → ℕ → ℕ → (List ℕ → Script) → Script
  Creates : Place → Script → Script
  Appends : Place → List ℕ → Script → Script
  Renames : Place → Place → Script → Script

-- a read that gave nothing was at the end of its file
abbrev pub unless_none : List ℕ → Script → Script → Script
unless_none [] ended more = ended
unless_none (byte ∷ bytes) ended more = more

-- reads up to so many bytes of a file behind those that it has got: again and again, at most so many times, until a read gives nothing
unfoldable pub reads_on : Place → ℕ → ℕ → (List ℕ → Script) → ℕ → List ℕ → Script
reads_on at offset wanted next zero got = next got
reads_on at offset wanted next (suc times) got =
    if nat_lt (length got) wanted
    then Reads at (offset + length got) (wanted - length got) (λ bytes. unless_none bytes (next got) (reads_on at offset wanted next times (got ++ bytes)))
    else next got

-- reads so many bytes of a file from an offset on, or as many as there are; no read that goes on gives nothing, so as many reads are enough
unfoldable pub reads_piece : Place → ℕ → ℕ → (List ℕ → Script) → Script
reads_piece at offset wanted next = reads_on at offset wanted next wanted []

-- asks for the byte behind the end of a file
unfoldable pub reads_behind : Place → ℕ → (Bool → Script) → Script
reads_behind at size next = reads_piece at size 1 (λ bytes. unless_none bytes (next false) (next true))

-- 7. the part becomes the destination
unfoldable pub puts_in_place : Order → ℕ → List ℕ → Script
puts_in_place order size digest = Asks (Renames (part_of order) order.dest (Ends (Verified size digest)))

-- 6. at last: what was read back has the digest of what was read first
unfoldable pub agrees : Order → ℕ → List ℕ → List ℕ → Script
agrees order size digest again = if bytes_eq digest again then puts_in_place order size digest else Ends (ReadBackDiffers size)

-- 6. then: neither the source nor the part has a byte behind the end
unfoldable pub ends_there : Order → ℕ → (List ℕ → Script) → List ℕ → Script
ends_there order size next again =
    reads_behind order.source size (λ source. reads_behind (part_of order) size (λ part. if source || part then Ends (ReadBackDiffers size) else next again))

-- a piece that differs ends the copy
unfoldable pub unless_differs : ℕ → Option ℕ → Script → Script
unless_differs offset (Some at) same = Ends (ReadBackDiffers (offset + at))
unless_differs offset None same = same

-- 6. a piece of the source and of the part
unfoldable pub matches_piece : Order → ℕ → ℕ → (List ℕ → Script) → Script
matches_piece order offset wanted next =
    Asks (reads_piece order.source offset wanted (λ held.
    reads_piece (part_of order) offset wanted (λ kept. unless_differs offset (first_difference held kept) (next kept))))

-- 6. piece by piece, so many more of them; what was read back so far
unfoldable pub matches : Order → ℕ → (List ℕ → Script) → ℕ → ℕ → List ℕ → Script
matches order size next zero offset read = next (md5 read)
matches order size next (suc more) offset read =
    matches_piece order offset (min PIECE_BYTES (size - offset)) (λ kept. matches order size next more (offset + PIECE_BYTES) (read ++ kept))

-- 6. reads the part and the source again, up to the source's size
unfoldable pub reads_back : Order → ℕ → (List ℕ → Script) → Script
reads_back order size next = matches order size (ends_there order size next) (pieces size) 0 []

-- 5. the digest is the one that is wanted
unfoldable pub digests : Order → (List ℕ → Script) → List ℕ → Script
digests order next digest = if is_other_digest order.wanted digest then Ends (SourceDigest digest) else next digest

-- 4. a piece of the source, behind the part
unfoldable pub writes_piece : Order → ℕ → ℕ → (List ℕ → Script) → Script
writes_piece order offset wanted next = Asks (reads_piece order.source offset wanted (λ piece. Appends (part_of order) piece (next piece)))

-- 4. a source that ends inside a piece ends the copy
unfoldable pub unless_short : ℕ → ℕ → List ℕ → Script → Script
unless_short offset wanted piece whole = if nat_lt (length piece) wanted then Ends (SourceSize (offset + length piece)) else whole

-- 4. piece by piece, so many more of them; what was written so far
unfoldable pub writes : Order → ℕ → (List ℕ → Script) → ℕ → ℕ → List ℕ → Script
writes order size next zero offset written = next (md5 written)
writes order size next (suc more) offset written =
    writes_piece order offset (min PIECE_BYTES (size - offset)) (λ piece.
    unless_short offset (min PIECE_BYTES (size - offset)) piece (writes order size next more (offset + PIECE_BYTES) (written ++ piece)))

-- 4. the part is made anew and written
unfoldable pub writes_part : Order → ℕ → (List ℕ → Script) → Script
writes_part order size next = Creates (part_of order) (writes order size (digests order next) (pieces size) 0 [])

-- 4 to 7
unfoldable pub transfers : Order → ℕ → Script
transfers order size = writes_part order size (λ digest. reads_back order size (agrees order size digest))

-- 3. the size is the one that is wanted
unfoldable pub fits : Order → (ℕ → Script) → ℕ → Script
fits order next size = if is_other_size order.size size then Ends (SourceSize size) else next size

-- 2. nothing is at the destination, where it may not be replaced
unfoldable pub is_free : Order → (ℕ → Script) → ℕ → Script
is_free order next size =
    if order.overwrite then fits order next size
    else Sizes order.dest (λ dest. if is_some dest then Ends DestinationExists else fits order next size)

-- 1. the source is there
unfoldable pub looks_at : Order → (ℕ → Script) → Option ℕ → Script
looks_at order next (Some size) = is_free order next size
looks_at order next None = Ends SourceMissing

-- 1 to 3
unfoldable pub looks : Order → (ℕ → Script) → Script
looks order next = Sizes order.source (looks_at order next)

-- a copy
unfoldable pub copy_of : Order → Script
copy_of order = looks order (transfers order)

-- what a store and a watch tell: the calls that were made, and the answers that were given, each where it is told
pub record Log : Type 0 where
  pub calls : Option (List Call)
  pub answers : Option (List Bool)

-- with a call more
abbrev pub called : Log → Call → Log
called log call = record { calls = with_call log.calls call; answers = log.answers }

-- with an answer of the watch more
abbrev pub asked : Log → Bool → Log
asked log answer = record { calls = log.calls; answers = with_answer log.answers answer }

-- the copy ended there
abbrev pub IsEnd : Log → Outcome → Log → Outcome → Type 0
IsEnd log outcome new ended = (new ≡ log) × (ended ≡ outcome)

-- a script leads from one log to another and ends so: each call and each asking stands there in its turn, with the answer by which it goes on;
-- a call that failed ends it, and so does a no
unfoldable pub Plays : Script → Log → Log → Outcome → Type 0
Plays (Ends outcome) old new ended = IsEnd old outcome new ended
Plays (Asks next) old new ended = Plays next (asked old true) new ended ⊎ IsEnd (asked old false) Stopped new ended
Plays (Sizes at next) old new ended =
    ((size : Option ℕ) × Plays (next size) (called old (Sized at (Some size))) new ended) ⊎ IsEnd (called old (Sized at None)) StoreFailed new ended
Plays (Reads at offset wanted next) old new ended =
    ((bytes : List ℕ) × Plays (next bytes) (called old (Read at offset wanted (Some bytes))) new ended)
    ⊎ IsEnd (called old (Read at offset wanted None)) StoreFailed new ended
Plays (Creates at next) old new ended = Plays next (called old (Created at (Some tt))) new ended ⊎ IsEnd (called old (Created at None)) StoreFailed new ended
Plays (Appends at bytes next) old new ended =
    Plays next (called old (Appended at bytes (Some tt))) new ended ⊎ IsEnd (called old (Appended at bytes None)) StoreFailed new ended
Plays (Renames from to next) old new ended =
    Plays next (called old (Renamed from to (Some tt))) new ended ⊎ IsEnd (called old (Renamed from to None)) StoreFailed new ended

-- the log of a store and its watch
abbrev pub log_of : Option (List Call) → Option (List Bool) → Log
log_of calls answers = record { calls = calls; answers = answers }

-- a script went on to another: whatever that leads to, the first leads there
pub record LeadsTo (from : Script) (old : Log) (to : Script) (new : Log) : Type 0 where
  pub onward : (last : Log) (outcome : Outcome) → Plays to new last outcome → Plays from old last outcome

-- what is left of a script where a call of the store gave this
abbrev pub unless_failed : {T E : Type 0} → (T → Script) → Result T E → Script
unless_failed next (Ok value) = next value
unless_failed next (Err error) = Ends StoreFailed

-- what is left of a script where a step gave this
abbrev pub goes_on : {T : Type 0} → (T → Script) → Result T Outcome → Script
goes_on next (Ok value) = next value
goes_on next (Err outcome) = Ends outcome

-- what is left where a watch said this
abbrev pub unless_no : Bool → Script → Script
unless_no true next = next
unless_no false next = Ends Stopped
