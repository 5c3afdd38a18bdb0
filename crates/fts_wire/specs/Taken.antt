-- What reading did: to all that was to come, and to the bytes that were taken of it.
use Rattle.std.specs.Prelude.{◌≡◌, ℕ, ◌+◌, ◌<◌, ◌≤◌, Bool, true, false, List, [], ◌∷◌, ◌++◌, length, Option, Some, None, Result, Ok, Err, option_map, IfSome}
use Rattle.std.specs.List.{concat}
use Rattle.fts_tables.specs.Counts.{Rose}
use Rattle.fts_wire.specs.Outside.{IsTakenOf, raised}
use Rattle.fts_wire.specs.Look.{sight_of, Short, Refused, StandsAt}
use Rattle.fts_wire.specs.RoomData.{RoomData}
use Rattle.fts_wire.specs.Requests.{next_of, IsShort, Closed, EndsInside, Refuses, Asks}
use Rattle.fts_wire.specs.declared.buffer.TheConstants.{PIECE_BYTES}
use Rattle.fts_wire.specs.declared.look.Head.{Head}
use Rattle.fts_wire.specs.declared.request.Step.{Step}
use Rattle.fts_wire.specs.declared.request.Step.TheVariants.{Whole, Refused as StepRefused, More}
use Rattle.fts_wire.specs.declared.fault.WireFault.{WireFault}
use Rattle.fts_wire.specs.declared.fault.WireFault.TheVariants.{EndsInside as EndsInsideFault, SourceFailed}

-- all that is to come: what is kept, and then what the source has left, where it tells that
abbrev pub pending : List ℕ → Option (List ℕ) → Option (List ℕ)
pending kept left = option_map (λ rest. kept ++ rest) left

-- What a call found next, where all that was to come is told: what is to come after it, and the fault or whether a request is loaded.
-- A read that failed took no request: all that was to come still is, and what was taken of it is less than a request.
abbrev pub IsNext : Option (List ℕ) → Option (List ℕ) → RoomData → Result Bool WireFault → Type 0
IsNext None after room result = after ≡ None
IsNext (Some bytes) None room result = ⊥
IsNext (Some bytes) (Some rest) room (Ok true) = next_of bytes ≡ Asks room.request rest
IsNext (Some bytes) (Some rest) room (Ok false) = (next_of bytes ≡ Closed) × (rest ≡ [])
IsNext (Some bytes) (Some rest) room (Err EndsInsideFault) = next_of bytes ≡ EndsInside
IsNext (Some bytes) (Some rest) room (Err SourceFailed) = (rest ≡ bytes) × IsShort room.kept
IsNext (Some bytes) (Some rest) room (Err fault) = next_of bytes ≡ Refuses fault

-- A piece was read behind these bytes, which are less than a request: so nothing is read past the piece in which a request ends.
pub record IsRead (bytes piece : List ℕ) : Type 0 where
  pub short : IsShort bytes
  pub some : 0 < length piece
  pub small : length piece ≤ PIECE_BYTES

-- these pieces were read, one after another
abbrev pub AreRead : List ℕ → List (List ℕ) → Type 0
AreRead bytes [] = Unit {0}
AreRead bytes (piece ∷ pieces) = IsRead bytes piece × AreRead (bytes ++ piece) pieces

-- What was taken stands behind the bytes that were kept: pieces of what the source had left, each of one read. So many reads more gave none.
pub record Takes (kept : List ℕ) (before : Option (List ℕ)) (bytes : List ℕ) (after : Option (List ℕ)) (old new more : ℕ) : Type 0 where
  pub pieces : List (List ℕ)
  pub each : AreRead kept pieces
  pub from_source : IsTakenOf before after (concat pieces)
  pub onto_kept : bytes ≡ kept ++ concat pieces
  pub counted : new ≡ raised old (length pieces + more)

-- nothing is left, where it is told
abbrev pub IsUsedUp : Option (List ℕ) → Type 0
IsUsedUp left = IfSome left (λ rest. rest ≡ [])

-- What a call found in the bytes at hand, behind which the source has this left: it is known by them alone.
-- A request is taken away from them, and so are CR and LF at the end of the input; otherwise all of them are kept.
abbrev pub StandsIn : List ℕ → Option (List ℕ) → RoomData → Result Bool WireFault → Type 0
StandsIn bytes left room (Ok true) = next_of bytes ≡ Asks room.request room.kept
StandsIn bytes left room (Ok false) = (next_of bytes ≡ Closed) × (IsUsedUp left × (room.kept ≡ []))
StandsIn bytes left room (Err EndsInsideFault) = (next_of bytes ≡ EndsInside) × (IsUsedUp left × (room.kept ≡ bytes))
StandsIn bytes left room (Err SourceFailed) = IsShort bytes × (room.kept ≡ bytes)
StandsIn bytes left room (Err fault) = (next_of bytes ≡ Refuses fault) × (room.kept ≡ bytes)

-- how many reads of a call gave no byte: the one that found the end or failed, which is the last
abbrev pub reads_without : Result Bool WireFault → ℕ
reads_without (Ok true) = 0
reads_without (Ok false) = 1
reads_without (Err EndsInsideFault) = 1
reads_without (Err SourceFailed) = 1
reads_without (Err fault) = 0

-- what a call took, by how many reads, and what it found in that
pub record IsTaken (kept : List ℕ) (before after : Option (List ℕ)) (old new : ℕ) (room : RoomData) (result : Result Bool WireFault) : Type 0 where
  pub bytes : List ℕ
  pub takes : Takes kept before bytes after old new (reads_without result)
  pub stands : StandsIn bytes after room result

-- how looking at the bytes at hand ended
abbrev pub LooksLike : List ℕ → Option (List ℕ) → ℕ → ℕ → Result (Option Head) WireFault → Type 0
LooksLike bytes left old new (Ok (Some head)) = StandsAt bytes head × (head.before + head.size + head.body ≤ length bytes)
LooksLike bytes left old new (Ok None) = (next_of bytes ≡ Closed) × IsUsedUp left
LooksLike bytes left old new (Err EndsInsideFault) = (next_of bytes ≡ EndsInside) × IsUsedUp left
LooksLike bytes left old new (Err SourceFailed) = IsShort bytes × Rose old new
LooksLike bytes left old new (Err fault) = next_of bytes ≡ Refuses fault

-- what is known of bytes that are less than a request: their head, where it is there
abbrev pub IsKnown : List ℕ → Option Head → Type 0
IsKnown bytes None = sight_of bytes ≡ Short
IsKnown bytes (Some head) = StandsAt bytes head × (length bytes < head.before + head.size + head.body)

-- how far bytes have come
abbrev pub IsStep : List ℕ → Step → Type 0
IsStep bytes (Whole head) = StandsAt bytes head × (head.before + head.size + head.body ≤ length bytes)
IsStep bytes (StepRefused fault) = sight_of bytes ≡ Refused fault
IsStep bytes (More found) = IsKnown bytes found

-- what the end of looking is to a call: a request, the end, or a fault
abbrev pub loads : Result (Option Head) WireFault → Result Bool WireFault
loads (Ok (Some head)) = Ok true
loads (Ok None) = Ok false
loads (Err fault) = Err fault
