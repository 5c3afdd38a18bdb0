-- What `next_request` gives, by what the room is once the request is let go.
use Rattle.std.specs.Prelude.{◌≡◌, ℕ, List, Bool, true, false, Option, Some, None, Result, Ok, Err}
use Rattle.std.specs.Option.{option_copied}
use Rattle.fts_wire.specs.RequestData.{RequestData}
use Rattle.fts_wire.specs.RoomData.{RoomData}
use Rattle.fts_wire.specs.Taken.{pending, IsNext, IsTaken}
use Rattle.fts_wire.specs.declared.fault.WireFault.{WireFault}
use Rattle.fts_wire.specs.declared.request.Request.{Request}

-- what a request lends
abbrev pub request_data : Request → RequestData
request_data r = record { method = r.method.now; path = r.path.now; query = option_copied r.query; body = r.body.now; close = r.close }

-- the loaded request where a load found one, and otherwise what it said
abbrev pub IsFound : RoomData → Result Bool WireFault → Result (Option Request) WireFault → Type 0
IsFound room (Ok true) (Ok (Some request)) = request_data request ≡ room.request
IsFound room (Ok false) (Ok None) = Unit {0}
IsFound room (Err fault) (Err e) = e ≡ fault
IsFound room (Ok true) (Ok None) = ⊥
IsFound room (Ok false) (Ok (Some request)) = ⊥
IsFound room (Err fault) (Ok found) = ⊥
IsFound room (Ok loaded) (Err e) = ⊥

-- what a load found: of all that was to come, and of what was taken of it
pub record IsLoaded (kept : List ℕ) (before after : Option (List ℕ)) (old new : ℕ) (room : RoomData) (result : Result Bool WireFault) : Type 0 where
  pub next : IsNext (pending kept before) (pending room.kept after) room result
  pub taken : IsTaken kept before after old new room result

-- the same of a request that is lent
abbrev pub IsNextRequest : List ℕ → Option (List ℕ) → Option (List ℕ) → ℕ → ℕ → RoomData → Result (Option Request) WireFault → Type 0
IsNextRequest kept before after old new room (Ok (Some request)) =
    IsLoaded kept before after old new room (Ok true) × (request_data request ≡ room.request)
IsNextRequest kept before after old new room (Ok None) = IsLoaded kept before after old new room (Ok false)
IsNextRequest kept before after old new room (Err fault) = IsLoaded kept before after old new room (Err fault)
