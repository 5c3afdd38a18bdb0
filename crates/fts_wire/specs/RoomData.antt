-- What contracts see of a room.
use Rattle.std.specs.Prelude.{ℕ, List}
use Rattle.fts_wire.specs.RequestData.{RequestData}

-- the request that was loaded last, and the bytes that were read past it
pub record RoomData : Type 0 where
  pub request : RequestData
  pub kept : List ℕ
