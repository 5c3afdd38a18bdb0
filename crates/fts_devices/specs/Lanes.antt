-- Doors that were just made.
use Rattle.std.specs.Prelude.{◌≡◌, ℕ, List, Option, None}
use Rattle.std.specs.Option.{option_copied}
use Rattle.fts_devices.specs.declared.socket_doors.SocketDoors.{SocketDoors}
use Rattle.fts_devices.specs.Limits.{IsOfService}

-- they have this socket where one is named, no listener and no connection, no line of theirs is out, none of their calls has failed, and their lines
-- have a service's limits
pub record IsClosed {R F D : Type 0} (socket : Option (List ℕ)) (doors : SocketDoors R F D) : Type 0 where
  pub path : option_copied doors.path ≡ socket
  pub listener : doors.listener ≡ None
  pub relief : doors.relief ≡ None
  pub out : doors.out ≡ 0
  pub faults : doors.faults ≡ 0
  pub limits : IsOfService doors.limits
