-- When a line may give way to a connection that waits.
use Rattle.std.specs.Prelude.{◌≡◌, Option, Some, None}
use Rattle.fts_devices.specs.declared.relief.Relief.{Relief}
use Rattle.fts_wire.specs.Requests.{next_of, Closed}

-- An end of the input would be clean: of what came, nothing but CR and LF is left behind the last whole request. A line without relief gives no way.
abbrev pub MayEnd : Option Relief → Type 0
MayEnd None = ⊥
MayEnd (Some relief) = next_of relief.room.kept ≡ Closed
