-- The world in which many threads run: what contracts see of each thing that the service is handed, by its type.
use Rattle.std.specs.Prelude.{Bool}
use Rattle.fts_tables.specs.declared.clock.Clock as clock
use Rattle.fts_tables.specs.declared.words.Words as words
use Rattle.fts_disk.specs.declared.disk.Disk as disk
use Rattle.fts_store.specs.declared.store.Store as store
use Rattle.fts_wire.specs.declared.outside.Source as source
use Rattle.fts_wire.specs.declared.outside.Sink as sink
use Rattle.fts_service.specs.Lanes.{Sides, sides_of}
use Rattle.fts_service.specs.declared.doors.Doors as doors

-- what is seen of disks, stores, doors, the two sides of a line, clocks and words, and whether the gate before copies may be closed
pub record World (D A E C W L : Type 0) : Type 1 where
  pub disks : disk.Ghosts D
  pub stores : store.Ghosts E
  pub doors : doors.Ghosts A L
  pub sides : Sides L
  pub clocks : clock.Ghosts C
  pub words : words.Ghosts W
  pub closes : Bool

-- the same, by its parts
abbrev pub world_of : {D A E C W L : Type 0} → disk.Ghosts D → store.Ghosts E → doors.Ghosts A L → source.Ghosts L → sink.Ghosts L → clock.Ghosts C → words.Ghosts W → Bool
    → World D A E C W L
world_of disks stores all_doors input output clocks draws closes =
    record { disks = disks; stores = stores; doors = all_doors; sides = sides_of input output; clocks = clocks; words = draws; closes = closes }
