-- What contracts see of a booth.
use Rattle.fts_service.specs.Lanes.{BoothData, standing}
use Rattle.fts_service.specs.declared.lane.Booth.{Booth}
use Rattle.fts_tables.specs.declared.clock.Clock as clock
use Rattle.fts_service.specs.declared.doors.Doors as doors

-- where a booth's lane stands, its doors, how often they failed, and how the lane stopped, by what its clock and its doors tell
abbrev pub booth_data : {D A C L : Type 0} → clock.Ghosts C → doors.Ghosts A L → Booth D A C L → BoothData L
booth_data clocks all_doors booth = record {
  standing = standing booth.pass (clocks.moments booth.lane.clock);
  doors = all_doors.doors booth.lane.doors;
  faults = all_doors.faults booth.lane.doors;
  end = booth.end;
}
