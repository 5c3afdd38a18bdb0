-- What contracts see of doors in memory, and what one call makes of them.
use Rattle.std.specs.Prelude.{ℕ, List, Some, Result, Ok, Err}
use Rattle.fts_wire.specs.Outside.{raised}
use Rattle.fts_wire.specs.declared.memory.MemoryLine.{MemoryLine}
use Rattle.fts_service.specs.Doors.{DoorsData}
use Rattle.fts_service.specs.declared.memory_doors.MemoryDoors.TheInside.{Inside}

-- the lines, the numbers of the calls that fail, and how many of the calls that may fail were made and have failed
pub record MemoryDoorsData : Type 0 where
  pub doors : DoorsData MemoryLine
  pub fail : List ℕ
  pub calls : ℕ
  pub faults : ℕ

abbrev pub memory_doors_data : Inside → MemoryDoorsData
memory_doors_data d = record {
  doors = record { coming = Some d.coming.items; back = Some d.back.items; out = d.out };
  fail = d.fail.items;
  calls = d.calls;
  faults = d.faults;
}

-- doors after a call that may fail, with this result and these lines: one call more, and one fault more where it failed
abbrev pub doors_after : {T E : Type 0} → MemoryDoorsData → DoorsData MemoryLine → Result T E → MemoryDoorsData
doors_after old lines (Ok done) = record old { doors = lines; calls = raised old.calls 1 }
doors_after old lines (Err fault) = record old { doors = lines; calls = raised old.calls 1; faults = raised old.faults 1 }
