-- What contracts see of a source and a sink in memory, and what one call makes of it.
use Rattle.std.specs.Prelude.{◌⊎◌, ℕ, ◌+◌, ◌<◌, ◌==◌, Bool, IsTrue, List, ◌++◌, length, drop, Result, Ok, Err, vec_capacity}
use Rattle.std.specs.List.{list_any}
use Rattle.fts_wire.specs.Outside.{raised}
use Rattle.fts_wire.specs.declared.memory.MemorySource.TheInside.{Inside as SourceInside}
use Rattle.fts_wire.specs.declared.memory.MemorySink.TheInside.{Inside as SinkInside}

-- a source: the bytes left, the numbers of the reads that fail, and how often it was read and has failed
pub record SourceData : Type 0 where
  pub left : List ℕ
  pub fail : List ℕ
  pub reads : ℕ
  pub faults : ℕ

-- a sink: the bytes held, for how many it has room without more memory, the numbers of the writes that fail, and how often it was written and has failed
pub record SinkData : Type 0 where
  pub held : List ℕ
  pub room : ℕ
  pub fail : List ℕ
  pub writes : ℕ
  pub faults : ℕ

abbrev pub source_data : SourceInside → SourceData
source_data s = record { left = drop s.at s.bytes.items; fail = s.fail.items; reads = s.reads; faults = s.faults }

abbrev pub sink_data : SinkInside → SinkData
sink_data s = record { held = s.bytes.items; room = vec_capacity s.bytes; fail = s.fail.items; writes = s.writes; faults = s.faults }

-- the call of this number is one of those that fail
abbrev pub is_listed : List ℕ → ℕ → Bool
is_listed fail number = list_any (λ listed. listed == number) fail

-- a source after a read with this result: it has lost the bytes taken, or met one fault more
abbrev pub source_after : {E : Type 0} → SourceData → Result ℕ E → SourceData
source_after s (Ok n) = record s { left = drop n s.left; reads = raised s.reads 1 }
source_after s (Err e) = record s { reads = raised s.reads 1; faults = raised s.faults 1 }

-- a sink after a write of these bytes with this result, and with this room: it holds all of them, or met one fault more
abbrev pub sink_after : {E : Type 0} → SinkData → List ℕ → ℕ → Result ℕ E → SinkData
sink_after s bytes room (Ok n) = record s { held = s.held ++ bytes; room = room; writes = raised s.writes 1 }
sink_after s bytes room (Err e) = record s { room = room; writes = raised s.writes 1; faults = raised s.faults 1 }

-- why a write of these bytes fails: its number is listed, or more memory is wanted
abbrev pub MayFail : SinkData → List ℕ → ℕ → Type 0
MayFail s bytes number = IsTrue (is_listed s.fail number) ⊎ (s.room < length s.held + length bytes)
