-- What ties the files in line to the destinations of all rows: the numbers of these, the flags of those that are busy, and the rooms.
use Rattle.std.specs.Prelude.{◌≡◌, ℕ, ◌-◌, ◌<◌, ◌≤◌, false, true, List, length, map, slice_index_or, Some, is_some, unwrap_or}
use Rattle.fts_tables.specs.declared.places.Place.{Place}
use Rattle.fts_tables.specs.declared.rows.FileRow.{FileRow}
use Rattle.fts_heads.specs.Dests.{number_of, AreNumbersOf}
use Rattle.fts_line.specs.LineData.{LineData, dest_of}
use Rattle.fts_claims.specs.BusyData.{BusyData, is_busy}
use Rattle.fts_claims.specs.declared.parts.ClaimParts.{ClaimParts}

-- the numbers of places: each is that of the first that is the same
abbrev pub numbers_of : List Place → List ℕ
numbers_of places = map (λ place. unwrap_or (number_of places place) 0) places

-- each file has the number of its destination; a destination is flagged exactly where it is among the busy ones; there is a place in line for each file;
-- and each busy destination is that of a file
pub record IsInLine (places : List Place) (line : LineData) (busy : BusyData) : Type 0 where
  pub numbers : line.dests ≡ numbers_of places
  pub count : length line.busy ≡ length places
  pub flags : (place : Place) (number : ℕ) → number_of places place ≡ Some number → slice_index_or line.busy number false ≡ is_busy busy.places place
  pub room : length places ≤ line.room
  pub known : (place : Place) → is_busy busy.places place ≡ true → is_some (number_of places place) ≡ true

-- and these numbers are found
pub record AreInLine (places : List Place) (parts : ClaimParts) : Type 0 where
  pub line : IsInLine places parts.line parts.busy
  pub found : AreNumbersOf places parts.dests

-- the file of a row has a number, from 1 on, which is that of a destination
pub record HasNumber (row : FileRow) (line : LineData) : Type 0 where
  pub first : 0 < row.id
  pub numbered : row.id - 1 < length line.dests
  pub dest : dest_of line.dests row.id < length line.busy

-- there is room in line for so many files in all
pub record HasRoomInLine (count : ℕ) (parts : ClaimParts) : Type 0 where
  pub places : count ≤ parts.line.room
  pub rows : count ≤ parts.line.row_room
  pub numbers : count ≤ parts.dests.room

-- rooms may have risen in line, and all else there is as it was but the files that wait
pub record HasLineRisen (old new : ClaimParts) : Type 0 where
  pub dests : new.line.dests ≡ old.line.dests
  pub flags : new.line.busy ≡ old.line.busy
  pub places : old.line.room ≤ new.line.room
  pub rows : old.line.row_room ≤ new.line.row_room
  pub keys : new.dests.keys ≡ old.dests.keys
  pub numbers : old.dests.room ≤ new.dests.room
