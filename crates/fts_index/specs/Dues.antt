-- What a `Dues` is to its callers, and what it keeps.
use Rattle.std.specs.Prelude.{◌<◌, ◌≤◌, ◌^◌, length}
use Rattle.fts_tables.specs.Dues.{AreInOrder}
use Rattle.fts_index.specs.DueLists.{DueList}
use Rattle.fts_index.specs.declared.dues.Dues.TheInside.{Inside}

-- the moments in order, how many files may have one, and the room
abbrev pub due_list : Inside → DueList
due_list dues = record { dues = dues.dues.keys; files = dues.files; room = dues.dues.room }

-- the moments are in order; no more files have one than may, and there is room for those, in numbers of this machine
pub record AreDues (dues : Inside) : Type 0 where
  pub order : AreInOrder dues.dues.keys
  pub few : length dues.dues.keys ≤ dues.files
  pub inside : dues.files ≤ dues.dues.room
  pub small : dues.dues.room < 2 ^ 64
