-- How a keep is seen: by its desk, its journal, and the list of entries that proofs alone carry.
use Rattle.std.specs.Prelude.{◌≡◌, Bool, if◌then◌else◌, List, map, Option, None, option_map, option_and_then, IsSome}
use Rattle.fts_tables.specs.declared.commands.Entry.{Entry}
use Rattle.fts_record.specs.Spelling.{spelled}
use Rattle.fts_record.specs.Reading.{read_of}
use Rattle.fts_desk.specs.DeskData.{DeskData}
use Rattle.fts_disk.specs.Disk.{DiskState, IsTold}
use Rattle.fts_journal.specs.Journal.{JournalData}
use Rattle.fts_keep.specs.Keeps.{KeepData, IsFold, bodies_of}

-- what contracts see of the list that proofs alone carry
pub record ListData : Type 0 where
  pub entries : List Entry

-- the entries, which stand in pairs with nothing
abbrev pub list_of : List (Entry × Unit {0}) → ListData
list_of pairs = record { entries = map (λ pair. pair.0) pairs }

-- what is seen of an option, where it is told
abbrev pub option_if : {A : Type 0} → Bool → Option A → Option A
option_if told item = if told then item else None

-- what contracts see of a desk over a journal, with the list of its entries
abbrev pub keep_of : {D : Type 0} → (D → DiskState) → DeskData → JournalData D → List Entry → KeepData D
keep_of state desk journal list = record {
  entries = list;
  doubt = option_if (state journal.disk).told (option_and_then read_of journal.doubt);
  tables = desk.tables;
  commands = desk.commands;
  used = journal.used;
  in_doubt = journal.in_doubt;
  disk = journal.disk;
}

-- the desk's tables are the fold of the list, and the journal's bodies, with the one in doubt, are the spellings of its entries
pub record IsTied {D : Type 0} (state : D → DiskState) (desk : DeskData) (journal : JournalData D) (list : List Entry) : Type 0 where
  pub fold : IsFold state (keep_of state desk journal list)
  pub counted : desk.commands ≡ journal.count
  pub bodies : IsTold (state journal.disk) → journal.bodies ≡ bodies_of list
  pub doubt : IsTold (state journal.disk) → journal.doubt ≡ option_map spelled (option_and_then read_of journal.doubt)

-- what a keep's fields keep: settings in force besides
pub record IsKept {D : Type 0} (state : D → DiskState) (desk : DeskData) (journal : JournalData D) (list : List Entry) : Type 0 where
  pub settings : IsSome desk.tables.settings
  pub tied : IsTied state desk journal list
