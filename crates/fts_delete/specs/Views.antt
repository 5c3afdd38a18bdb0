-- How deletions are seen: by their rows, and by the events that their journal's bodies spell, where its disk tells its contents.
use Rattle.std.specs.Prelude.{◌≡◌, ℕ, ◌+◌, ◌*◌, ◌≤◌, ◌<◌, Bool, if◌then◌else◌, List, [], filter_map, length, Option, Some, None, option_map, option_and_then, is_some, Result, Ok, Err, All}
use Rattle.fts_tables.specs.declared.limits.TheConstants.{JOURNAL_END}
use Rattle.fts_disk.specs.Disk.{DiskState, IsTold}
use Rattle.fts_journal.specs.Journal.{JournalData, IsSound}
use Rattle.fts_delete.specs.declared.events.Event.{Event}
use Rattle.fts_delete.specs.declared.rows.DeleteRow.{DeleteRow}
use Rattle.fts_delete.specs.Rows.{AreRowsOf}
use Rattle.fts_delete.specs.Spelling.{IsProper, body_of, bodies_of, event_in}
use Rattle.fts_delete.specs.Journals.{DeletesData, used_of, with_doubt, IsLegal}

-- the event that a body spells, if there is one
abbrev pub ok_of : Result Event ℕ → Option Event
ok_of (Ok event) = Some event
ok_of (Err place) = None

-- the event of a body, and none where it is no event
unfoldable pub read_of : List ℕ → Option Event
read_of body = ok_of (event_in body)

-- the events that bodies spell
abbrev pub events_in : List (List ℕ) → List Event
events_in bodies = filter_map read_of bodies

-- what is seen of a list, where it is told
abbrev pub list_if : {A : Type 0} → Bool → List A → List A
list_if told items = if told then items else []

-- what is seen of an option, where it is told
abbrev pub option_if : {A : Type 0} → Bool → Option A → Option A
option_if told item = if told then item else None

-- what contracts see of rows over a journal
abbrev pub deletes_of : {D : Type 0} → (D → DiskState) → List DeleteRow → JournalData D → DeletesData D
deletes_of state rows journal = record {
  events = list_if (state journal.disk).told (events_in journal.bodies);
  doubt = option_if (state journal.disk).told (option_and_then read_of journal.doubt);
  rows = rows;
  count = journal.count;
  used = journal.used;
  in_doubt = journal.in_doubt;
  disk = journal.disk;
}

-- The rows are those of this list, which fills what is used, and the event in doubt is this one or none. Where the disk tells its contents, its
-- bodies spell them.
pub record IsHeld {D : Type 0} (state : D → DiskState) (rows : List DeleteRow) (journal : JournalData D) (events : List Event) (doubt : Option Event)
    : Type 0 where
  pub folded : AreRowsOf rows events
  pub legal : IsLegal (with_doubt events doubt)
  pub proper : All IsProper (with_doubt events doubt)
  pub counted : journal.count ≡ length events
  pub low : 8 + 6 * journal.count ≤ journal.used
  pub high : journal.used < JOURNAL_END
  pub fills : journal.used ≡ used_of events
  pub sure : journal.in_doubt ≡ is_some doubt
  pub bodies : IsTold (state journal.disk) → journal.bodies ≡ bodies_of events
  pub doubts : IsTold (state journal.disk) → journal.doubt ≡ option_map body_of doubt
  pub images : IsSound (state journal.disk) journal.bodies journal.doubt

-- what the fields keep: such a list, and such a doubt
pub record IsTied {D : Type 0} (state : D → DiskState) (rows : List DeleteRow) (journal : JournalData D) : Type 0 where
  pub events : List Event
  pub doubt : Option Event
  pub held : IsHeld state rows journal events doubt
