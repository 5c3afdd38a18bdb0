-- A pass: one visit for each row that waits, in order of id, and the event that it gives. A pass that stopped has fewer visits.
use Rattle.std.specs.Prelude.{ℕ, Bool, true, false, if◌then◌else◌, List, [], ◌∷◌, filter}
use Rattle.fts_delete.specs.declared.rows.DeleteRow.{DeleteRow}
use Rattle.fts_delete.specs.declared.visits.Visit.{Visit}
use Rattle.fts_delete.specs.declared.events.Event.{Event}
use Rattle.fts_delete.specs.declared.events.Event.TheVariants.{Ask, Gone, Missed}
use Rattle.fts_delete.specs.Rows.{is_waiting, gone_row, missed_row}
use Rattle.fts_delete.specs.Visits.{saw_none, event_of}

-- the rows that wait, in order of id
abbrev pub waiting_of : List DeleteRow → List DeleteRow
waiting_of rows = filter (λ row. is_waiting row.state) rows

-- a row behind its visit
abbrev pub row_after : DeleteRow → Visit → DeleteRow
row_after row visit = if saw_none visit then gone_row row else missed_row row

-- a row that waits takes the next visit; any other takes none
abbrev pub event_next : Bool → DeleteRow → List Visit → (List Visit → List Event) → List Event
event_next true row [] later = []
event_next true row (visit ∷ visits) later = event_of row.id visit ∷ later visits
event_next false row visits later = later visits

-- the events of a pass over these rows
abbrev pub events_of : List DeleteRow → List Visit → List Event
events_of [] visits = []
events_of (row ∷ rows) visits = event_next (is_waiting row.state) row visits (events_of rows)

-- a row behind the pass, and the later rows
abbrev pub rows_next : Bool → DeleteRow → List Visit → (List Visit → List DeleteRow) → List DeleteRow
rows_next true row [] later = row ∷ later []
rows_next true row (visit ∷ visits) later = row_after row visit ∷ later visits
rows_next false row visits later = row ∷ later visits

-- the rows behind the pass
abbrev pub rows_passed : List DeleteRow → List Visit → List DeleteRow
rows_passed [] visits = []
rows_passed (row ∷ rows) visits = rows_next (is_waiting row.state) row visits (rows_passed rows)

-- the number that an event names
abbrev pub named_by : Event → List ℕ
named_by (Ask places) = []
named_by (Gone id) = id ∷ []
named_by (Missed id) = id ∷ []
