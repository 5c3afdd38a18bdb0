-- Deletions: what was asked for and what came of it is a list of events, and the rows are its fold.
use Rattle.std.specs.Prelude.{◌≡◌, ℕ, ◌+◌, ◌==◌, ◌&&◌, Bool, true, false, nat_le, nat_lt, if◌then◌else◌, Option, Some, None, List, [], ◌∷◌, ◌++◌, length, map}
use Rattle.std.specs.List.{list_any}
use Rattle.fts_tables.specs.declared.places.Place.{Place}
use Rattle.fts_delete.specs.declared.events.Event.{Event}
use Rattle.fts_delete.specs.declared.events.Event.TheVariants.{Ask, Gone, Missed}
use Rattle.fts_delete.specs.declared.rows.DeleteRow.{DeleteRow}
use Rattle.fts_delete.specs.declared.rows.DeleteState.{DeleteState}
use Rattle.fts_delete.specs.declared.rows.DeleteState.TheVariants.{Waiting, Finished, Failed}

-- at most this many rows, and at most this many places in one asking
abbrev pub most_rows : ℕ
most_rows = 100000

abbrev pub most_asked : ℕ
most_asked = 200

-- a place that is asked for: it waits, and was never missed
abbrev pub asked_row : ℕ → Place → DeleteRow
asked_row id place = record { id = id; place = place; state = Waiting; missed = 0 }

-- the rows of an asking, from this id on
abbrev pub asked_rows : ℕ → List Place → List DeleteRow
asked_rows id [] = []
asked_rows id (place ∷ places) = asked_row id place ∷ asked_rows (id + 1) places

-- whether a state is Waiting
abbrev pub is_waiting : DeleteState → Bool
is_waiting Waiting = true
is_waiting Finished = false
is_waiting Failed = false

-- the row of an id, and whether it waits
abbrev pub waits_as : ℕ → DeleteRow → Bool
waits_as id row = (row.id == id) && is_waiting row.state

-- a row whose file is gone
abbrev pub gone_row : DeleteRow → DeleteRow
gone_row row = record row { state = Finished }

-- a row that was missed: the third time it fails
abbrev pub missed_row : DeleteRow → DeleteRow
missed_row row = record row { state = if nat_lt row.missed 2 then Waiting else Failed; missed = row.missed + 1 }

-- the rows with the one of this id changed, where it waits
abbrev pub with_row : ℕ → (DeleteRow → DeleteRow) → List DeleteRow → List DeleteRow
with_row id change rows = map (λ row. if waits_as id row then change row else row) rows

-- the rows so; none where no row of this id waits
abbrev pub changed : ℕ → (DeleteRow → DeleteRow) → List DeleteRow → Option (List DeleteRow)
changed id change rows = if list_any (waits_as id) rows then Some (with_row id change rows) else None

-- what an event makes of the rows; none where it is illegal
abbrev pub rows_after : List DeleteRow → Event → Option (List DeleteRow)
rows_after rows (Ask places) = if nat_le (length rows + length places) most_rows then Some (rows ++ asked_rows (length rows + 1) places) else None
rows_after rows (Gone id) = changed id gone_row rows
rows_after rows (Missed id) = changed id missed_row rows

-- what events make of rows, one behind the other; none where one is illegal
abbrev pub rows_from : Option (List DeleteRow) → List Event → Option (List DeleteRow)
rows_from rows [] = rows
rows_from None (event ∷ events) = None
rows_from (Some rows) (event ∷ events) = rows_from (rows_after rows event) events

-- the rows of a list of events; none where it is illegal
abbrev pub rows_of_events : List Event → Option (List DeleteRow)
rows_of_events events = rows_from (Some []) events

-- the list is legal, and these are its rows
abbrev pub AreRowsOf : List DeleteRow → List Event → Type 0
AreRowsOf rows events = rows_of_events events ≡ Some rows
