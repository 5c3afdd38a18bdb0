-- The text of rows, as `delete` writes it: for each row, in order of id, one line with its id, how far it is, and the URL of its file.
use Rattle.std.specs.Prelude.{ℕ, List, ◌++◌, codes, decimal}
use Rattle.std.specs.List.{flat_map}
use Rattle.fts_tables.specs.declared.places.Place.{Place}
use Rattle.fts_delete.specs.declared.rows.DeleteRow.{DeleteRow}
use Rattle.fts_delete.specs.declared.rows.DeleteState.{DeleteState}
use Rattle.fts_delete.specs.declared.rows.DeleteState.TheVariants.{Waiting, Finished, Failed}

-- how far a row is
abbrev pub state_text : DeleteState → List ℕ
state_text Waiting = codes "WAITING"
state_text Finished = codes "FINISHED"
state_text Failed = codes "FAILED"

-- the URL of a place: the endpoint's name, a slash and the path
abbrev pub place_text : Place → List ℕ
place_text place = place.endpoint ++ (codes "/" ++ place.path)

-- the beginning of a row's line, up to its URL
abbrev pub row_start : ℕ → DeleteState → List ℕ
row_start id state = codes "delete " ++ (decimal id ++ (codes " " ++ (state_text state ++ codes " ")))

-- the line of a row
abbrev pub row_line : DeleteRow → List ℕ
row_line row = row_start row.id row.state ++ (place_text row.place ++ codes "\n")

-- the lines of rows
abbrev pub rows_text : List DeleteRow → List ℕ
rows_text rows = flat_map row_line rows
