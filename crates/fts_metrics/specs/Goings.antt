-- What `fts_files` is counted by: where rows go, by the places of their endpoints among the listed ones, and the states of those of a link.
use Rattle.std.specs.Prelude.{ℕ, ◌==◌, List, map, filter}
use Rattle.fts_tables.specs.Limits.{is_on_link}
use Rattle.fts_tables.specs.declared.rows.FileRow.{FileRow}
use Rattle.fts_tables.specs.declared.rows.FileState.{FileState}
use Rattle.fts_tables.specs.declared.settings.Endpoint.{Endpoint}
use Rattle.fts_counts.specs.Listed.{place_among}
use Rattle.fts_metrics.specs.declared.goings.Going.{Going}

-- where a row goes
abbrev pub going_of : List Endpoint → FileRow → Going
going_of endpoints row = record { source = place_among endpoints row.source.endpoint; dest = place_among endpoints row.dest.endpoint; state = row.state }

-- where those rows go that come from the endpoint of a name
abbrev pub goings_from : List Endpoint → List ℕ → List FileRow → List Going
goings_from endpoints source rows = filter (λ going. going.source == place_among endpoints source) (map (going_of endpoints) rows)

-- the states of what goes to a place
abbrev pub states_to : ℕ → List Going → List FileState
states_to dest goings = map (λ going. going.state) (filter (λ going. going.dest == dest) goings)

-- the states of a link's rows
abbrev pub states_on : List ℕ → List ℕ → List FileRow → List FileState
states_on source dest rows = map (λ row. row.state) (filter (is_on_link source dest) rows)
