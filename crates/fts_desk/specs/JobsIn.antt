-- The jobs of tables that are in a state.
use Rattle.std.specs.Prelude.{ℕ, ◌==◌, Bool, List, drop, find, count_by, Option}
use Rattle.fts_tables.specs.Tables.{Tables, rows_of_job}
use Rattle.fts_tables.specs.Moves.{state_of_job}
use Rattle.fts_tables.specs.declared.rows.JobRow.{JobRow}
use Rattle.fts_tables.specs.declared.rows.JobState.{JobState}
use Rattle.fts_desk.specs.JobLists.{rank, is_among}

-- the state of a job by its rows
abbrev pub state_by_rows : Tables → JobRow → JobState
state_by_rows tables job = state_of_job job.kind (rows_of_job tables.rows job.number)

-- the first job behind so many that is in one of the states asked for, which are told by their ranks
abbrev pub next_asked : Tables → List Bool → ℕ → Option JobRow
next_asked tables asked behind = find (λ job. is_among asked (state_by_rows tables job)) (drop behind tables.jobs)

-- how many jobs are in a state
abbrev pub count_in_state : Tables → JobState → ℕ
count_in_state tables state = count_by (λ job. rank (state_by_rows tables job) == rank state) tables.jobs
