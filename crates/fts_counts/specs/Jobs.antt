-- How jobs are counted by their states.
use Rattle.std.specs.Prelude.{ℕ, Bool, false, ◌==◌, count_by, Option}
use Rattle.std.specs.Option.{option_map_or}
use Rattle.fts_tables.specs.Tables.{Tables}
use Rattle.fts_tables.specs.declared.rows.JobState.{JobState}
use Rattle.fts_desk.specs.DeskData.{state_at}
use Rattle.fts_desk.specs.JobLists.{rank}

-- the place of a job's state in their order
abbrev pub place_of : JobState → ℕ
place_of state = rank state

-- whether a job's state, where it has one, is that of this place
abbrev pub stands_in : ℕ → Option JobState → Bool
stands_in place found = option_map_or (λ (state : JobState). place_of state == place) found false

-- how many jobs stand in a state, by their rows
abbrev pub jobs_in : Tables → JobState → ℕ
jobs_in tables state = count_by (λ job. stands_in (place_of state) (state_at tables job.number)) tables.jobs
