-- What a query asks of a topic. Of pairs with one name the first counts, other names are passed over, and a value that is absent or empty asks for nothing in
-- particular.
use Rattle.std.specs.Prelude.{ℕ, ◌==◌, Bool, true, false, if◌then◌else◌, nat_lt, List, [], ◌∷◌, length, Option, Some, None, option_map, option_and_then, unwrap_or, bytes_eq, codes}
use Rattle.std.specs.List.{position_or_len, before_first, after_first}
use Rattle.fts_tables.specs.SettingsData.{is_within}
use Rattle.fts_tables.specs.Tables.{Tables}
use Rattle.fts_tables.specs.declared.rows.JobState.{JobState}
use Rattle.fts_tables.specs.declared.rows.JobState.TheVariants.{FinishedDirty, Submitted, Active, Finished, Failed, Canceled}
use Rattle.fts_routes.specs.Queries.{value_of, number_in}
use Rattle.fts_routes.specs.Routes.{job_named}
use Rattle.fts_board.specs.History.{HistoryQuestion}
use Rattle.fts_board.specs.declared.histories.StepLength.{StepLength}
use Rattle.fts_board.specs.declared.histories.StepLength.TheVariants.{Minute, TenMinutes, Hour}
use Rattle.fts_pages.specs.Groups.{is_group}
use Rattle.fts_pages.specs.Pages.{JobsQuestion}

-- a value that isn't empty
abbrev pub filled : Option (List ℕ) → Option (List ℕ)
filled None = None
filled (Some []) = None
filled (Some (byte ∷ bytes)) = Some (byte ∷ bytes)

-- what is given under a name
abbrev pub given : List ℕ → Option (List ℕ) → Option (List ℕ)
given name query = filled (value_of name (unwrap_or query []))

-- the step of so many seconds
abbrev pub step_by : ℕ → Option StepLength
step_by seconds = if seconds == 60 then Some Minute else if seconds == 600 then Some TenMinutes else if seconds == 3600 then Some Hour else None

-- the step that is asked for: a minute where none is named
abbrev pub step_in : Option (List ℕ) → Option StepLength
step_in None = Some Minute
step_in (Some text) = option_and_then step_by (number_in 4 text)

-- a number from 1 to a greatest one, in at most three decimal digits; a usual one where none is named
abbrev pub count_in : ℕ → ℕ → Option (List ℕ) → Option ℕ
count_in usual most None = Some usual
count_in usual most (Some text) = option_and_then (λ number. if is_within 1 most number then Some number else None) (number_in 3 text)

-- a history of a step and a count, of the source and the destination that are named
abbrev pub history_of : Option (List ℕ) → StepLength → ℕ → HistoryQuestion
history_of query step count =
    record { source = given (codes "source") query; destination = given (codes "destination") query; step = step; count = count }

-- the history that a query asks for: steps of 60, 600 or 3,600 seconds, and 1 to 240 of them, 60 where no number is named
abbrev pub history_asked : Option (List ℕ) → Option HistoryQuestion
history_asked query = option_and_then (λ step. option_map (history_of query step) (count_in 60 240 (given (codes "count") query))) (step_in (given (codes "step") query))

-- the state of a job that a word names
abbrev pub state_named : List ℕ → Option JobState
state_named word =
    if bytes_eq word (codes "SUBMITTED") then Some Submitted
    else if bytes_eq word (codes "ACTIVE") then Some Active
    else if bytes_eq word (codes "FINISHED") then Some Finished
    else if bytes_eq word (codes "FINISHEDDIRTY") then Some FinishedDirty
    else if bytes_eq word (codes "FAILED") then Some Failed
    else if bytes_eq word (codes "CANCELED") then Some Canceled
    else None

-- what is read of a value that may be absent: none in particular, or what the text is, which has to be something
abbrev pub optional : {A : Type 0} → (List ℕ → Option A) → Option (List ℕ) → Option (Option A)
optional read None = Some None
optional read (Some text) = option_map Some (read text)

-- the number of the job that an id names
abbrev pub number_named : Tables → List ℕ → Option ℕ
number_named tables id = option_map (λ job. job.number) (job_named tables id)

-- whether the newest come first: true or false, false where nothing is said
abbrev pub newest_in : Option (List ℕ) → Option Bool
newest_in None = Some false
newest_in (Some text) = if bytes_eq text (codes "true") then Some true else if bytes_eq text (codes "false") then Some false else None

-- the group of reasons that a word names
abbrev pub group_named : List ℕ → Option (List ℕ)
group_named word = if is_group word then Some word else None

-- jobs of a state and with a reason, behind a job, in an order, at most so many, of the source and the destination that are named
abbrev pub jobs_of : Option (List ℕ) → Option JobState → Option (List ℕ) → Option ℕ → Bool → ℕ → JobsQuestion
jobs_of query state reason after newest limit = record {
  state = state;
  source = given (codes "source") query;
  destination = given (codes "destination") query;
  reason = reason;
  after = after;
  newest = newest;
  limit = limit;
}

-- the jobs that a query asks for: of one state, of a group of reasons, behind the job of an id, and 1 to 200 of them, 25 where no number is named
abbrev pub jobs_asked : Tables → Option (List ℕ) → Option JobsQuestion
jobs_asked tables query =
    option_and_then (λ state. option_and_then (λ reason. option_and_then (λ after. option_and_then (λ newest. option_map (jobs_of query state reason after newest)
    (count_in 25 200 (given (codes "limit") query))) (newest_in (given (codes "newest") query)))
    (optional (number_named tables) (given (codes "after") query))) (optional group_named (given (codes "reason") query)))
    (optional state_named (given (codes "state") query))

-- whether a byte is a slash
abbrev pub is_slash : ℕ → Bool
is_slash byte = byte == 47

-- what stands before and behind the first slash of a text, where there is one
abbrev pub split_at_slash : List ℕ → Option (List ℕ × List ℕ)
split_at_slash text =
    if nat_lt (position_or_len is_slash text) (length text) then Some (before_first is_slash text, after_first is_slash text) else None

-- the id behind `jobs/`
abbrev pub id_behind : List ℕ × List ℕ → Option (List ℕ)
id_behind parts = if bytes_eq parts.0 (codes "jobs") then Some parts.1 else None

-- what stands behind a slash at the beginning
abbrev pub behind_slash : List ℕ × List ℕ → Option (List ℕ)
behind_slash parts = if bytes_eq parts.0 [] then Some parts.1 else None

-- the id in a path `/jobs/ID`
abbrev pub id_in : List ℕ → Option (List ℕ)
id_in path = option_and_then id_behind (option_and_then split_at_slash (option_and_then behind_slash (split_at_slash path)))
