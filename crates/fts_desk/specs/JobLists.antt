-- How jobs stand, in order of number, and the places of those that are in a state.
use Rattle.std.specs.Prelude.{◌≡◌, ◌<◌, ◌≤◌, ℕ, suc, min, max, Bool, false, ◌==◌, if◌then◌else◌, List, [], ◌∷◌, slice_index_or, Option, Some, None}
use Rattle.fts_tables.specs.declared.rows.JobState.{JobState}
use Rattle.fts_tables.specs.declared.rows.JobState.TheVariants.{Submitted, Active, Finished, FinishedDirty, Failed, Canceled}
use Rattle.ordered.specs.Orders.{KeySet}
use Rattle.fts_desk.specs.declared.job_states.Progress.{Progress}

-- how each job stands, and how many jobs there is room for
pub record JobList : Type 0 where
  pub jobs : List Progress
  pub room : ℕ

-- the place of a state among all states
abbrev pub rank : JobState → ℕ
rank Submitted = 0
rank Active = 1
rank Finished = 2
rank FinishedDirty = 3
rank Failed = 4
rank Canceled = 5

-- whether a state is among those asked for, which are told by their ranks
abbrev pub is_among : List Bool → JobState → Bool
is_among asked state = slice_index_or asked (rank state) false

-- whether a job's state has a rank
abbrev pub is_at : ℕ → Progress → Bool
is_at at job = rank job.state == at

-- the places of the jobs whose state has a rank, where the first job has that place
abbrev pub places_of : ℕ → ℕ → List Progress → List ℕ
places_of at place [] = []
places_of at place (job ∷ jobs) = if is_at at job then place ∷ places_of at (suc place) jobs else places_of at (suc place) jobs

-- no place, and no room
abbrev pub no_places : KeySet ℕ
no_places = record { keys = []; room = 0 }

-- the places at a rank
abbrev pub places_at : List (KeySet ℕ) → ℕ → KeySet ℕ
places_at sets at = slice_index_or sets at no_places

-- the lesser of two places, of those that are there
abbrev pub least_of : Option ℕ → Option ℕ → Option ℕ
least_of None other = other
least_of (Some one) None = Some one
least_of (Some one) (Some other) = Some (min one other)

-- other places in the same room
abbrev pub with_keys : List ℕ → KeySet ℕ → KeySet ℕ
with_keys keys set = record set { keys = keys }

-- the same places in room for so many, or in the greater room that there was
abbrev pub with_room : ℕ → KeySet ℕ → KeySet ℕ
with_room room set = record set { room = max set.room room }

-- at each rank are the places of the jobs in that state
abbrev pub ArePlacesOf : List Progress → List (KeySet ℕ) → Type 0
ArePlacesOf jobs sets = (at : ℕ) → at < 6 → (places_at sets at).keys ≡ places_of at 0 jobs

-- at each rank there is room for so many
abbrev pub HaveRooms : ℕ → List (KeySet ℕ) → Type 0
HaveRooms room sets = (at : ℕ) → at < 6 → room ≤ (places_at sets at).room
