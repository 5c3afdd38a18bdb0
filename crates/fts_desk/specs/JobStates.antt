-- What a `JobStates` is to its callers, and what it keeps.
use Rattle.std.specs.Prelude.{◌<◌, ◌≤◌, ◌^◌, length, vec_capacity}
use Rattle.fts_desk.specs.JobLists.{JobList, ArePlacesOf, HaveRooms}
use Rattle.fts_desk.specs.declared.job_states.JobStates.TheInside.{Inside}

-- how each job stands, and the room
abbrev pub job_list : Inside → JobList
job_list states = record { jobs = states.jobs.items; room = states.room }

-- the places at each rank are those of the jobs in that state; there is memory for each job that there is room for, also where all are in one state
pub record AreJobStates (states : Inside) : Type 0 where
  pub places : ArePlacesOf states.jobs.items states.by_rank
  pub rooms : HaveRooms states.room states.by_rank
  pub few : length states.jobs.items ≤ states.room
  pub memory : states.room ≤ vec_capacity states.jobs
  pub small : states.room < 2 ^ 32
