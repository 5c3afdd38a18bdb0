-- What code has at hand of a route, a path and a query.
use Rattle.std.specs.Prelude.{ℕ, List, Option, Some, None}
use Rattle.matchit.specs.Params.{walk}
use Rattle.matchit.specs.declared.params.Params.{Params}
use Rattle.fts_routes.specs.Queries.{job_states, between_commas}
use Rattle.fts_routes.specs.Routes.{Route, Jobs, Job, Files, File, Links, Endpoints, Shares, Bans, JournalEntry}
use Rattle.fts_routes.specs.declared.paths.Route.{Route as Found}
use Rattle.fts_routes.specs.declared.paths.Route.TheVariants.{Jobs as FoundJobs, Job as FoundJob, Files as FoundFiles, File as FoundFile, Links as FoundLinks, Endpoints as FoundEndpoints, Shares as FoundShares, Bans as FoundBans, JournalEntry as FoundEntry}

-- the route that was found
abbrev pub route_data : Found → Route
route_data FoundJobs = Jobs
route_data (FoundJob id) = Job id.now
route_data (FoundFiles id) = Files id.now
route_data (FoundFile id file) = File id.now file.now
route_data FoundLinks = Links
route_data FoundEndpoints = Endpoints
route_data FoundShares = Shares
route_data FoundBans = Bans
route_data (FoundEntry number) = JournalEntry number.now

-- each name of a match with the text that it took
abbrev pub told : Params → List (List ℕ × List ℕ)
told taken = walk taken.pattern.now taken.text.now taken.path.now taken.names.now 0 0

-- the states that count, where a query's text asks for some
abbrev pub states_asked : Option (List ℕ) → List (List ℕ)
states_asked None = job_states
states_asked (Some text) = between_commas text
