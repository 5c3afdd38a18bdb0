-- The rows of the router of `src/paths.rt`, and what a match of a row says. That a path matches the row of its route is proved (`proofs/Tabled.antt`).
use Rattle.std.specs.Prelude.{ℕ, List, [], ◌∷◌, ◌++◌, ◌≡◌, Option, Some, None, Result, Ok, Err, option_map, option_and_then, codes, map}
use Rattle.matchit.specs.Rows.{RowsOf, param_token}
use Rattle.matchit.specs.Order.{placed}
use Rattle.matchit.specs.Route.{Scan}
use Rattle.matchit.specs.Router.{RouteOf, nearest, route_from}
use Rattle.matchit.specs.declared.error.InsertError.{InsertError}
use Rattle.fts_routes.specs.Routes.{Route, Jobs as ToJobs, Job as ToJob, Files as ToFiles, File as ToFile, Links as ToLinks, Endpoints as ToEndpoints, Shares as ToShares, Bans as ToBans, JournalEntry as ToEntry}
use Rattle.fts_routes.specs.declared.paths.Place.{Place}
use Rattle.fts_routes.specs.declared.paths.Place.TheVariants.{Jobs, Job, Files, File, Links, Endpoints, Shares, Bans, JournalEntry}

-- a name in a pattern
abbrev pub name : List ℕ
name = param_token ∷ []

-- a row without names
abbrev pub plain_row : List ℕ → Place → RouteOf Place
plain_row text place = record { pattern = text; text = text; names = []; value = place }

-- a row's pattern, text and names
abbrev pub row : Place → RouteOf Place
row Jobs = plain_row (codes "/jobs") Jobs
row Job = record { pattern = codes "/jobs/" ++ name; text = codes "/jobs/{id}"; names = (7, 9) ∷ []; value = Job }
row Files = record { pattern = codes "/jobs/" ++ name ++ codes "/files"; text = codes "/jobs/{id}/files"; names = (7, 9) ∷ []; value = Files }
row File =
    record {
      pattern = codes "/jobs/" ++ name ++ codes "/files/" ++ name;
      text = codes "/jobs/{id}/files/{file}";
      names = (7, 9) ∷ (18, 22) ∷ [];
      value = File;
    }
row Links = plain_row (codes "/config/links") Links
row Endpoints = plain_row (codes "/config/se") Endpoints
row Shares = plain_row (codes "/config/activity_shares") Shares
row Bans = plain_row (codes "/ban/se") Bans
row JournalEntry = record { pattern = codes "/journal/" ++ name; text = codes "/journal/{n}"; names = (10, 11) ∷ []; value = JournalEntry }

-- the rows in the router's order
abbrev pub table : RowsOf (RouteOf Place)
table = map (λ place. ((row place).pattern, row place)) (Bans ∷ Shares ∷ Links ∷ Endpoints ∷ File ∷ Files ∷ Job ∷ Jobs ∷ JournalEntry ∷ [])

-- the row of a route
abbrev pub row_of : Route → RouteOf Place
row_of ToJobs = row Jobs
row_of (ToJob id) = row Job
row_of (ToFiles id) = row Files
row_of (ToFile id file) = row File
row_of ToLinks = row Links
row_of ToEndpoints = row Endpoints
row_of ToShares = row Shares
row_of ToBans = row Bans
row_of (ToEntry number) = row JournalEntry

-- the route at a row, with the texts that the row's names took
abbrev pub route_at : Place → (List ℕ → Option (List ℕ)) → Option Route
route_at Jobs taken = Some ToJobs
route_at Job taken = option_map ToJob (taken (codes "id"))
route_at Files taken = option_map ToFiles (taken (codes "id"))
route_at File taken = option_and_then (λ id. option_map (ToFile id) (taken (codes "file"))) (taken (codes "id"))
route_at Links taken = Some ToLinks
route_at Endpoints taken = Some ToEndpoints
route_at Shares taken = Some ToShares
route_at Bans taken = Some ToBans
route_at JournalEntry taken = option_map ToEntry (taken (codes "n"))

-- a row that stands beside the others
abbrev pub IsFree : Result Scan InsertError → RowsOf (RouteOf Place) → Type 0
IsFree (Ok read) rows = nearest read.pattern rows ≡ None
IsFree (Err error) rows = ⊥

-- the rows with one more
abbrev pub with_row : Result Scan InsertError → Place → RowsOf (RouteOf Place) → RowsOf (RouteOf Place)
with_row (Ok read) place rows = placed (read.pattern, route_from read place) rows
with_row (Err error) place rows = rows
