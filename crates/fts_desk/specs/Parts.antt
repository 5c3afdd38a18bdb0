-- What a claim looks at, beside the rows: there from the first Restart on, tied to the rows and jobs, with room for what a command may add.
use Rattle.std.specs.Prelude.{◌≡◌, ◌≢◌, ℕ, ◌+◌, ◌-◌, ◌<◌, ◌≤◌, Bool, true, false, List, [], length, slice_get, count_by, Option, Some, None, option_map, IfSome}
use Rattle.fts_tables.specs.SettingsData.{SettingsData}
use Rattle.fts_tables.specs.Limits.{has_known_ends}
use Rattle.fts_tables.specs.Tables.{is_active}
use Rattle.fts_tables.specs.declared.rows.FileRow.{FileRow}
use Rattle.fts_tables.specs.declared.rows.JobRow.{JobRow}
use Rattle.fts_tables.specs.declared.rows.NewFile.{NewFile}
use Rattle.fts_tables.specs.declared.rows.JobKind.{JobKind}
use Rattle.fts_tables.specs.declared.settings.LinkAt.{LinkAt}
use Rattle.fts_tables.specs.declared.rows.JobKind.TheVariants.{Plain}
use Rattle.fts_states.specs.declared.reports.Follow.{Follow}
use Rattle.fts_states.specs.declared.reports.Follow.TheVariants.{Nothing, NextHop, NextAlternative}
use Rattle.fts_heads.specs.Dests.{dests_of}
use Rattle.fts_line.specs.LineData.{waits_own}
use Rattle.fts_claims.specs.InLine.{AreInLine, HasRoomInLine}
use Rattle.fts_claims.specs.Ties.{flags_of}
use Rattle.fts_claims.specs.Changes.{AreTiedTo, IsBetween, HasQueueRoom, IsSameRoom, HaveAtMostMore, HasRoomForFiles, HasRoomForRows, HasRoomsRisen, MayWait, MayRun}
use Rattle.fts_claims.specs.declared.parts.ClaimParts.{ClaimParts}
use Rattle.fts_desk.specs.Counted.{AreCountsOf}
use Rattle.fts_desk.specs.declared.kept.Beside.{Beside}

-- the settings that the slots are of, where there are any
abbrev pub limits_of : Option ClaimParts → Option SettingsData
limits_of parts = option_map (λ (parts : ClaimParts). parts.slots.settings) parts

-- for each endpoint of the settings, by its place, whether it is banned: nothing before the first Restart
abbrev pub flags_in : Option SettingsData → List (List ℕ) → List Bool
flags_in None banned = []
flags_in (Some settings) banned = flags_of settings banned

-- what a claim looks at is tied to these jobs and rows
abbrev pub AreTiedParts : List JobRow → List FileRow → Option ClaimParts → Type 0
AreTiedParts jobs rows parts = IfSome parts (λ parts. AreTiedTo jobs rows parts)

-- the ends of a row are the settings' endpoints at the places of a link
abbrev pub IsBetweenIn : Option SettingsData → LinkAt → FileRow → Type 0
IsBetweenIn settings link row = IfSome settings (λ settings. IsBetween settings link row)

-- whether a file waits whose moment has come and which brought its destination
abbrev pub waits_own_in : Option ClaimParts → ℕ → Bool
waits_own_in None file = false
waits_own_in (Some parts) file = waits_own parts.line file

-- what is in line is so by the destinations of these rows
abbrev pub AreInLineParts : List FileRow → Option ClaimParts → Type 0
AreInLineParts rows parts = IfSome parts (λ parts. AreInLine (dests_of rows) parts)

-- there is room in line for so many files in all
abbrev pub HaveRoomInLine : ℕ → Option ClaimParts → Type 0
HaveRoomInLine count parts = IfSome parts (λ parts. HasRoomInLine count parts)

-- what is counted is that of these rows, and what a claim looks at is tied to them, each with the jobs; and it is in line by their destinations
pub record IsBeside (jobs : List JobRow) (rows : List FileRow) (beside : Beside) : Type 0 where
  pub counts : AreCountsOf jobs rows beside.counts
  pub parts : AreTiedParts jobs rows beside.parts
  pub line : AreInLineParts rows beside.parts

-- the queue of a row has room for so many more, where its ends are known
abbrev pub HasRoomToWait : ℕ → FileRow → Option ClaimParts → Type 0
HasRoomToWait more row None = Unit {0}
HasRoomToWait more row (Some parts) = has_known_ends (Some parts.slots.settings) row ≡ true → HasQueueRoom parts.slots.settings more row parts.line.waiting

-- a row may come in that doesn't run: there is room, where it waits and its ends are known
abbrev pub MayWaitIn : FileRow → Option ClaimParts → Type 0
MayWaitIn row None = Unit {0}
MayWaitIn row (Some parts) = MayWait row parts

-- limits and rooms stay, and no queue has more than so many files more
abbrev pub HaveSameRooms : ℕ → Option ClaimParts → Option ClaimParts → Type 0
HaveSameRooms more None None = Unit {0}
HaveSameRooms more None (Some new) = ⊥
HaveSameRooms more (Some old) None = ⊥
HaveSameRooms more (Some old) (Some new) = IsSameRoom old new × HaveAtMostMore more old.line.waiting new.line.waiting

-- slots and busy destinations stay too
abbrev pub HaveSameSlots : Option ClaimParts → Option ClaimParts → Type 0
HaveSameSlots None None = Unit {0}
HaveSameSlots None (Some new) = ⊥
HaveSameSlots (Some old) None = ⊥
HaveSameSlots (Some old) (Some new) = (new.slots ≡ old.slots) × (new.busy ≡ old.busy)

-- rooms may have risen, and all else stays
abbrev pub HaveRisenRooms : Option ClaimParts → Option ClaimParts → Type 0
HaveRisenRooms None None = Unit {0}
HaveRisenRooms None (Some new) = ⊥
HaveRisenRooms (Some old) None = ⊥
HaveRisenRooms (Some old) (Some new) = HasRoomsRisen old new

-- a row may run
abbrev pub MayRunIn : FileRow → Option ClaimParts → Type 0
MayRunIn row None = Unit {0}
MayRunIn row (Some parts) = MayRun row parts

-- how many rows are ACTIVE
abbrev pub count_active : List FileRow → ℕ
count_active rows = count_by (λ row. is_active row.state) rows

-- each ACTIVE row may wait again, with all the others in its queue
abbrev pub HaveRoomToRelease : List FileRow → Option ClaimParts → Type 0
HaveRoomToRelease rows parts = (place : ℕ) (row : FileRow) → slice_get rows place ≡ Some row → is_active row.state ≡ true
    → HasRoomToWait (count_active rows) row parts

-- there is room for the destination of one row more that runs
abbrev pub HasRoomToRun : Option ClaimParts → Type 0
HasRoomToRun None = Unit {0}
HasRoomToRun (Some parts) = length parts.busy.places < parts.busy.room

-- each queue has room for these files
abbrev pub HaveRoomForFiles : List NewFile → Option ClaimParts → Type 0
HaveRoomForFiles files None = Unit {0}
HaveRoomForFiles files (Some parts) = HasRoomForFiles files parts

-- each queue has room for the files of these rows
abbrev pub HaveRoomForRows : List FileRow → Option ClaimParts → Type 0
HaveRoomForRows rows None = Unit {0}
HaveRoomForRows rows (Some parts) = HasRoomForRows rows parts

-- each row of a job may come among the files that wait
abbrev pub HaveRoomToWait : JobRow → List FileRow → Option ClaimParts → Type 0
HaveRoomToWait job rows parts = (place : ℕ) (row : FileRow) → job.first - 1 ≤ place → place < job.first - 1 + job.count
    → slice_get rows place ≡ Some row → HasRoomToWait 1 row parts

-- the same of what may follow a report: of a plain job nothing does
abbrev pub HasRoomToFollow : JobRow → List FileRow → Option ClaimParts → Type 0
HasRoomToFollow job rows parts = job.kind ≢ Plain → HaveRoomToWait job rows parts

-- what may follow a report, by the kind of the job
abbrev pub IsFollowOf : JobKind → Follow → Type 0
IsFollowOf kind Nothing = Unit {0}
IsFollowOf kind NextHop = kind ≢ Plain
IsFollowOf kind NextAlternative = kind ≢ Plain

-- after a report of the row at a place of a job that row may wait again, or another of its job where that isn't a plain one
pub record HasRoomToReport (job : JobRow) (place : ℕ) (rows : List FileRow) (parts : Option ClaimParts) : Type 0 where
  pub own : (row : FileRow) → slice_get rows place ≡ Some row → HasRoomToWait 2 row parts
  pub others : job.kind ≢ Plain → (other : ℕ) (row : FileRow) → job.first - 1 ≤ other → other < job.first - 1 + job.count
      → slice_get rows other ≡ Some row → HasRoomToWait 2 row parts
