-- What a desk's fields mean, and what it keeps true of them.
use Rattle.std.specs.Prelude.{◌≡◌, ℕ, max, ◌<◌, Bool, List, map, length, slice_get, Option, Some, None}
use Rattle.fts_tables.specs.Tables.{Tables}
use Rattle.fts_tables.specs.Choice.{pick}
use Rattle.fts_tables.specs.SettingsData.{SettingsData}
use Rattle.fts_tables.specs.Step.{step, released}
use Rattle.fts_tables.specs.History.{IsAccepted}
use Rattle.fts_tables.specs.Laws.{IsStanding}
use Rattle.fts_tables.specs.declared.limits.TheConstants.{MAX_COMMANDS}
use Rattle.fts_tables.specs.declared.commands.Command.{Command}
use Rattle.fts_tables.specs.declared.commands.Command.TheVariants.{Restart, Submit, CancelJob, CancelFile, SetPriority, Claim, Report, Ban, Unban, Expire}
use Rattle.fts_desk.specs.DeskData.{DeskData}
use Rattle.fts_desk.specs.Kept.{tables_kept, HasRoom}
use Rattle.fts_desk.specs.Bounds.{AreBounded, BringsFiles}
use Rattle.fts_desk.specs.Parts.{HaveRoomToRelease}
use Rattle.fts_desk.specs.declared.kept.Kept.{Kept}
use Rattle.fts_desk.specs.declared.commands.Decided.{Decided}
use Rattle.fts_desk.specs.declared.commands.Decided.TheVariants.{Nothing, Claim as Claimed, Restart as Restarted, Resume as Resumed}
use Rattle.fts_heads.specs.Dests.{dests_of}
use Rattle.fts_claims.specs.InLine.{AreInLine}
use Rattle.fts_claims.specs.Ties.{flags_of}
use Rattle.fts_claims.specs.Changes.{AreTiedTo}
use Rattle.fts_claims.specs.declared.parts.ClaimParts.{ClaimParts}
use Rattle.fts_tables.specs.declared.places.Place.{Place}
use Rattle.fts_tables.specs.declared.rows.FileRow.{FileRow}
use Rattle.fts_desk.specs.declared.desk.Desk.TheInside.{Inside}

-- what contracts see of these fields
abbrev pub desk_data : Inside → DeskData
desk_data desk = record { tables = tables_kept desk.kept; commands = desk.commands; planned = desk.planned }

-- tables of the machine's form and limits, within the bounds of lists after so many commands
pub record IsSound (tables : Tables) (commands : ℕ) : Type 0 where
  pub standing : IsStanding tables
  pub bounds : AreBounded commands tables.jobs tables.rows

-- tables that are sound after fewer commands than can be counted
pub record IsSoundEnough (tables : Tables) : Type 0 where
  pub commands : ℕ
  pub few : commands < MAX_COMMANDS
  pub sound : IsSound tables commands

-- the row at a place is the one that a claim picks
pub record IsPickedAt (tables : Tables) (now word place : ℕ) : Type 0 where
  pub inside : place < length tables.rows
  pub picked : pick tables (max now tables.moment) word ≡ slice_get tables.rows place

-- what a claim looks at after a restart, and for each endpoint whether it is banned
pub record IsReleased (kept : Kept) (settings : SettingsData) (parts : ClaimParts) (flags : List Bool) : Type 0 where
  pub tied : AreTiedTo kept.jobs.items (map released kept.rows.items) parts
  pub line : AreInLine (dests_of kept.rows.items) parts
  pub limits : parts.slots.settings ≡ settings
  pub bans : flags ≡ flags_of settings kept.banned.items

-- a run may begin under these settings, which are in force: there is room for each file that is ACTIVE to wait again
pub record CanResume (kept : Kept) (settings : SettingsData) : Type 0 where
  pub in_force : kept.settings ≡ Some settings
  pub room : HaveRoomToRelease kept.rows.items kept.beside.parts

-- the place of the row that a claim picks, and that row's destination
pub record IsClaimAt (kept : Kept) (now word place : ℕ) (copy : Place) : Type 0 where
  pub at : IsPickedAt (tables_kept kept) now word place
  pub dest : (row : FileRow) → slice_get kept.rows.items place ≡ Some row → row.dest ≡ copy

-- what was decided for a command: of a claim the place of its row and that row's destination, of a restart what a claim looks at from then on with the
-- flags, or that it is under the settings in force
abbrev pub IsDecided : Kept → Command → Decided → Type 0
IsDecided kept (Restart now settings) Nothing = ⊥
IsDecided kept (Restart now settings) (Claimed place dest) = ⊥
IsDecided kept (Restart now settings) Resumed = CanResume kept settings
IsDecided kept (Restart now settings) (Restarted parts flags) = IsReleased kept settings parts flags.items
IsDecided kept (Submit now job) decided = Unit {0}
IsDecided kept (CancelJob now job) decided = Unit {0}
IsDecided kept (CancelFile now job file) decided = Unit {0}
IsDecided kept (SetPriority now job priority) decided = Unit {0}
IsDecided kept (Claim now word) Nothing = ⊥
IsDecided kept (Claim now word) (Claimed place dest) = IsClaimAt kept now word place dest
IsDecided kept (Claim now word) Resumed = ⊥
IsDecided kept (Claim now word) (Restarted parts flags) = ⊥
IsDecided kept (Report now file attempt outcome) decided = Unit {0}
IsDecided kept (Ban now storage cancel) decided = Unit {0}
IsDecided kept (Unban now storage) decided = Unit {0}
IsDecided kept (Expire now) decided = Unit {0}

-- all that an accepted command needs besides: room, a job's files, and what was decided
pub record IsPlanned (kept : Kept) (command : Command) (choice : Decided) : Type 0 where
  pub room : HasRoom kept command
  pub files : BringsFiles command
  pub decided : IsDecided kept command choice

-- all that committing a command needs, a number of commands that can still rise among it
pub record IsReadyFor (kept : Kept) (commands : ℕ) (decided : Decided) (command : Command) : Type 0 where
  pub few : commands < MAX_COMMANDS
  pub accepted : IsAccepted (step (tables_kept kept) command)
  pub planned : IsPlanned kept command decided

-- ready for the command that was prepared, where one was
abbrev pub IsReady : Kept → ℕ → Decided → Option Command → Type 0
IsReady kept commands decided None = Unit {0}
IsReady kept commands decided (Some command) = IsReadyFor kept commands decided command

-- sound tables, and ready for what was prepared
pub record IsDesk (desk : Inside) : Type 0 where
  pub sound : IsSound (tables_kept desk.kept) desk.commands
  pub ready : IsReady desk.kept desk.commands desk.decided desk.planned
