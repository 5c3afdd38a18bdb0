-- What a run of `delete` is: the journal is opened, the input is asked for, the rows that wait are passed once, and all rows are written.
-- What it does is so over every disk and every store; what the journal's list then is, over a disk that tells its contents.
use Rattle.std.specs.Prelude.{◌≡◌, ◌⊎◌, ℕ, ◌≤◌, Bool, true, false, List, ◌++◌, length, Option, Result, Ok, Err}
use Rattle.fts_tables.specs.SettingsData.{SettingsData}
use Rattle.fts_tables.specs.declared.limits.TheConstants.{MAX_CONTENT_BYTES}
use Rattle.fts_disk.specs.Disk.{DiskState, IsTold}
use Rattle.fts_store.specs.Store.{IsTold as TellsFiles}
use Rattle.fts_wire.specs.ReadAll.{IsAll}
use Rattle.fts_wire.specs.Response.{Sends}
use Rattle.fts_wire.specs.declared.outside.SinkFailed.{SinkFailed}
use Rattle.fts_delete.specs.Journals.{DeletesData, IsDeletes, KeepsImages, StandsFor}
use Rattle.fts_delete.specs.Opened.{Opens, OpensOver, OpensNone}
use Rattle.fts_delete.specs.Passed.{Passed, places_of, with_last, LeavesFiles}
use Rattle.fts_delete.specs.Passes.{waiting_of, events_of}
use Rattle.fts_delete.specs.Rows.{AreRowsOf}
use Rattle.fts_delete.specs.declared.events.Event.{Event}
use Rattle.fts_delete.specs.declared.fault.DeleteFault.{DeleteFault}
use Rattle.fts_delete.specs.declared.rows.DeleteRow.{DeleteRow}
use Rattle.fts_delete.specs.declared.visits.Visit.{Visit}
use Rattle.fts_deleting.specs.Asking.{AsksFor, Asks, AsksNot}
use Rattle.fts_deleting.specs.Ends.{end_of, told}
use Rattle.fts_deleting.specs.Told.{rows_text}
use Rattle.fts_deleting.specs.declared.ends.DeleteEnd.{DeleteEnd}
use Rattle.fts_deleting.specs.declared.ends.DeleteEnd.TheVariants.{Told}
use Rattle.fts_disk.specs.declared.disk.Disk as disk
use Rattle.fts_store.specs.declared.store.Store as store

-- what a run meets at a moment: its disk, its store, and what its input has left and its output holds, where they tell it
pub record Surroundings (D E : Type 0) : Type 0 where
  pub disk : D
  pub store : E
  pub input : Option (List ℕ)
  pub output : Option (List ℕ)

-- the same by its parts
abbrev pub around : {D E : Type 0} → D → E → Option (List ℕ) → Option (List ℕ) → Surroundings D E
around disk store input output = record { disk = disk; store = store; input = input; output = output }

-- a text was written: all of it or, where a write failed, a part
abbrev pub WritesText : List ℕ → Option (List ℕ) → Option (List ℕ) → Bool → Type 0
WritesText text held now true = Sends {E = SinkFailed} held now text (Ok tt)
WritesText text held now false = (failed : SinkFailed) × Sends held now text (Err failed)

-- ---- the lists

-- A list that a run makes: the opening one, what was asked for behind it, and then the events of visits of the rows that wait, in order of id: of
-- the first so many. Each is a beginning of the whole one below.
pub record IsMade (opening asked list : List Event) : Type 0 where
  pub rows : List DeleteRow
  pub are : AreRowsOf rows (opening ++ asked)
  pub visits : List Visit
  pub few : length visits ≤ length (waiting_of rows)
  pub parts : list ≡ (opening ++ asked) ++ events_of rows visits

-- the whole one: each row that waits has one event more
pub record IsMadeWhole (opening asked list : List Event) : Type 0 where
  pub made : IsMade opening asked list
  pub each : length made.visits ≡ length (waiting_of made.rows)

-- the opening list, or one that goes on from it
abbrev pub IsBegun : List Event → List Event → List Event → Type 0
IsBegun opening asked list = (list ≡ opening) ⊎ IsMade opening asked list

-- each content that a crash may leave of a disk stands for such a list
abbrev pub StandsForSome : DiskState → (List Event → Type 0) → Type 0
StandsForSome disk P = (content : List ℕ) → disk.may_leave content → (list : List Event) × (StandsFor content list × P list)

-- with status 0: the disk stands for the whole list, and for no other, and its rows were written whole
pub record TellsAll (disk : DiskState) (opening asked : List Event) (held now : Option (List ℕ)) : Type 0 where
  pub list : List Event
  pub whole : IsMadeWhole opening asked list
  pub images : (content : List ℕ) → disk.may_leave content → StandsFor content list
  pub rows : List DeleteRow
  pub fold : AreRowsOf rows list
  pub written : WritesText (rows_text rows) held now true

-- the list went on from the opening one, by what the input asks for
pub record GoesOn {D E : Type 0} (settings : SettingsData) (disk : DiskState) (opening : List Event) (before after : Surroundings D E) (end : DeleteEnd) : Type 0 where
  pub document : List ℕ
  pub all : IsAll MAX_CONTENT_BYTES before.input after.input document
  pub asked : List Event
  pub asks : AsksFor settings document asked
  pub images : StandsForSome disk (IsBegun opening asked)
  pub tells : end ≡ Told → TellsAll disk opening asked before.output after.output

-- ---- the steps

module _ {D E : Type 0} (disks : disk.Ghosts D) (stores : store.Ghosts E) where
  -- the journal was not opened, for this fault: the input was not read, no call made of the store, and nothing written
  pub record StopsUnopened (before after : Surroundings D E) (end : DeleteEnd) : Type 0 where
    pub fault : DeleteFault
    pub unopened : OpensNone disks.state disks.faults before.disk after.disk fault
    pub end_is : end ≡ end_of fault
    pub input : after.input ≡ before.input
    pub store : after.store ≡ before.store
    pub output : after.output ≡ before.output

  -- nothing was asked: no call was made of the store, and nothing written
  pub record StopsUnasked (settings : SettingsData) (old new : DeletesData D) (before after : Surroundings D E) (end : DeleteEnd) : Type 0 where
    pub unasked : AsksNot disks.state disks.faults settings before.input after.input old new end
    pub store : after.store ≡ before.store
    pub output : after.output ≡ before.output

  -- one pass was made over the store, and what it leaves of files that are told
  pub record PassesOnce (old new : DeletesData D) (store left : E) (result : Result (Unit {0}) DeleteFault) : Type 0 where
    pub kept : IsDeletes disks.state old
    pub passed : Passed disks.state disks.faults stores.state stores.faults stores.calls old new store left result
    pub leaves : TellsFiles (stores.state store) → LeavesFiles stores.state store left (places_of old.rows) (with_last passed.done passed.last)

  -- the pass stopped: nothing was written
  pub record StopsPassing (old new : DeletesData D) (before after : Surroundings D E) (end : DeleteEnd) : Type 0 where
    pub fault : DeleteFault
    pub passes : PassesOnce old new before.store after.store (Err fault)
    pub end_is : end ≡ end_of fault
    pub output : after.output ≡ before.output

  -- each row that waited was visited, and all rows were written, or a part of their text
  pub record TellsRows (old new : DeletesData D) (before after : Surroundings D E) (end : DeleteEnd) : Type 0 where
    pub passes : PassesOnce old new before.store after.store (Ok tt)
    pub whole : Bool
    pub written : WritesText (rows_text new.rows) before.output after.output whole
    pub end_is : end ≡ told whole

  -- what the input asks for was asked, and a pass was made
  pub record AsksAndPasses (settings : SettingsData) (old new : DeletesData D) (before after : Surroundings D E) (end : DeleteEnd) : Type 0 where
    pub next : DeletesData D
    pub asks : Asks disks.state disks.faults settings before.input after.input old next
    pub passes : StopsPassing next new before after end ⊎ TellsRows next new before after end

  -- what was done over a journal that was opened
  abbrev pub RunsOver : SettingsData → DeletesData D → DeletesData D → Surroundings D E → Surroundings D E → DeleteEnd → Type 0
  RunsOver settings old new before after end = StopsUnasked settings old new before after end ⊎ AsksAndPasses settings old new before after end

  -- a journal was opened, and closed at the end
  pub record RunsOpened (settings : SettingsData) (before after : Surroundings D E) (end : DeleteEnd) : Type 0 where
    pub opened : DeletesData D
    pub opens : OpensOver disks.state disks.faults before.disk opened
    pub closed : DeletesData D
    pub kept : IsDeletes disks.state closed
    pub disk : after.disk ≡ closed.disk
    pub runs : RunsOver settings opened closed before after end
    -- since the opening each image is a beginning of the list, with one event more at most
    pub images : KeepsImages disks.state opened closed
    -- over a disk that tells its contents the list is the one that the disk stood for, or went on from it
    pub lists : IsTold (disks.state before.disk) → Opens (disks.state before.disk).seen opened.events
        × (StandsForSome (disks.state after.disk) (λ list. list ≡ opened.events) ⊎ GoesOn settings (disks.state after.disk) opened.events before after end)

  -- what `delete` did
  abbrev pub IsDeleteRun : SettingsData → Surroundings D E → Surroundings D E → DeleteEnd → Type 0
  IsDeleteRun settings before after end = StopsUnopened before after end ⊎ RunsOpened settings before after end
