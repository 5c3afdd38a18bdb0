-- What lanes and workers leave together over their one list: who adds what, that nobody takes a file from a worker, what each station's store
-- follows from, that no file is out where no worker ended by a fault, and that nothing is left to do where all ended drained.
use Rattle.std.specs.Prelude.{◌≡◌, ◌≢◌, ◌⊎◌, ℕ, ◌≤◌, ◌<◌, Bool, List, [], ◌∷◌, ◌++◌, length, drop, All, Option, Some, None}
use Rattle.std.proofs.Common.{inl, inr}
use Rattle.fts_tables.specs.Counts.{Rose}
use Rattle.fts_tables.specs.SettingsData.{SettingsData, IsSettings}
use Rattle.fts_tables.specs.Limits.{eligible_rows}
use Rattle.fts_tables.specs.History.{out_of_list, tables_of}
use Rattle.fts_tables.specs.declared.commands.Entry.{Entry}
use Rattle.fts_turnstile.specs.declared.turn.LoggedTurn.{LoggedTurn}
use Rattle.fts_turnstile.specs.History.{items_of, shown_after}
use Rattle.fts_passes.specs.Crews.{passes_given}
use Rattle.fts_disk.specs.Disk.{IsTold}
use Rattle.fts_keep.specs.Keeps.{HoldsList, IsFilledBy, KeepData}
use Rattle.fts_keep.specs.Started.{restarted}
use Rattle.fts_workers.specs.declared.hand.Hand.{Hand}
use Rattle.fts_shop.specs.Many.{Each}
use Rattle.fts_shop.specs.Shops.{ShopData, doubt_bytes, doubt_shown, faults_shown}
use Rattle.fts_shop.specs.Workers.{StationData, WorkerDone, station_data}
use Rattle.fts_shop.specs.declared.ends.Turn.TheVariants.{Stale}
use Rattle.fts_shop.specs.declared.ends.WorkerEnd.TheVariants.{Drained, Stopped}
use Rattle.fts_shop.specs.declared.station.Station.{Station}
use Rattle.fts_ledger.specs.Ledger.{AreFresh, FollowsOwn}
use Rattle.fts_ledger.specs.Reports.{AddsAsked, AddsWork, IsUndisturbed, ReportsOwn}
use Rattle.fts_service.specs.Seats.{stations_of}
use Rattle.fts_top.specs.Serves.{Closes, ClosesServed}
use Rattle.fts_service.specs.declared.lane.Lane.{Lane}
use Rattle.fts_top.specs.declared.ends.RunEnd.{RunEnd}
use Rattle.fts_disk.specs.declared.disk.Disk as disk
use Rattle.fts_store.specs.declared.store.Store as store
use Rattle.fts_service.specs.Worlds.{World}

-- nothing is left to do behind these entries: no file is out, and no row may be claimed at the last moment
pub record LeavesNothing (entries : List Entry) : Type 0 where
  pub none_out : out_of_list entries ≡ []
  pub none_waits : eligible_rows (tables_of entries) (tables_of entries).moment ≡ []

-- a list was opened by this Restart, whose settings keep their rules
pub record IsOpenedBy (entries : List Entry) (settings : SettingsData) : Type 0 where
  pub opening : List Entry
  pub now : ℕ
  pub is : entries ≡ restarted opening now settings
  pub kept : IsSettings settings

-- behind all turns: whether the disk tells its contents stayed, its count never fell, and an entry is in doubt, where none was, only if it rose
pub record EndsSure {D : Type 0} (disks : disk.Ghosts D) (old new : KeepData D) : Type 0 where
  pub told : (disks.state new.disk).told ≡ (disks.state old.disk).told
  pub counts : disks.faults old.disk ≤ disks.faults new.disk
  pub doubt : IsTold (disks.state old.disk) → old.doubt ≡ None → (new.doubt ≡ None) ⊎ Rose (disks.faults old.disk) (disks.faults new.disk)

-- an entry came into doubt in one of these turns: the turn is of the entry's writer, and the disk's count rose in it
pub record DoubtBegins (shown : List ℕ) (turns : List (LoggedTurn Entry)) (entry : Entry) : Type 0 where
  pub before : List (LoggedTurn Entry)
  pub turn : LoggedTurn Entry
  pub later : List (LoggedTurn Entry)
  pub is : turns ≡ before ++ turn ∷ later
  pub shows : doubt_shown turn.shows ≡ doubt_bytes (Some entry)
  pub own : entry.writer ≡ turn.number
  pub rose : Rose (faults_shown (shown_after shown before)) (faults_shown turn.shows)

module _ {E : Type 0} (stores : store.Ghosts E) where
  -- a worker's turns at a station: none was stale, and the store follows from the reports that the pass added; `closes` says whether its gate may be closed
  pub record KeepsOwn (closes : Bool) (old new : StationData E) : Type 0 where
    pub done : WorkerDone stores closes old new
    pub follows : FollowsOwn stores old new
    pub fresh : AreFresh stores done.more old done.between
    pub last : (file : ℕ) → done.last ≢ Stale file

-- what is known of disks, stores, lines, doors, clocks and words
module _ {D A E C W L : Type 0} (world : World D A E C W L)
    {lanes workers : ℕ} {connections : Option ℕ} {keep : KeepData D} {before : List (Lane A C L)} {hands : List (Hand E C W)} {after : List (Lane A C L)}
    {hands_now : List (Hand E C W)} {closed : ShopData D} {end : RunEnd} where
  -- the stations before any worker took a turn
  abbrev pub stations_before : ClosesServed world lanes workers connections keep
      before hands after hands_now closed end → List (Station D E C W)
  stations_before serves =
      stations_of hands serves.benches (drop (length serves.rooms) (passes_given (record serves.first { given = 0 }) serves.first.given))

  -- the entries behind the list that the keep was started with
  abbrev pub entries_added : ClosesServed world lanes workers connections keep
      before hands after hands_now closed end → List Entry
  entries_added serves = items_of serves.ran.history.turns

  -- each worker ended since no lane was left and no row was eligible
  abbrev pub AreDrained : ClosesServed world lanes workers connections keep
      before hands after hands_now closed end → Type 0
  AreDrained serves = All (λ (station : Station D E C W). station.end ≡ Some Drained) serves.ran.stations

  -- each worker ended so, or was stopped with nothing in its hands
  abbrev pub AreAtRest : ClosesServed world lanes workers connections keep
      before hands after hands_now closed end → Type 0
  AreAtRest serves = All (λ (station : Station D E C W). (station.end ≡ Some Drained) ⊎ (station.end ≡ Some Stopped)) serves.ran.stations

  -- lanes and workers kept the ledger
  pub record KeepTheLedger (serves : ClosesServed world lanes workers connections keep
      before hands after hands_now closed end) : Type 0 where
    -- passes 1 and so on are the lanes', and add clients' commands alone; those behind are the workers',
    -- and add claims, reports and expiries alone
    pub asked : (pass : ℕ) → 1 ≤ pass → pass ≤ lanes → AddsAsked pass (entries_added serves)
    pub work : (pass : ℕ) → lanes < pass → AddsWork pass (entries_added serves)
    -- each report is of a file whose last claim before it is the writer's own, so nobody takes a file from a writer that claimed it
    pub own : (writer : ℕ) → ReportsOwn writer keep.entries [] (entries_added serves)
    pub undisturbed : (writer : ℕ) → IsUndisturbed writer keep.entries (entries_added serves)
    pub stations : Each (λ old new. KeepsOwn world.stores world.closes (station_data world.clocks world.words old) (station_data world.clocks world.words new))
        (stations_before serves) serves.ran.stations
    -- where all workers ended drained or stopped, no file is out
    pub none_out : AreAtRest serves → out_of_list (keep.entries ++ entries_added serves) ≡ []
    -- where all ended drained, nothing is left to do
    pub nothing_left : AreDrained serves → LeavesNothing (keep.entries ++ entries_added serves)
    pub sure : EndsSure world.disks keep closed.keep
    -- an entry in doubt behind all turns, where none was before them, has its owner among them
    pub owner : keep.doubt ≡ None → (entry : Entry) → closed.keep.doubt ≡ Some entry
        → DoubtBegins serves.first.opening_shows serves.ran.history.turns entry

  -- so they did in a run that closed its shop, where its lanes began
  abbrev pub KeptWhereServed : {added : List Entry} → Closes world lanes workers
      connections keep before hands after hands_now closed end added → Type 0
  KeptWhereServed (inl unserved) = Unit {0}
  KeptWhereServed (inr served) = KeepTheLedger served.0

-- a disk was left with a list, which is so; where it told its contents before the list is its own
pub record LeavesList {D : Type 0} (disks : disk.Ghosts D) (IsSo : List Entry → Type 0) (before after : D) : Type 0 where
  pub keep : KeepData D
  pub disk_is : after ≡ keep.disk
  pub filled : IsFilledBy keep keep.entries
  pub told : (disks.state after).told ≡ (disks.state before).told
  pub holds : IsTold (disks.state before)
      → HoldsList (disks.state keep.disk) keep.entries keep.doubt keep.tables keep.commands keep.used keep.in_doubt
  pub counts : disks.faults before ≤ disks.faults after
  -- an entry is in doubt only where the disk's count rose
  pub cause : IsTold (disks.state before) → (keep.doubt ≡ None) ⊎ Rose (disks.faults before) (disks.faults after)
  pub is_so : IsSo keep.entries

-- a disk was left with a list behind which nothing is left to do
abbrev pub LeavesDisk : {D : Type 0} → disk.Ghosts D → D → D → Type 0
LeavesDisk disks before after = LeavesList disks LeavesNothing before after

-- a disk was left with a list behind which no file is out
abbrev pub LeavesNoneOut : {D : Type 0} → disk.Ghosts D → D → D → Type 0
LeavesNoneOut disks before after = LeavesList disks (λ entries. out_of_list entries ≡ []) before after
