-- What a run that serves is: how it begins, what its lanes and workers do, what it leaves, and how it may stop before its lanes begin.
-- What each lane and each worker did stands in `RanTogether`; the list that all of them share is the closed shop's, over every disk. That it is the
-- disk's own, and images, are so over a disk that tells its contents.
use Rattle.std.specs.Prelude.{◌≡◌, ◌⊎◌, ℕ, ◌+◌, ◌-◌, ◌==◌, List, [], ◌∷◌, ◌++◌, length, filter, Option}
use Rattle.fts_top.specs.Ends.{end_when_served}
use Rattle.fts_tables.specs.Coming.{Coming, Gives}
use Rattle.fts_tables.specs.SettingsData.{SettingsData, IsSettings}
use Rattle.fts_tables.specs.History.{tables_of}
use Rattle.fts_tables.specs.declared.commands.Entry.{Entry}
use Rattle.fts_laws.specs.Attempts.{attempts_in}
use Rattle.fts_turnstile.specs.History.{items_of, items_by}
use Rattle.fts_turnstile.specs.Passes.{TurnstileView, PassView}
use Rattle.fts_disk.specs.Disk.{IsTold}
use Rattle.fts_keep.specs.Keeps.{KeepData, HoldsList, IsFilledBy, IsKeep}
use Rattle.fts_keep.specs.Started.{StartsOver}
use Rattle.fts_wire.specs.RoomData.{RoomData}
use Rattle.fts_workers.specs.Benches.{BenchData}
use Rattle.fts_workers.specs.declared.hand.Hand.{Hand}
use Rattle.fts_shop.specs.Shops.{ShopData, shop_of, writer_of}
use Rattle.fts_service.specs.Locked.{IsLocked, IsUntouched}
use Rattle.fts_service.specs.Openings.{AreOpened, SomeRose}
use Rattle.fts_top.specs.Runs.{AreRead, IsStop}
use Rattle.fts_service.specs.Serving.{RanTogether}
use Rattle.fts_top.specs.Tallies.{tally_of, tally_with, no_tally}
use Rattle.fts_top.specs.declared.ends.RunEnd.{RunEnd}
use Rattle.fts_top.specs.declared.ends.RunEnd.TheVariants.{NoMemory, NoCommand, SettingsUnread, SettingsRule, DiskFailed, Damaged, JournalFull, Session, Shown, SourcesUnmade, LineUnwritten, DoorsFailed, Served, Errand}
use Rattle.fts_service.specs.declared.lane.Lane.{Lane}
use Rattle.fts_top.specs.declared.tally.Tally.{Tally}
use Rattle.fts_service.specs.declared.together.ServedEnd.{ServedEnd}
use Rattle.fts_disk.specs.declared.disk.Disk as disk
use Rattle.fts_service.specs.Worlds.{World}
use Rattle.fts_service.specs.declared.doors.Doors as doors

-- what many threads meet: the disk, the lanes, the hands, and the moments to come of the clock that the start asks, where they are told
pub record ManyThreads (D A E C W L : Type 0) : Type 0 where
  pub disk : D
  pub lanes : List (Lane A C L)
  pub hands : List (Hand E C W)
  pub moments : Option Coming

-- the same by its parts
abbrev pub many_threads : {D A E C W L : Type 0} → D → List (Lane A C L) → List (Hand E C W) → Option Coming → ManyThreads D A E C W L
many_threads disk lanes hands moments = record { disk = disk; lanes = lanes; hands = hands; moments = moments }

-- what a closed shop holds: a list with these entries behind its beginning, whose tables are its own, and a tally that counts the claims among them;
-- and over a disk that tells its contents, its images too are of that list
pub record HoldsBehind {D : Type 0} (disks : disk.Ghosts D) (beginning added : List Entry) (closed : KeepData D) (tally : Tally) : Type 0 where
  pub listed : closed.entries ≡ beginning ++ added
  pub filled : IsFilledBy closed closed.entries
  pub holds : IsTold (disks.state closed.disk)
      → HoldsList (disks.state closed.disk) closed.entries closed.doubt closed.tables closed.commands closed.used closed.in_doubt
  pub counted : tally ≡ tally_of added (tables_of (beginning ++ added))

-- the tally of a shop that was closed, by how many attempts its rows have more than those of the keep that was started
abbrev pub tally_since : {D : Type 0} → KeepData D → KeepData D → Tally
tally_since keep closed = tally_with (attempts_in closed.tables.rows - attempts_in keep.tables.rows) closed.tables

-- why no lane began behind a start: want of memory, or doors that failed
abbrev pub WhyNoLane : {A C L : Type 0} → doors.Ghosts A L → List (Lane A C L) → List (Lane A C L) → RunEnd → Type 0
WhyNoLane all_doors lanes opened NoMemory = Unit {0}
WhyNoLane all_doors lanes opened DoorsFailed = SomeRose all_doors lanes opened
WhyNoLane all_doors lanes opened NoCommand = ⊥
WhyNoLane all_doors lanes opened SettingsUnread = ⊥
WhyNoLane all_doors lanes opened (SettingsRule rule) = ⊥
WhyNoLane all_doors lanes opened DiskFailed = ⊥
WhyNoLane all_doors lanes opened (Damaged offset) = ⊥
WhyNoLane all_doors lanes opened (JournalFull used) = ⊥
WhyNoLane all_doors lanes opened (Session end) = ⊥
WhyNoLane all_doors lanes opened (Shown whole) = ⊥
WhyNoLane all_doors lanes opened SourcesUnmade = ⊥
WhyNoLane all_doors lanes opened LineUnwritten = ⊥
WhyNoLane all_doors lanes opened (Served end) = ⊥
WhyNoLane all_doors lanes opened (Errand end) = ⊥

-- what is known of disks, stores, lines, doors, clocks and words
module _ {D A E C W L : Type 0} (world : World D A E C W L) where
  -- a run stopped before its keep was started: it called neither doors nor stores
  pub record StopsUnstarted (text : Option (List ℕ)) (before after : ManyThreads D A E C W L) (end : RunEnd) (tally : Tally) : Type 0 where
    pub stop : IsStop world.disks text before.moments after.moments before.disk after.disk end
    pub counted : tally ≡ no_tally
    pub lanes : after.lanes ≡ before.lanes
    pub hands : after.hands ≡ before.hands

  -- A shop was closed before its lanes began: no line was taken, no store called, and no turn taken.
  pub record ClosesUnserved (lanes : ℕ) (keep : KeepData D) (before : List (Lane A C L)) (hands : List (Hand E C W)) (after : List (Lane A C L)) (hands_now : List (Hand E C W))
      (closed : ShopData D) (end : RunEnd) : Type 0 where
    pub untouched : IsUntouched world.disks (shop_of keep lanes) closed
    pub opened : AreOpened world.doors lanes before after
    pub hands_are : hands_now ≡ hands
    pub why : WhyNoLane world.doors before after end

  -- Lanes and workers ran over a shop, from doors that were opened, and it was closed behind all of them.
  pub record ClosesServed (lanes workers : ℕ) (connections : Option ℕ) (keep : KeepData D) (before : List (Lane A C L)) (hands : List (Hand E C W))
      (after : List (Lane A C L)) (hands_now : List (Hand E C W)) (closed : ShopData D) (end : RunEnd) : Type 0 where
    pub lock : TurnstileView Entry
    pub first : PassView Entry
    pub passes : List (PassView Entry)
    pub locked : IsLocked world.disks (shop_of keep lanes) (lanes + workers) lock first passes
    pub opened : List (Lane A C L)
    pub opens : AreOpened world.doors lanes before opened
    pub rooms : List RoomData
    pub benches : List BenchData
    pub as_many : (length rooms ≡ lanes) × (length benches ≡ workers)
    pub served : ServedEnd
    pub ran : RanTogether world first connections opened after hands hands_now rooms benches
        closed served
    pub ended : end ≡ end_when_served served
    -- the entries of a writer are exactly the items of the turns with its pass's number, each once and in order
    pub writers : (writer : ℕ) → filter (λ entry. writer_of entry == writer) (items_of ran.history.turns) ≡ items_by (writer ∷ []) ran.history.turns

  -- a shop was closed, whether its lanes began or not, with these entries behind what it held
  abbrev pub Closes : ℕ → ℕ → Option ℕ → KeepData D → List (Lane A C L) → List (Hand E C W) → List (Lane A C L) → List (Hand E C W) → ShopData D → RunEnd
      → List Entry → Type 0
  Closes lanes workers connections keep before hands after hands_now closed end added =
      (ClosesUnserved lanes keep before hands after hands_now closed end × (added ≡ []))
      ⊎ ((serves : ClosesServed lanes workers connections keep before hands after hands_now closed end) × (added ≡ items_of serves.ran.history.turns))

  -- a keep was served, or not, and closed: it left this disk, and a tally by what its rows have more
  pub record ServesShop (lanes workers : ℕ) (connections : Option ℕ) (keep : KeepData D) (before : List (Lane A C L)) (hands : List (Hand E C W))
      (after : List (Lane A C L)) (hands_now : List (Hand E C W)) (left : D) (end : RunEnd) (tally : Tally) : Type 0 where
    pub closed : ShopData D
    pub added : List Entry
    pub closes : Closes lanes workers connections keep before hands after hands_now closed end added
    pub left_is : left ≡ closed.keep.disk
    pub sound : IsKeep world.disks.state closed.keep
    pub counted : tally ≡ tally_since keep closed.keep
    -- these entries stand behind the list that the keep was started with
    pub holds : HoldsBehind world.disks keep.entries added closed.keep tally

  -- a run came to its shop: its keep was started over the disk at the next moment, under the settings of the text
  pub record RunsServing (lanes : ℕ) (connections : Option ℕ) (text : Option (List ℕ)) (before after : ManyThreads D A E C W L) (end : RunEnd) (tally : Tally)
      : Type 0 where
    pub settings : SettingsData
    pub kept : IsSettings settings
    pub read : AreRead text settings
    pub now : ℕ
    pub moment : Gives before.moments after.moments now
    pub keep : KeepData D
    pub opening : List Entry
    pub starts : StartsOver world.disks.state world.disks.faults before.disk settings now keep opening
    pub serves : ServesShop lanes settings.workers connections keep before.lanes before.hands after.lanes after.hands after.disk end tally

  -- what a run did that was to serve: it stopped before its start, or came to its shop
  abbrev pub IsServingRun : ℕ → Option ℕ → RunEnd → Tally → Option (List ℕ) → ManyThreads D A E C W L → ManyThreads D A E C W L → Type 0
  IsServingRun lanes connections end tally text before after =
      StopsUnstarted text before after end tally ⊎ RunsServing lanes connections text before after end tally
