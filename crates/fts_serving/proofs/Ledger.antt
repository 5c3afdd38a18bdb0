-- Of lanes and workers that ran over one list: what each pass added, by its number, and what follows for all of them.
use Rattle.std.proofs.Common.{◌≡◌, ◌≢◌, refl, sym, ap, ◌∙◌, subst, inl, inr, ⊎_elim, ℕ, zero, suc, ◌+◌, ◌<◌, ◌≤◌, Bool, true, false, List, [], ◌∷◌, ◌++◌, length, map, drop, Option, Some, None, Err, append-nil, append_assoc, arith}
use Rattle.std.specs.Prelude.{◌⊎◌, max}
use Rattle.fts_tables.specs.SettingsData.{SettingsData}
use Rattle.fts_tables.specs.Tables.{empty_tables}
use Rattle.fts_tables.specs.Limits.{eligible_rows}
use Rattle.fts_tables.specs.Step.{step}
use Rattle.fts_tables.specs.History.{IsLegal, out_of_list, tables_of}
use Rattle.fts_tables.specs.declared.commands.Entry.{Entry}
use Rattle.fts_tables.specs.declared.commands.Command.TheVariants.{Claim, Restart}
use Rattle.fts_tables.specs.declared.commands.Refusal.TheVariants.{Idle}
use Rattle.fts_turnstile.specs.declared.turn.LoggedTurn.{LoggedTurn}
use Rattle.fts_turnstile.specs.History.{AllGiven, AllNamed, Among, NoneBy, OnlyOthersSince, items_of, shown_after}
use Rattle.fts_turnstile.specs.Passes.{PassView, pass_given}
use Rattle.fts_passes.specs.Crews.{AreSeenBy, passes_given}
use Rattle.fts_keep.specs.Keeps.{KeepData}
use Rattle.fts_keep.specs.Applied.{entry_by}
use Rattle.fts_keep.specs.declared.fault.KeepFault.{KeepFault}
use Rattle.fts_keep.specs.declared.fault.KeepFault.TheVariants.{DiskFailed, JournalFull}
use Rattle.fts_keep.specs.Keeps.{used_of}
use Rattle.fts_workers.specs.Rounds.{applied_over}
use Rattle.fts_tables.specs.Counts.{Rose}
use Rattle.fts_workers.specs.declared.hand.Hand.{Hand}
use Rattle.fts_workers.specs.declared.held.Held.{Held}
use Rattle.fts_shop.specs.Many.{Each}
use Rattle.fts_shop.specs.Looking.{LeaveLanes, NoneOf}
use Rattle.fts_shop.specs.Looked.{items_on}
use Rattle.fts_workers.proofs.Accepted.{legal_front}
use Rattle.fts_shop.specs.Shops.{ShopData, doubt_bytes, doubt_shown, faults_shown, flag, lanes_shown, shop_of, shop_shows, writer_of}
use Rattle.fts_shop.specs.Workers.{station_data}
use Rattle.fts_shop.specs.declared.ends.WorkerEnd.{WorkerEnd}
use Rattle.fts_shop.specs.declared.ends.WorkerEnd.TheVariants.{Drained, Stopped, DiskFailed as DiskFailedEnd, JournalFull as JournalFullEnd, Memory as MemoryEnd}
use Rattle.fts_shop.specs.declared.station.Station.{Station}
use Rattle.fts_service.specs.Halls.{IsBoothServed, IsStationWorked}
use Rattle.fts_service.specs.Seats.{booths_of, stations_of}
use Rattle.fts_top.specs.Serves.{ClosesServed}
use Rattle.fts_top.specs.Ends.{status_of, end_when_served}
use Rattle.fts_service.specs.Openings.{SomeRose}
use Rattle.fts_service.specs.Served.{are_doors_failed, worst_of}
use Rattle.fts_service.specs.declared.lane.LaneStop.{LaneStop}
use Rattle.fts_top.specs.declared.ends.RunEnd.{RunEnd}
use Rattle.fts_top.specs.declared.ends.RunEnd.TheVariants.{Served}
use Rattle.std.specs.List.{list_any}
use Rattle.fts_service.specs.declared.lane.Booth.{Booth}
use Rattle.fts_service.specs.declared.lane.Lane.{Lane}
use Rattle.fts_ledger.specs.Claims.{IsOut, IsOwn, last_claim}
use Rattle.fts_ledger.specs.Ledger.{KeepsItsFiles, KeepsLedger, MayKeep}
use Rattle.fts_ledger.specs.Reports.{AddsAsked, AddsWork, HasNoRestart, IsUndisturbed, ReportsOwn}
use Rattle.fts_serving.specs.Ends.{AreAtRest, AreDrained, DoubtBegins, EndsSure, IsOpenedBy, KeepTheLedger, KeepsOwn, LeavesNothing}
use Rattle.fts_serving.proofs.Last.{HasLast, given_last, last_of, last_or_behind, last_there, none_above, none_among, none_last, not_behind, within}
use Rattle.fts_serving.proofs.Open.{LaneTurns, Rules, ShowsLater, doubt_begins, has_turn, none_open, open_all, open_behind, open_lanes, own_turn, none_rises_in, shows_through, there_behind}
use Rattle.fts_serving.proofs.Own.{asked_none, named_back, none_items}
use Rattle.fts_serving.proofs.Seats.{At, Seat, all_weaker, booths_given, drop_given, each_idle, each_weaker, each_with, giver_from, seat_at, seats, seen_behind, stations_given}
use Rattle.fts_serving.specs.Finishes.{NoneRises, RecordPasses}
use Rattle.fts_serving.proofs.Finishing.{doors_rose, ended_by, failed_doors, none_rises_at, rose_before, some_end}
use Rattle.fts_serving.proofs.Faults.{Failed, full_by, fault_behind, turn_fails, worker_fault}
use Rattle.fts_serving.proofs.Stations.{FindsNone, between_same, drained_finds_none, stopped_holds}
use Rattle.fts_serving.specs.Cited.{ListLaws, StoreLaws}
use Rattle.fts_serving.proofs.Whole.{OfWorker, keeps, may, of_lane, of_worker}
use Rattle.fts_service.specs.Worlds.{World}

-- what adds nothing works and asks for nothing
work_none : (writer : ℕ) (entries : List Entry) → NoneOf writer entries → AddsWork writer entries
work_none writer [] none = tt
work_none writer (entry ∷ entries) none = ((λ is. absurd (none.0 is)), work_none writer entries none.1)

-- disks of which the same is shown tell alike
same_flag : (one other : Bool) → flag one ≡ flag other → one ≡ other
same_flag true true is = refl
same_flag true false is = absurd cc
same_flag false true is = absurd cc
same_flag false false is = refl

-- where no entry in doubt is shown, there is none
unshown : (doubt : Option Entry) → doubt_bytes doubt ≡ [] → doubt ≡ None
unshown None empty = refl
unshown (Some entry) empty = absurd cc

-- a moment isn't later than the greater of two
le_max : (a b : ℕ) → b ≤ max a b
le_max a b = omega arith

module _ {D A E C W L : Type 0} (world : World D A E C W L)
    {lanes workers : ℕ} {connections : Option ℕ} {keep : KeepData D} {lanes_before : List (Lane A C L)} {hands : List (Hand E C W)} {after : List (Lane A C L)}
    {hands_now : List (Hand E C W)} {closed : ShopData D} {end : RunEnd}
    (lists : ListLaws) (laws : StoreLaws world.stores)
    (serves : ClosesServed world lanes workers connections keep lanes_before hands
    after hands_now closed end)
    (settings : SettingsData) (opened : IsOpenedBy keep.entries settings) (legal : IsLegal (keep.entries ++ items_of serves.ran.history.turns))
    (lanes_there : lanes ≤ length serves.opened) (hands_there : workers ≤ length hands) (some : 1 ≤ workers) where
  -- the one list of turns, pass 0, and what the list was opened with
  abbrev turns : List (LoggedTurn Entry)
  turns = serves.ran.history.turns

  abbrev items : List Entry
  items = items_of turns

  abbrev first : PassView Entry
  first = serves.first

  given_is : first.given ≡ lanes + workers
  given_is = ap (λ (p : PassView Entry). p.given) serves.locked.first_is

  unseen : first.seen ≡ []
  unseen = ap (λ (p : PassView Entry). p.seen) serves.locked.first_is

  opening_is : first.opening ≡ keep.entries
  opening_is = ap (λ (p : PassView Entry). p.opening) serves.locked.first_is ∙ serves.locked.opening

  shows_are : lanes_shown first.opening_shows ≡ lanes
  shows_are = ap (λ (p : PassView Entry). lanes_shown p.opening_shows) serves.locked.first_is ∙ ap lanes_shown serves.locked.shows

  named : AllNamed writer_of turns
  named = serves.ran.history.named

  legal_first : IsLegal (first.opening ++ items)
  legal_first = subst (λ o. IsLegal (o ++ items)) (sym opening_is) legal

  -- the seats of lanes, by number
  lane_at : (n : ℕ) → 1 ≤ n → n ≤ lanes
      → At (λ (booth : Booth D A C L). booth.pass) (IsBoothServed world.sides world.doors world.clocks connections) turns first n
  lane_at n low high =
      seat_at (λ (booth : Booth D A C L). booth.pass) (IsBoothServed world.sides world.doors world.clocks connections) turns first
      (booths_of serves.opened serves.rooms (passes_given (giver_from first 0) first.given)) serves.ran.booths
      (map (λ (station : Station D E C W). station.pass) serves.ran.stations) 0 (length serves.rooms)
      (booths_given D serves.opened serves.rooms first 0 first.given
      (omega (arith, lanes_there, serves.as_many.0)) (omega (arith, given_is, serves.as_many.0)))
      serves.ran.served serves.ran.history.seen n (omega (arith, low)) (omega (arith, high, serves.as_many.0))

  -- a worker's work, from an empty bench
  abbrev Worked : Station D E C W → Station D E C W → Type 0
  Worked old new = IsStationWorked world.stores world.clocks world.words world.closes old new × (old.bench.held ≡ [])

  abbrev passes_behind : List (PassView Entry)
  passes_behind = drop (length serves.rooms) (passes_given (giver_from first 0) first.given)

  worked : Each Worked (stations_of hands serves.benches passes_behind) serves.ran.stations
  worked = each_idle (IsStationWorked world.stores world.clocks world.words world.closes) hands serves.benches passes_behind serves.ran.stations
      serves.ran.worked serves.ran.idle

  stations_are : map (λ (station : Station D E C W). station.pass) (stations_of hands serves.benches passes_behind)
      ≡ passes_given (giver_from first (0 + length serves.rooms)) (length serves.benches)
  stations_are =
      ap (λ l. map (λ (station : Station D E C W). station.pass) (stations_of hands serves.benches l))
      (drop_given (length serves.rooms) first.given workers first 0 (omega (arith, given_is, serves.as_many.0)))
      ∙ stations_given D hands serves.benches first (0 + length serves.rooms) workers (omega (arith, hands_there, serves.as_many.1)) (omega (arith, serves.as_many.1))

  stations_seen : AreSeenBy turns (map (λ (station : Station D E C W). station.pass) serves.ran.stations ++ [])
  stations_seen = subst (AreSeenBy turns) (sym (append-nil (map (λ (station : Station D E C W). station.pass) serves.ran.stations)))
      (seen_behind turns (map (λ (booth : Booth D A C L). booth.pass) serves.ran.booths)
      (map (λ (station : Station D E C W). station.pass) serves.ran.stations) serves.ran.history.seen)

  -- the seats of workers, by number, with what else is known of each
  station_at : (Q : Station D E C W → Station D E C W → Type 0) → Each Q (stations_of hands serves.benches passes_behind) serves.ran.stations
      → (n : ℕ) → lanes < n → n ≤ lanes + workers → At (λ (station : Station D E C W). station.pass) Q turns first n
  station_at Q each n low high =
      seat_at (λ (station : Station D E C W). station.pass) Q turns first (stations_of hands serves.benches passes_behind) serves.ran.stations [] (0 + length serves.rooms)
      (length serves.benches) stations_are each stations_seen n (omega (arith, low, serves.as_many.0)) (omega (arith, high, serves.as_many.0, serves.as_many.1))

  -- what is known of a pass that was given, by pass 0
  numbered : (n given : ℕ) (pass : PassView Entry) → suc given ≡ n → pass ≡ pass_given (giver_from first given)
      → (pass.number ≡ n) × ((pass.opening ≡ first.opening) × ((pass.opening_shows ≡ first.opening_shows) × (pass.seen ≡ [])))
  numbered n given pass is from = (
    ap (λ (p : PassView Entry). p.number) from ∙ omega (arith, is),
    (
      ap (λ (p : PassView Entry). p.opening) from,
      (
        ap (λ (p : PassView Entry). p.opening_shows) from,
        ap (λ (p : PassView Entry). p.seen) from ∙ unseen,
      ),
    ),
  )

  lane_of : (n : ℕ) → 1 ≤ n → n ≤ lanes
      → AddsAsked n items × (LaneTurns n first.opening_shows turns × (has_turn n turns ≡ true))
  lane_of n low high =
      let at = lane_at n low high in
      let is = numbered n at.seat.given at.old.pass at.is at.seat.pass in
      let of = of_lane world.sides world.doors world.clocks connections turns at.old at.new is.1.1.1 named at.seat.since at.seat.holds in (
        subst (λ m. AddsAsked m items) is.0 of.asked,
        (
          subst (λ m. LaneTurns m first.opening_shows turns) is.0 (subst (λ l. LaneTurns at.old.pass.number l turns) is.1.1.0 of.lane),
          subst (λ m. has_turn m turns ≡ true) is.0 of.there,
        ),
      )

  -- a worker's seat, as stations are seen
  module _ (old new : Station D E C W) (given : ℕ) (from : old.pass ≡ pass_given (giver_from first given)) (since : OnlyOthersSince (new.pass.number ∷ []) new.pass.seen turns)
      (done : Worked old new) where
    station_is : (old.pass.number ≡ suc given) × ((old.pass.opening ≡ first.opening) × ((old.pass.opening_shows ≡ first.opening_shows) × (old.pass.seen ≡ [])))
    station_is = numbered (suc given) given old.pass refl from

    station_legal : IsLegal (old.pass.opening ++ items)
    station_legal = subst (λ o. IsLegal (o ++ items)) (sym station_is.1.0) legal_first

    station_may : MayKeep old.pass new.pass old.bench.held
    station_may = may world.stores laws.own turns (station_data world.clocks world.words old) (station_data world.clocks world.words new)
        station_is.1.1.1 done.1 station_legal done.0 since

    station_keeps : KeepsLedger old.pass new.pass new.bench.held
    station_keeps = keeps world.stores laws.own turns (station_data world.clocks world.words old) (station_data world.clocks world.words new)
        station_is.1.1.1 done.1 station_legal done.0 since

    station_of_worker : OfWorker turns old.pass
    station_of_worker = of_worker world.stores laws.own turns (station_data world.clocks world.words old) (station_data world.clocks world.words new)
        station_is.1.1.1 done.1 station_legal done.0 since named

  worker_of : (n : ℕ) → lanes < n → n ≤ lanes + workers
      → AddsWork n items × (ReportsOwn n keep.entries [] items × LeaveLanes n first.opening_shows turns)
  worker_of n low high =
      let at = station_at Worked worked n low high in
      let is = numbered n at.seat.given at.old.pass at.is at.seat.pass in
      let of = station_of_worker at.old at.new at.seat.given at.seat.pass at.seat.since at.seat.holds in (
        subst (λ m. AddsWork m items) is.0 of.work,
        (
          subst (λ m. ReportsOwn m keep.entries [] items) is.0 (subst (λ o. ReportsOwn at.old.pass.number o [] items) (is.1.0 ∙ opening_is) of.own),
          subst (λ m. LeaveLanes m first.opening_shows turns) is.0 (subst (λ l. LeaveLanes at.old.pass.number l turns) is.1.1.0 of.leaves),
        ),
      )

  -- the rules by which lanes are shown
  rules : Rules lanes (lanes + workers) first.opening_shows turns
  rules = record {
    lane = λ n low high. (lane_of n low high).1.0;
    other = λ n low high. (worker_of n low high).1.1;
    given = subst (λ m. AllGiven m turns) given_is serves.ran.history.given;
    none = serves.ran.history.none_of_first;
  }

  -- what is shown behind all turns goes on from what was shown before them
  shows_all : ShowsLater (shop_shows world.disks (shop_of keep lanes)) (shop_shows world.disks closed)
  shows_all =
      let opening : first.opening_shows ≡ shop_shows world.disks (shop_of keep lanes) =
      ap (λ (p : PassView Entry). p.opening_shows) serves.locked.first_is ∙ serves.locked.shows in
      subst (λ l. ShowsLater l (shop_shows world.disks closed)) opening
      (subst (λ l. ShowsLater first.opening_shows l) (sym serves.ran.history.shown)
      (shows_through lanes (lanes + workers) first.opening_shows turns rules))

  -- so is what is kept of the disk
  sure : EndsSure world.disks keep closed.keep
  sure = record {
    told = same_flag (world.disks.state closed.keep.disk).told (world.disks.state keep.disk).told shows_all.tells;
    counts = shows_all.counts;
    doubt = λ told none. ⊎_elim
        (λ empty. inl (unshown closed.keep.doubt empty))
        (λ some. ⊎_elim (λ same. inl (unshown closed.keep.doubt (same ∙ ap doubt_bytes none))) (λ rose. inr rose) some)
        shows_all.doubt;
  }

  -- and an entry in doubt has its owner
  owner : keep.doubt ≡ None → (entry : Entry) → closed.keep.doubt ≡ Some entry → DoubtBegins first.opening_shows turns entry
  owner none entry is = ⊎_elim
      (λ was. let clash : [] ≡ doubt_bytes (Some entry) = ap doubt_bytes (sym none) ∙ ap doubt_shown (sym opening) ∙ was in absurd cc)
      (λ begins. begins)
      (doubt_begins lanes (lanes + workers) first.opening_shows turns rules entry (ap doubt_shown (sym serves.ran.history.shown) ∙ ap doubt_bytes is))
    where
      opening : first.opening_shows ≡ shop_shows world.disks (shop_of keep lanes)
      opening = ap (λ (p : PassView Entry). p.opening_shows) serves.locked.first_is ∙ serves.locked.shows

  -- where the disk's count didn't rise, it rose in no turn
  pub none_rises_by : (base : ℕ) → base ≤ world.disks.faults keep.disk → (Rose base (world.disks.faults closed.keep.disk) → ⊥)
      → NoneRises first.opening_shows turns
  none_rises_by base low stays =
      let opening : first.opening_shows ≡ shop_shows world.disks (shop_of keep lanes) =
      ap (λ (p : PassView Entry). p.opening_shows) serves.locked.first_is ∙ serves.locked.shows in
      none_rises_in lanes (lanes + workers) first.opening_shows turns base (world.disks.faults closed.keep.disk) rules
      (subst (λ l. base ≤ faults_shown l) (sym opening) low)
      (subst (λ l. faults_shown l ≤ world.disks.faults closed.keep.disk) serves.ran.history.shown (omega arith)) stays

  -- the entries of other numbers
  none_of_zero : NoneOf 0 items
  none_of_zero = none_items 0 turns serves.ran.history.none_of_first named

  none_of_above : (n : ℕ) → lanes + workers < n → NoneOf n items
  none_of_above n above = none_items n turns (none_above first.given n turns serves.ran.history.given (omega (arith, given_is, above))) named

  pub asked : (pass : ℕ) → 1 ≤ pass → pass ≤ lanes → AddsAsked pass items
  asked pass low high = (lane_of pass low high).0

  pub work : (pass : ℕ) → lanes < pass → AddsWork pass items
  work pass low = ⊎_elim
      (λ high. (worker_of pass low high).0)
      (λ above. work_none pass items (none_of_above pass above))
      (within pass (lanes + workers))

  asked_low : (writer : ℕ) → writer ≤ lanes → AddsAsked writer items
  asked_low zero high = asked_none 0 items none_of_zero
  asked_low (suc more) high = asked (suc more) (omega arith) high

  pub own : (writer : ℕ) → ReportsOwn writer keep.entries [] items
  own writer = ⊎_elim
      (λ high. lists.reports writer keep.entries items (asked_low writer high))
      (λ low. ⊎_elim
      (λ high. (worker_of writer low high).1.0)
      (λ above. lists.others writer keep.entries [] items (none_of_above writer above))
      (within writer (lanes + workers)))
      (within writer lanes)

  none_restarts : HasNoRestart items
  none_restarts = lists.none items (λ writer. ⊎_elim (λ high. inr (asked_low writer high)) (λ low. inl (work writer low)) (within writer lanes))

  pub undisturbed : (writer : ℕ) → IsUndisturbed writer keep.entries items
  undisturbed writer = lists.undisturbed keep.entries items none_restarts own writer

  -- each worker's own
  keeps_own : (old new : Station D E C W) → Seat (λ (station : Station D E C W). station.pass) Worked turns first old new
      → KeepsOwn world.stores world.closes (station_data world.clocks world.words old) (station_data world.clocks world.words new)
  keeps_own old new seat =
      let is = numbered (suc seat.given) seat.given old.pass refl seat.pass in
      let done = seat.holds.0 in
      let files : KeepsItsFiles new.pass = laws.before new.pass seat.since.0
      (subst (λ t. IsUndisturbed new.pass.number new.pass.opening (items_of t)) seat.since.1
      (subst (λ o. IsUndisturbed new.pass.number o items) (sym (done.same.1 ∙ is.1.0 ∙ opening_is)) (undisturbed new.pass.number))) in
      let follows = laws.follow world.closes (station_data world.clocks world.words old) (station_data world.clocks world.words new) done
      (station_may old new seat.given seat.pass seat.since seat.holds) files in
      record {
        done = done;
        follows = follows.0;
        fresh = follows.1;
        last = follows.2;
      }

  -- all seats of workers
  pub station_seats : Each (Seat (λ (station : Station D E C W). station.pass) Worked turns first) (stations_of hands serves.benches passes_behind) serves.ran.stations
  station_seats = seats (λ (station : Station D E C W). station.pass) Worked turns first (stations_of hands serves.benches passes_behind) serves.ran.stations []
      (0 + length serves.rooms) (length serves.benches) stations_are worked stations_seen

  -- the fault by which a worker ended, in the list of all turns
  pub failed_of : (old new : Station D E C W) → Seat (λ (station : Station D E C W). station.pass) Worked turns first old new → (end : WorkerEnd) (fault : KeepFault)
      → new.end ≡ Some end → worker_fault end ≡ Some fault → Failed first turns fault
  failed_of old new seat ended fault end_is by =
      let is = numbered (suc seat.given) seat.given old.pass refl seat.pass in
      let done = seat.holds.0 in
      let between = between_same world.stores (station_data world.clocks world.words old) (station_data world.clocks world.words new) is.1.1.1 done in
      let fails = turn_fails world.stores done.between.pass new.pass done.between.hand done.ends.behind done.between.held done.last
      new.bench.held fault done.ends.turn (fault_behind done.last ended fault done.end_is end_is by) in
      let shows : new.pass.opening_shows ≡ first.opening_shows = done.same.2 ∙ is.1.1.0 in
      let opens : new.pass.opening ≡ first.opening = done.same.1 ∙ is.1.0 in
      record {
        before = fails.tries.before;
        turn = fails.tries.turn;
        later = seat.since.0;
        is = seat.since.1 ∙ ap (λ l. l ++ seat.since.0) fails.tries.seen ∙ append_assoc fails.tries.before (fails.tries.turn ∷ []) seat.since.0;
        cause = λ disk. subst (λ l. Rose (faults_shown (shown_after l fails.tries.before)) (faults_shown fails.tries.turn.shows)) shows
            (fails.tries.cause (fails.is ∙ ap (λ (f : KeepFault). Err f) disk));
        own = fails.tries.own;
        rest = fails.tries.rest;
        items = fails.tries.items;
        entry = fails.tries.entry;
        full = λ used full. subst (λ o. applied_over ((o ++ items_of fails.tries.before) ++ fails.tries.own) fails.tries.entry ≡ Err (JournalFull used)) opens
            (fails.tries.full used (fails.is ∙ ap (λ (f : KeepFault). Err f) full));
      }

  pub stations : Each (λ old new. KeepsOwn world.stores world.closes (station_data world.clocks world.words old) (station_data world.clocks world.words new))
      (stations_of hands serves.benches passes_behind) serves.ran.stations
  stations = each_weaker (Seat (λ (station : Station D E C W). station.pass) Worked turns first)
      (λ old new. KeepsOwn world.stores world.closes (station_data world.clocks world.words old) (station_data world.clocks world.words new)) keeps_own
      (stations_of hands serves.benches passes_behind) serves.ran.stations
      station_seats

  -- where all ended drained, or were stopped
  module _ (rested : AreAtRest world serves) where
    -- work that ended so
    abbrev Rests : Station D E C W → Station D E C W → Type 0
    Rests old new = Worked old new × ((new.end ≡ Some Drained) ⊎ (new.end ≡ Some Stopped))

    rests : Each Rests (stations_of hands serves.benches passes_behind) serves.ran.stations
    rests = each_with Worked (λ (station : Station D E C W). (station.end ≡ Some Drained) ⊎ (station.end ≡ Some Stopped))
        (stations_of hands serves.benches passes_behind) serves.ran.stations worked rested

    -- a worker at rest by its number: where its pass stands, and that it holds nothing
    record Rested (n : ℕ) : Type 0 where
      pass : PassView Entry
      opening : pass.opening ≡ first.opening
      later : List (LoggedTurn Entry)
      is : turns ≡ pass.seen ++ later
      none : NoneBy (n ∷ []) later
      whole : (file : ℕ) → IsOut file (pass.opening ++ items_of pass.seen) → IsOwn n (last_claim file pass.opening (items_of pass.seen)) → ⊥

    rested_at : (n : ℕ) → lanes < n → n ≤ lanes + workers → Rested n
    rested_at n low high =
        let at = station_at Rests rests n low high in
        let is = numbered n at.seat.given at.old.pass at.is at.seat.pass in
        let done = at.seat.holds.0.0 in
        let old = station_data world.clocks world.words at.old in
        let new = station_data world.clocks world.words at.new in
        let holds : at.new.bench.held ≡ [] = ⊎_elim
        (λ drained. (drained_finds_none world.stores old new is.1.1.1 done drained).1)
        (λ stopped. (stopped_holds world.stores old new done stopped).0)
        at.seat.holds.1 in
        let kept = station_keeps at.old at.new at.seat.given at.seat.pass at.seat.since at.seat.holds.0 in
        let number : at.new.pass.number ≡ n = done.same.3 ∙ is.0 in
        record {
          pass = at.new.pass;
          opening = done.same.1 ∙ is.1.0;
          later = at.seat.since.0;
          is = at.seat.since.1;
          none = subst (λ m. NoneBy (m ∷ []) at.seat.since.0) number at.seat.since.2;
          whole = λ file out own.
              subst (λ (held : List Held). Among file (map (λ (one : Held). one.file) held)) holds
              (kept.held_is_out.whole file out (subst (λ m. IsOwn m (last_claim file at.new.pass.opening (items_of at.new.pass.seen))) (sym number) own));
        }

    -- no file is out: its last claim would be a worker's, which holds nothing
    not_out : (file : ℕ) → IsOut file (keep.entries ++ items) → ⊥
    not_out file out =
        let claim = lists.claimed keep.entries items file restarted_none out in
        by claim.0 claim.1
      where
        restarted_none : out_of_list keep.entries ≡ []
        restarted_none = subst (λ l. out_of_list l ≡ []) (sym opened.is)
            (lists.restarted opened.opening 0 opened.now settings (legal_front empty_tables (opened.opening ++ entry_by 0 (Restart opened.now settings) ∷ []) items
            (subst (λ o. IsLegal (o ++ items)) opened.is legal)))

        worker : (writer : ℕ) → lanes < writer → writer ≤ lanes + workers → IsOwn writer (last_claim file keep.entries items) → ⊥
        worker writer low high own =
            let at = rested_at writer low high in
            let all : items ≡ items_of at.pass.seen ++ items_of at.later = ap items_of at.is ∙ items_on at.pass.seen at.later in
            let none = none_items writer at.later at.none (named_back at.pass.seen at.later (subst (AllNamed writer_of) at.is named)) in
            let before = lists.before writer file keep.entries (items_of at.pass.seen) (items_of at.later) none
            (subst (λ l. IsOut file (keep.entries ++ l)) all out)
            (subst (λ l. IsOwn writer (last_claim file keep.entries l)) all own) in
            let opens : keep.entries ≡ at.pass.opening = sym opening_is ∙ sym at.opening in
            at.whole file
            (subst (λ o. IsOut file (o ++ items_of at.pass.seen)) opens before.0)
            (subst (λ o. IsOwn writer (last_claim file o (items_of at.pass.seen))) opens before.1)

        by : (writer : ℕ) → IsOwn writer (last_claim file keep.entries items) → ⊥
        by writer own = ⊎_elim
            (λ high. lists.asked writer file keep.entries items (asked_low writer high) own)
            (λ low. ⊎_elim
            (λ high. worker writer low high own)
            (λ above. lists.asked writer file keep.entries items (asked_none writer items (none_of_above writer above)) own)
            (within writer (lanes + workers)))
            (within writer lanes)

    pub none_out : out_of_list (keep.entries ++ items) ≡ []
    none_out = none_among (out_of_list (keep.entries ++ items)) not_out

  -- where all ended drained
  module _ (drained : AreDrained world serves) where
    -- work that ended so
    abbrev Drains : Station D E C W → Station D E C W → Type 0
    Drains old new = Worked old new × (new.end ≡ Some Drained)

    drains : Each Drains (stations_of hands serves.benches passes_behind) serves.ran.stations
    drains = each_with Worked (λ (station : Station D E C W). station.end ≡ Some Drained) (stations_of hands serves.benches passes_behind) serves.ran.stations
        worked drained

    -- a drained worker by its number: what its last turn found, and where that stands
    record Found (n : ℕ) : Type 0 where
      pass : PassView Entry
      number : pass.number ≡ n
      opening : pass.opening ≡ first.opening
      shows : pass.opening_shows ≡ first.opening_shows
      finds : FindsNone pass
      later : List (LoggedTurn Entry)
      is : turns ≡ pass.seen ++ later
      none : NoneBy (n ∷ []) later

    found : (n : ℕ) → lanes < n → n ≤ lanes + workers → Found n
    found n low high =
        let at = station_at Drains drains n low high in
        let is = numbered n at.seat.given at.old.pass at.is at.seat.pass in
        let done = at.seat.holds.0.0 in
        let old = station_data world.clocks world.words at.old in
        let new = station_data world.clocks world.words at.new in
        let ends = drained_finds_none world.stores old new is.1.1.1 done at.seat.holds.1 in
        let number : at.new.pass.number ≡ n = done.same.3 ∙ is.0 in
        record {
          pass = at.new.pass;
          number = number;
          opening = done.same.1 ∙ is.1.0;
          shows = done.same.2 ∙ is.1.1.0;
          finds = ends.0;
          later = at.seat.since.0;
          is = at.seat.since.1;
          none = subst (λ m. NoneBy (m ∷ []) at.seat.since.0) number at.seat.since.2;
        }

    -- behind a drained worker's last turn no lane has a turn
    none_behind : {n : ℕ} (at : Found n) (m : ℕ) → 1 ≤ m → m ≤ lanes → has_turn m (at.finds.turn ∷ at.later) ≡ false
    none_behind at m from upto =
        let rest = at.finds.turn ∷ at.later in
        let all : turns ≡ at.finds.before ++ rest = at.is ∙ ap (λ l. l ++ at.later) at.finds.seen ∙ append_assoc at.finds.before (at.finds.turn ∷ []) at.later in
        let opens = open_behind lanes (lanes + workers) first.opening_shows at.finds.before rest (subst (Rules lanes (lanes + workers) first.opening_shows) all rules)
        (shows_are ∙ open_all lanes turns (λ k one two. (lane_of k one two).1.1) ∙ ap (open_lanes lanes) all) in
        none_open lanes rest
        (sym opens ∙ ap (λ l. lanes_shown (shown_after l at.finds.before)) (sym at.shows) ∙ at.finds.no_lane) m from upto

    -- no row may be claimed where this claim was refused
    none_waits_at : (now word : ℕ) → step (tables_of (keep.entries ++ items)) (Claim now word) ≡ Err Idle
        → eligible_rows (tables_of (keep.entries ++ items)) (tables_of (keep.entries ++ items)).moment ≡ []
    none_waits_at now word refused =
        let list = keep.entries ++ items in
        let in_force : (tables_of list).settings ≡ Some settings =
        subst (λ o. (tables_of (o ++ items)).settings ≡ Some settings) (sym opened.is)
        (lists.settings opened.opening 0 opened.now settings items none_restarts (subst (λ o. IsLegal (o ++ items)) opened.is legal)) in
        lists.earlier (tables_of list) (tables_of list).moment (max now (tables_of list).moment) (le_max now (tables_of list).moment)
        (lists.idle (tables_of list) settings now word in_force opened.kept refused)

    -- the last turn of all is a drained worker's last one
    none_waits : eligible_rows (tables_of (keep.entries ++ items)) (tables_of (keep.entries ++ items)).moment ≡ []
    none_waits = by turns refl
      where
        worker_one : Found (suc lanes)
        worker_one = found (suc lanes) (omega arith) (omega (arith, some))

        whole_of : {n : ℕ} (at : Found n) → turns ≡ at.finds.before ++ at.finds.turn ∷ at.later
        whole_of at = at.is ∙ ap (λ l. l ++ at.later) at.finds.seen ∙ append_assoc at.finds.before (at.finds.turn ∷ []) at.later

        not_none : (before : List (LoggedTurn Entry)) (turn : LoggedTurn Entry) (later : List (LoggedTurn Entry)) → ◌≡◌ {A = List (LoggedTurn Entry)} [] (before ++ turn ∷ later) → ⊥
        not_none [] turn later is = absurd cc
        not_none (one ∷ before) turn later is = absurd cc

        by_worker : (last : HasLast turns) → lanes < last.turn.number → last.turn.number ≤ lanes + workers
            → eligible_rows (tables_of (keep.entries ++ items)) (tables_of (keep.entries ++ items)).moment ≡ []
        by_worker last low high =
            let at = found last.turn.number low high in
            ⊎_elim
            (λ here.
            let all : items ≡ items_of (at.finds.before ++ at.finds.turn ∷ []) =
            ap items_of (whole_of at ∙ ap (λ l. at.finds.before ++ at.finds.turn ∷ l) here.none) in
            none_waits_at at.finds.now at.finds.word
            (subst (λ l. step (tables_of l) (Claim at.finds.now at.finds.word) ≡ Err Idle)
            (ap (λ o. o ++ items_of (at.finds.before ++ at.finds.turn ∷ [])) (at.opening ∙ opening_is) ∙ ap (λ l. keep.entries ++ l) (sym all)) at.finds.refused))
            (λ behind. absurd (not_behind last.turn.number at.later last.turn at.none refl behind))
            (last_or_behind at.finds.before at.finds.turn at.later last.before last.turn (sym (whole_of at) ∙ last.is))

        by_lane : (last : HasLast turns) → 1 ≤ last.turn.number → last.turn.number ≤ lanes → ⊥
        by_lane last low high =
            let at = worker_one in
            let none = none_behind at last.turn.number low high in
            ⊎_elim
            (λ here. clash (sym (own_there at.finds.turn at.later last.turn.number (ap (λ (t : LoggedTurn Entry). t.number) here.turn_is)) ∙ none))
            (λ behind. clash (sym (there_behind last.turn.number at.finds.turn at.later (last_there last.turn.number at.later last.turn behind refl)) ∙ none))
            (last_or_behind at.finds.before at.finds.turn at.later last.before last.turn (sym (whole_of at) ∙ last.is))
          where
            clash : true ≡ false → ⊥
            clash is = absurd cc

            own_there : (turn : LoggedTurn Entry) (later : List (LoggedTurn Entry)) (number : ℕ) → turn.number ≡ number → has_turn number (turn ∷ later) ≡ true
            own_there turn later number is = own_turn number turn later is

        by_last : (last : HasLast turns) → eligible_rows (tables_of (keep.entries ++ items)) (tables_of (keep.entries ++ items)).moment ≡ []
        by_last last =
            let low = none_last last.before last.turn (subst (NoneBy (0 ∷ [])) last.is serves.ran.history.none_of_first) in
            let high : last.turn.number ≤ lanes + workers =
            given_last (lanes + workers) last.before last.turn (subst (AllGiven (lanes + workers)) last.is (subst (λ m. AllGiven m turns) given_is serves.ran.history.given)) in
            ⊎_elim (λ upto. absurd (by_lane last low upto)) (λ above. by_worker last above high) (within last.turn.number lanes)

        by : (all : List (LoggedTurn Entry)) → turns ≡ all → eligible_rows (tables_of (keep.entries ++ items)) (tables_of (keep.entries ++ items)).moment ≡ []
        by [] is = absurd (not_none worker_one.finds.before worker_one.finds.turn worker_one.later (sym is ∙ whole_of worker_one))
        by (turn ∷ all) is = let last = last_of turn all in by_last (record { before = last.before; turn = last.turn; is = is ∙ last.is })

    pub nothing_left : LeavesNothing (keep.entries ++ items)
    nothing_left = record {
      none_out = none_out (all_weaker (λ (station : Station D E C W). station.end ≡ Some Drained)
          (λ (station : Station D E C W). (station.end ≡ Some Drained) ⊎ (station.end ≡ Some Stopped)) (λ station is. inl is) serves.ran.stations drained);
      none_waits = none_waits;
    }

  pub ledger : KeepTheLedger world serves
  ledger = record {
    asked = asked;
    work = work;
    own = own;
    undisturbed = undisturbed;
    stations = stations;
    none_out = none_out;
    nothing_left = nothing_left;
    sure = sure;
    owner = owner;
  }

  -- how they ended that nothing was in the way of
  module _ (doors_stay : SomeRose world.doors lanes_before after → ⊥) (none_rises : NoneRises first.opening_shows turns) where
    abbrev lane_ends : List (Option LaneStop)
    lane_ends = map (λ (booth : Booth D A C L). booth.end) serves.ran.booths

    abbrev worker_ends : List (Option WorkerEnd)
    worker_ends = map (λ (station : Station D E C W). station.end) serves.ran.stations

    no_doors : list_any are_doors_failed lane_ends ≡ true → ⊥
    no_doors is = doors_stay (rose_before D world.doors world.sides world.clocks connections lanes lanes_before serves.opened after serves.opens
        (subst (λ l. SomeRose world.doors serves.opened l) (sym serves.ran.lanes_are)
        (doors_rose D world.doors world.sides world.clocks connections serves.opened serves.rooms (passes_given (giver_from first 0) first.given) serves.ran.booths
        (drop (length serves.rooms) serves.opened) serves.ran.served is)))

    -- a worker that ended by a fault
    failed_by : (found : WorkerEnd) (fault : KeepFault) → found ≢ Drained → worker_fault found ≡ Some fault → worst_of worker_ends ≡ found → Failed first turns fault
    failed_by found fault unlike by worst =
        let ended = ended_by (Seat (λ (station : Station D E C W). station.pass) Worked turns first) found (stations_of hands serves.benches passes_behind) serves.ran.stations
        station_seats (some_end found worker_ends unlike worst) in
        failed_of ended.old ended.new ended.holds found fault ended.ended by

    unlike_disk : DiskFailedEnd ≢ Drained
    unlike_disk is = absurd cc

    unlike_stop : Stopped ≢ Drained
    unlike_stop is = absurd cc

    unlike_full : (used : ℕ) → JournalFullEnd used ≢ Drained
    unlike_full used is = absurd cc

    no_disk : worst_of worker_ends ≡ DiskFailedEnd → ⊥
    no_disk worst =
        let at = failed_by DiskFailedEnd DiskFailed unlike_disk refl worst in
        none_rises_at first.opening_shows at.before at.turn at.later (subst (NoneRises first.opening_shows) at.is none_rises) (at.cause refl)

    -- a worker that was stopped had a gate that may be closed
    gate_closes : worst_of worker_ends ≡ Stopped → world.closes ≡ true
    gate_closes worst =
        let ended = ended_by (Seat (λ (station : Station D E C W). station.pass) Worked turns first) Stopped (stations_of hands serves.benches passes_behind)
        serves.ran.stations station_seats (some_end Stopped worker_ends unlike_stop worst) in
        (stopped_holds world.stores (station_data world.clocks world.words ended.old) (station_data world.clocks world.words ended.new) ended.holds.holds.0 ended.ended).1

    record_passes : (used : ℕ) → worst_of worker_ends ≡ JournalFullEnd used → RecordPasses (keep.entries ++ items)
    record_passes used worst =
        let at = failed_by (JournalFullEnd used) (JournalFull used) (unlike_full used) refl worst in
        let front = first.opening ++ items_of at.before in
        let point = front ++ at.own in
        let full = full_by (used_of point) used at.entry (step (tables_of point) at.entry.command) (at.full used refl) in
        record {
          entries = point;
          more = at.rest ++ items_of at.later;
          is = ap (λ o. o ++ items) (sym opening_is)
              ∙ ap (λ l. first.opening ++ l) (ap items_of at.is ∙ items_on at.before (at.turn ∷ at.later))
              ∙ sym (append_assoc first.opening (items_of at.before) (items_of (at.turn ∷ at.later)))
              ∙ ap (λ l. front ++ l) (ap (λ l. l ++ items_of at.later) at.items ∙ append_assoc at.own at.rest (items_of at.later))
              ∙ sym (append_assoc front at.own (at.rest ++ items_of at.later));
          entry = at.entry;
          accepted = full.0;
          passes = full.1;
        }

    pub ends_well : (status_of end ≡ 0) ⊎ ((status_of end ≡ 1) ⊎ (((status_of end ≡ 11) × RecordPasses (keep.entries ++ items))
        ⊎ ((status_of end ≡ 23) × (world.closes ≡ true))))
    ends_well = ⊎_elim
        (λ failed. absurd (no_doors failed.0))
        (λ ended. by (worst_of worker_ends) refl ended.1)
        (failed_doors lane_ends worker_ends end (serves.ended ∙ ap end_when_served serves.ran.ended))
      where
        by : (worst : WorkerEnd) → worst_of worker_ends ≡ worst → end ≡ Served (worst_of worker_ends)
            → (status_of end ≡ 0) ⊎ ((status_of end ≡ 1) ⊎ (((status_of end ≡ 11) × RecordPasses (keep.entries ++ items))
            ⊎ ((status_of end ≡ 23) × (world.closes ≡ true))))
        by Stopped is ended = inr (inr (inr (ap status_of (ended ∙ ap Served is), gate_closes is)))
        by Drained is ended = inl (ap status_of (ended ∙ ap Served is))
        by MemoryEnd is ended = inr (inl (ap status_of (ended ∙ ap Served is)))
        by DiskFailedEnd is ended = absurd (no_disk is)
        by (JournalFullEnd used) is ended = inr (inr (inl (ap status_of (ended ∙ ap Served is), record_passes used is)))
