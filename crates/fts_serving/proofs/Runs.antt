-- A run that serves, from its start to its closed shop.
use Rattle.std.proofs.Common.{◌≡◌, ◌≢◌, refl, sym, ap, ◌∙◌, subst, inl, inr, ⊎_elim, ℕ, ◌≤◌, Bool, true, false, cond, List, [], ◌∷◌, ◌++◌, length, map, All, Option, Some, None, Result, Err, arith}
use Rattle.std.proofs.lemmas.Bool.{leb-true, ltb-false, ltb-true}
use Rattle.std.specs.Prelude.{◌⊎◌, ◌==◌, ◌&&◌, nat_le, nat_lt, unwrap_or, IfSome, IsOk, IsSome, IsTrue}
use Rattle.std.specs.List.{AllByRecursion, list_any}
use Rattle.std.proofs.lemmas.List.Elements.{All-cons, All-nil}
use Rattle.fts_tables.specs.Coming.{Coming}
use Rattle.fts_tables.specs.SettingsData.{SettingsData, has_worker_range}
use Rattle.fts_tables.specs.History.{IsLegal, out_of_list}
use Rattle.fts_tables.specs.declared.commands.Entry.{Entry}
use Rattle.fts_tables.specs.Counts.{Rose}
use Rattle.fts_disk.specs.Disk.{IsTold}
use Rattle.fts_turnstile.specs.History.{items_of}
use Rattle.fts_config.specs.Settings.{settings_of}
use Rattle.fts_config.specs.declared.fault.SettingsFault.{SettingsFault}
use Rattle.fts_keep.specs.Applied.{fits}
use Rattle.fts_keep.specs.Damage.{IsDamaged}
use Rattle.fts_keep.specs.Started.{restarted, restart_at}
use Rattle.fts_shop.specs.Many.{Each}
use Rattle.fts_shop.specs.declared.ends.WorkerEnd.{WorkerEnd}
use Rattle.fts_shop.specs.declared.ends.WorkerEnd.TheVariants as worker_ends
use Rattle.fts_shop.specs.declared.station.Station.{Station}
use Rattle.fts_top.specs.Ends.{status_of, end_when_served}
use Rattle.fts_service.specs.Halls.{IsStationWorked}
use Rattle.fts_top.specs.Complete.{HasGoodSettings, IsUndamaged, RestartPasses, Stays}
use Rattle.fts_service.specs.Openings.{SomeRose}
use Rattle.fts_service.specs.Served.{served_end, severity_of, worse_of, worst_from, worst_of, are_doors_failed}
use Rattle.fts_top.specs.Serves.{Closes, ClosesServed, HoldsBehind, IsServingRun, ManyThreads, RunsServing, WhyNoLane}
use Rattle.fts_top.specs.Runs.{IsStop}
use Rattle.fts_top.specs.declared.ends.RunEnd.{RunEnd}
use Rattle.fts_top.specs.declared.ends.RunEnd.TheVariants as run_ends
use Rattle.fts_service.specs.declared.lane.Booth.{Booth}
use Rattle.fts_service.specs.declared.lane.Lane.{Lane}
use Rattle.fts_service.specs.declared.lane.LaneStop.{LaneStop}
use Rattle.fts_top.specs.declared.tally.Tally.{Tally}
use Rattle.fts_service.specs.declared.together.ServedEnd.{ServedEnd}
use Rattle.fts_service.specs.declared.together.ServedEnd.TheVariants as served_ends
use Rattle.fts_serving.specs.Ends.{IsOpenedBy, KeepTheLedger, KeptWhereServed, LeavesDisk, LeavesList, LeavesNoneOut, LeavesNothing, stations_before}
use Rattle.fts_serving.specs.Finishes.{BreaksNoRule, EndsWell, Finishes, RecordPasses}
use Rattle.fts_service.proofs.Opened.{opened_length}
use Rattle.fts_serving.specs.Cited.{ListLaws, StoreLaws}
use Rattle.fts_serving.proofs.Ledger.{ends_well, ledger, none_rises_by}
use Rattle.fts_disk.specs.declared.disk.Disk as disk
use Rattle.fts_service.specs.declared.doors.Doors as doors
use Rattle.fts_service.specs.Worlds.{World}
use Rattle.fts_tables.specs.declared.limits.TheConstants.{MAX_LANES, MAX_WORKERS}

-- the worst of ends is drained only where all are
not_less : (end : WorkerEnd) → severity_of end ≡ 0 → end ≡ worker_ends.Drained
not_less worker_ends.Drained is = refl
not_less worker_ends.Stopped is = absurd cc
not_less worker_ends.Memory is = absurd cc
not_less (worker_ends.JournalFull used) is = absurd cc
not_less worker_ends.DiskFailed is = absurd cc

worse_least : (one other : WorkerEnd) → severity_of (worse_of one other) ≡ 0 → (severity_of one ≡ 0) × (severity_of other ≡ 0)
worse_least one other is = by (nat_lt (severity_of one) (severity_of other)) refl is
  where
    by : (less : Bool) → nat_lt (severity_of one) (severity_of other) ≡ less → severity_of (cond less other one) ≡ 0
        → (severity_of one ≡ 0) × (severity_of other ≡ 0)
    by true at least = absurd (omega (arith, ltb-true (severity_of one) (severity_of other) at, least))
    by false at least = (least, omega (arith, ltb-false (severity_of one) (severity_of other) at, least))

worst_least : (worst : WorkerEnd) (ends : List (Option WorkerEnd)) → severity_of (worst_from worst ends) ≡ 0 → severity_of worst ≡ 0
worst_least worst [] is = is
worst_least worst (end ∷ ends) is = (worse_least worst (unwrap_or end worker_ends.Drained) (worst_least (worse_of worst (unwrap_or end worker_ends.Drained)) ends is)).0

drained_all : {D E C W : Type 0} (worst : WorkerEnd) (stations : List (Station D E C W)) → severity_of (worst_from worst (map (λ (s : Station D E C W). s.end) stations)) ≡ 0
    → AllByRecursion (λ (s : Station D E C W). IsSome s.end) stations → All (λ (s : Station D E C W). s.end ≡ Some worker_ends.Drained) stations
drained_all worst [] is ended = All-nil (λ s. s.end ≡ Some worker_ends.Drained)
drained_all worst (station ∷ stations) is ended =
    All-cons (λ s. s.end ≡ Some worker_ends.Drained) station stations
    (one station.end ended.0
    (worse_least worst (unwrap_or station.end worker_ends.Drained)
    (worst_least (worse_of worst (unwrap_or station.end worker_ends.Drained)) (map (λ s. s.end) stations) is)).1)
    (drained_all (worse_of worst (unwrap_or station.end worker_ends.Drained)) stations is ended.1)
  where
    one : (end : Option WorkerEnd) → IsSome end → severity_of (unwrap_or end worker_ends.Drained) ≡ 0 → end ≡ Some worker_ends.Drained
    one None there least = absurd cc
    one (Some end) there least = ap Some (not_less end least)

-- the worst of ends is a stop only where all are at rest
abbrev pub IsAtRest : Option WorkerEnd → Type 0
IsAtRest end = (end ≡ Some worker_ends.Drained) ⊎ (end ≡ Some worker_ends.Stopped)

least_rests : (end : WorkerEnd) → severity_of end ≤ 1 → IsAtRest (Some end)
least_rests worker_ends.Drained least = inl refl
least_rests worker_ends.Stopped least = inr refl
least_rests worker_ends.Memory least = absurd (omega (arith, least))
least_rests (worker_ends.JournalFull used) least = absurd (omega (arith, least))
least_rests worker_ends.DiskFailed least = absurd (omega (arith, least))

worse_upto : (one other : WorkerEnd) (most : ℕ) → severity_of (worse_of one other) ≤ most → (severity_of one ≤ most) × (severity_of other ≤ most)
worse_upto one other most is = by (nat_lt (severity_of one) (severity_of other)) refl is
  where
    by : (less : Bool) → nat_lt (severity_of one) (severity_of other) ≡ less → severity_of (cond less other one) ≤ most
        → (severity_of one ≤ most) × (severity_of other ≤ most)
    by true at upto = (omega (arith, ltb-true (severity_of one) (severity_of other) at, upto), upto)
    by false at upto = (upto, omega (arith, ltb-false (severity_of one) (severity_of other) at, upto))

worst_upto : (worst : WorkerEnd) (ends : List (Option WorkerEnd)) (most : ℕ) → severity_of (worst_from worst ends) ≤ most → severity_of worst ≤ most
worst_upto worst [] most is = is
worst_upto worst (end ∷ ends) most is =
    (worse_upto worst (unwrap_or end worker_ends.Drained) most (worst_upto (worse_of worst (unwrap_or end worker_ends.Drained)) ends most is)).0

rest_all : {D E C W : Type 0} (worst : WorkerEnd) (stations : List (Station D E C W)) → severity_of (worst_from worst (map (λ (s : Station D E C W). s.end) stations)) ≤ 1
    → AllByRecursion (λ (s : Station D E C W). IsSome s.end) stations → All (λ (s : Station D E C W). IsAtRest s.end) stations
rest_all worst [] is ended = All-nil (λ s. IsAtRest s.end)
rest_all worst (station ∷ stations) is ended =
    All-cons (λ s. IsAtRest s.end) station stations
    (one station.end ended.0
    (worse_upto worst (unwrap_or station.end worker_ends.Drained) 1
    (worst_upto (worse_of worst (unwrap_or station.end worker_ends.Drained)) (map (λ s. s.end) stations) 1 is)).1)
    (rest_all (worse_of worst (unwrap_or station.end worker_ends.Drained)) stations is ended.1)
  where
    one : (end : Option WorkerEnd) → IsSome end → severity_of (unwrap_or end worker_ends.Drained) ≤ 1 → IsAtRest end
    one None there least = absurd cc
    one (Some end) there least = least_rests end least

-- a served end with status 23 is that of workers of which the worst was stopped
served_stopped : (served : ServedEnd) → status_of (end_when_served served) ≡ 23 → served ≡ served_ends.Worked worker_ends.Stopped
served_stopped served_ends.DoorsFailed is = absurd cc
served_stopped (served_ends.Worked worker_ends.Drained) is = absurd cc
served_stopped (served_ends.Worked worker_ends.Stopped) is = refl
served_stopped (served_ends.Worked worker_ends.Memory) is = absurd cc
served_stopped (served_ends.Worked worker_ends.DiskFailed) is = absurd cc
served_stopped (served_ends.Worked (worker_ends.JournalFull used)) is = absurd cc

stopped_worst : (stops : List (Option LaneStop)) (ends : List (Option WorkerEnd)) → served_end stops ends ≡ served_ends.Worked worker_ends.Stopped
    → severity_of (worst_of ends) ≤ 1
stopped_worst stops ends is = by (list_any are_doors_failed stops) is
  where
    by : (failed : Bool) → cond failed served_ends.DoorsFailed (served_ends.Worked (worst_of ends)) ≡ served_ends.Worked worker_ends.Stopped
        → severity_of (worst_of ends) ≤ 1
    by true is = absurd cc
    by false is = let same : worst_of ends ≡ worker_ends.Stopped = cc in omega (arith, ap severity_of same)

-- a served end with status 0 is that of workers that are all drained
served_zero : (served : ServedEnd) → status_of (end_when_served served) ≡ 0 → served ≡ served_ends.Worked worker_ends.Drained
served_zero served_ends.DoorsFailed is = absurd cc
served_zero (served_ends.Worked worker_ends.Drained) is = refl
served_zero (served_ends.Worked worker_ends.Stopped) is = absurd cc
served_zero (served_ends.Worked worker_ends.Memory) is = absurd cc
served_zero (served_ends.Worked worker_ends.DiskFailed) is = absurd cc
served_zero (served_ends.Worked (worker_ends.JournalFull used)) is = absurd cc

worked_worst : (stops : List (Option LaneStop)) (ends : List (Option WorkerEnd)) → served_end stops ends ≡ served_ends.Worked worker_ends.Drained
    → severity_of (worst_of ends) ≡ 0
worked_worst stops ends is = by (list_any are_doors_failed stops) is
  where
    by : (failed : Bool) → cond failed served_ends.DoorsFailed (served_ends.Worked (worst_of ends)) ≡ served_ends.Worked worker_ends.Drained
        → severity_of (worst_of ends) ≡ 0
    by true is = absurd cc
    by false is = let same : worst_of ends ≡ worker_ends.Drained = cc in ap severity_of same

-- a status of a run whose lanes did not begin
abbrev pub is_early : ℕ → Bool
is_early status = list_any (λ early. early == status) (1 ∷ 2 ∷ 3 ∷ 4 ∷ 7 ∷ 8 ∷ 9 ∷ 11 ∷ [])

no_lane_status : {A C L : Type 0} (all_doors : doors.Ghosts A L) (before opened : List (Lane A C L)) (end : RunEnd) → WhyNoLane all_doors before opened end
    → is_early (status_of end) ≡ true
no_lane_status all_doors before opened run_ends.NoMemory why = refl
no_lane_status all_doors before opened run_ends.DoorsFailed why = refl
no_lane_status all_doors before opened run_ends.NoCommand why = absurd why
no_lane_status all_doors before opened run_ends.SettingsUnread why = absurd why
no_lane_status all_doors before opened (run_ends.SettingsRule rule) why = absurd why
no_lane_status all_doors before opened run_ends.DiskFailed why = absurd why
no_lane_status all_doors before opened (run_ends.Damaged offset) why = absurd why
no_lane_status all_doors before opened (run_ends.JournalFull used) why = absurd why
no_lane_status all_doors before opened (run_ends.Session end) why = absurd why
no_lane_status all_doors before opened (run_ends.Shown whole) why = absurd why
no_lane_status all_doors before opened run_ends.SourcesUnmade why = absurd why
no_lane_status all_doors before opened run_ends.LineUnwritten why = absurd why
no_lane_status all_doors before opened (run_ends.Served end) why = absurd why
no_lane_status all_doors before opened (run_ends.Errand end) why = absurd why

module _ {D : Type 0} (disks : disk.Ghosts D) where
  stop_status : (text : Option (List ℕ)) (moments later : Option Coming) (disk left : D) (end : RunEnd) → IsStop disks text moments later disk left end
      → is_early (status_of end) ≡ true
  stop_status text moments later disk left run_ends.NoMemory stop = refl
  stop_status text moments later disk left run_ends.NoCommand stop = refl
  stop_status text moments later disk left run_ends.SettingsUnread stop = refl
  stop_status text moments later disk left (run_ends.SettingsRule rule) stop = refl
  stop_status text moments later disk left run_ends.DiskFailed stop = refl
  stop_status text moments later disk left (run_ends.Damaged offset) stop = refl
  stop_status text moments later disk left (run_ends.JournalFull used) stop = refl
  stop_status text moments later disk left run_ends.DoorsFailed stop = absurd stop
  stop_status text moments later disk left (run_ends.Session end) stop = absurd stop
  stop_status text moments later disk left (run_ends.Shown whole) stop = absurd stop
  stop_status text moments later disk left run_ends.SourcesUnmade stop = absurd stop
  stop_status text moments later disk left run_ends.LineUnwritten stop = absurd stop
  stop_status text moments later disk left (run_ends.Served end) stop = absurd stop
  stop_status text moments later disk left (run_ends.Errand end) stop = absurd stop

-- neither of these is that of a run that ended well, or was stopped
late_zero : (status : ℕ) → is_early status ≡ true → status ≡ 0 → ⊥
late_zero status early is = absurd (let clash : false ≡ true = ap is_early (sym is) ∙ early in cc)

late_stop : (status : ℕ) → is_early status ≡ true → status ≡ 23 → ⊥
late_stop status early is = absurd (let clash : false ≡ true = ap is_early (sym is) ∙ early in cc)

-- settings have a worker at least, and no more than a run has hands
both_true : (one other : Bool) → (one && other) ≡ true → (one ≡ true) × (other ≡ true)
both_true true true is = (refl, refl)
both_true true false is = absurd cc
both_true false other is = absurd cc

range_of : (settings : SettingsData) → IsTrue (has_worker_range settings) → (1 ≤ settings.workers) × (settings.workers ≤ MAX_WORKERS)
range_of settings range =
    let both = both_true (nat_le 1 settings.workers) (nat_le settings.workers MAX_WORKERS) range in
    (leb-true 1 settings.workers both.0, leb-true settings.workers MAX_WORKERS both.1)

module _ {D A E C W L : Type 0} (world : World D A E C W L)
    (lists : ListLaws) (laws : StoreLaws world.stores) where
  -- of a run of workers, each one's end
  ended_all : (olds news : List (Station D E C W)) → Each (IsStationWorked world.stores world.clocks world.words world.closes) olds news
      → AllByRecursion (λ (s : Station D E C W). IsSome s.end) news
  ended_all [] [] each = tt
  ended_all [] (new ∷ news) each = absurd each
  ended_all (old ∷ olds) [] each = absurd each
  ended_all (old ∷ olds) (new ∷ news) each = (each.0.ended, ended_all olds news each.1)

  module _ {lanes : ℕ} {connections : Option ℕ} {text : Option (List ℕ)} {before after : ManyThreads D A E C W L} {end : RunEnd} {tally : Tally}
      (runs : RunsServing world lanes connections text before after end tally)
      (lanes_eight : length before.lanes ≡ MAX_LANES) (few : lanes ≤ MAX_LANES) (hands_sixteen : length before.hands ≡ MAX_WORKERS) where
    listed : runs.keep.entries ≡ restarted runs.opening runs.now runs.settings
    listed = runs.starts.listed

    behind : HoldsBehind world.disks runs.keep.entries runs.serves.added runs.serves.closed.keep tally
    behind = runs.serves.holds

    all_legal : IsLegal (runs.keep.entries ++ runs.serves.added)
    all_legal = subst IsLegal behind.listed behind.filled.list.legal

    workers_range : (1 ≤ runs.settings.workers) × (runs.settings.workers ≤ MAX_WORKERS)
    workers_range = range_of runs.settings runs.kept.workers

    -- what the ledger asks for
    opened_by : IsOpenedBy runs.keep.entries runs.settings
    opened_by = record { opening = runs.opening; now = runs.now; is = listed; kept = runs.kept }

    legal_of : (entries : List Entry) → runs.serves.added ≡ entries → IsLegal (runs.keep.entries ++ entries)
    legal_of entries is = subst (λ l. IsLegal (runs.keep.entries ++ l)) is all_legal

    abbrev Serves : Type 0
    Serves = ClosesServed world lanes runs.settings.workers connections runs.keep before.lanes before.hands after.lanes after.hands runs.serves.closed end

    lanes_there : (serves : Serves) → lanes ≤ length serves.opened
    lanes_there serves = omega (arith, few, lanes_eight, opened_length world.doors lanes before.lanes serves.opened serves.opens)

    hands_there : runs.settings.workers ≤ length before.hands
    hands_there = omega (arith, workers_range.1, hands_sixteen)

    ledger_of : (serves : Serves) → runs.serves.added ≡ items_of serves.ran.history.turns → KeepTheLedger world serves
    ledger_of serves is =
        ledger world lists laws serves runs.settings opened_by (legal_of (items_of serves.ran.history.turns) is) (lanes_there serves) hands_there workers_range.0

    -- how lanes and workers ended where neither doors nor the disk failed
    well_of : (serves : Serves) → runs.serves.added ≡ items_of serves.ran.history.turns → (SomeRose world.doors before.lanes after.lanes → ⊥)
        → Stays (world.disks.faults before.disk) (world.disks.faults after.disk)
        → (status_of end ≡ 0) ⊎ ((status_of end ≡ 1) ⊎ (((status_of end ≡ 11) × RecordPasses (runs.keep.entries ++ items_of serves.ran.history.turns))
        ⊎ ((status_of end ≡ 23) × (world.closes ≡ true))))
    well_of serves is doors_stay disk_stays =
        let legal = legal_of (items_of serves.ran.history.turns) is in
        ends_well world lists laws serves runs.settings opened_by legal (lanes_there serves) hands_there workers_range.0 doors_stay
        (none_rises_by world lists laws serves runs.settings opened_by legal (lanes_there serves) hands_there workers_range.0
        (world.disks.faults before.disk) runs.starts.counts
        (λ rose. disk_stays (subst (λ n. Rose (world.disks.faults before.disk) n) (sym (ap world.disks.faults runs.serves.left_is)) rose)))

    -- an entry is in doubt at the end only where the disk's count rose in the run
    caused : {serves : Serves} → KeepTheLedger world serves
        → IsTold (world.disks.state before.disk) → (runs.serves.closed.keep.doubt ≡ None) ⊎ Rose (world.disks.faults before.disk) (world.disks.faults after.disk)
    caused kept told = ⊎_elim
        (λ none. inl none)
        (λ rose. inr (⊎_elim
        (λ less. inl (omega (arith, less, runs.starts.counts, ap world.disks.faults runs.serves.left_is)))
        (λ most. inr (omega (arith, most, ap world.disks.faults runs.serves.left_is))) rose))
        (kept.sure.doubt (runs.starts.told ∙ told) runs.starts.settled)

    pub kept_where_served : KeptWhereServed world runs.serves.closes
    kept_where_served = by runs.serves.closes
      where
        by : (closes : Closes world lanes runs.settings.workers connections
            runs.keep before.lanes before.hands after.lanes after.hands runs.serves.closed end runs.serves.added)
            → KeptWhereServed world closes
        by (inl unserved) = tt
        by (inr served) = ledger_of served.0 served.1

    -- what lanes and workers leave, that began since the status is no early one, and whose list is so
    leaves_list : (IsSo : List Entry → Type 0) → (is_early (status_of end) ≡ true → ⊥)
        → ((serves : Serves) → runs.serves.added ≡ items_of serves.ran.history.turns → IsSo (runs.keep.entries ++ items_of serves.ran.history.turns))
        → LeavesList world.disks IsSo before.disk after.disk
    leaves_list IsSo late so = by runs.serves.closes
      where
        by : Closes world lanes runs.settings.workers connections
            runs.keep before.lanes before.hands after.lanes after.hands runs.serves.closed end runs.serves.added
            → LeavesList world.disks IsSo before.disk after.disk
        by (inl unserved) = absurd (late (no_lane_status world.doors before.lanes after.lanes end unserved.0.why))
        by (inr served) =
            let sure = (ledger_of served.0 served.1).sure in
            let told_stays : (world.disks.state runs.serves.closed.keep.disk).told ≡ (world.disks.state before.disk).told = sure.told ∙ runs.starts.told in
            record {
              keep = runs.serves.closed.keep;
              disk_is = runs.serves.left_is;
              filled = behind.filled;
              told = ap (λ d. (world.disks.state d).told) runs.serves.left_is ∙ told_stays;
              holds = λ told. behind.holds (told_stays ∙ told);
              counts = omega (arith, runs.starts.counts, sure.counts, ap world.disks.faults runs.serves.left_is);
              cause = λ told. caused (ledger_of served.0 served.1) told;
              is_so = subst IsSo (sym (behind.listed ∙ ap (λ l. runs.keep.entries ++ l) served.1)) (so served.0 served.1);
            }

    pub leaves_disk : status_of end ≡ 0 → LeavesDisk world.disks before.disk after.disk
    leaves_disk zero_is = leaves_list LeavesNothing (λ early. late_zero (status_of end) early zero_is) (λ serves is.
        let worst = worked_worst (map (λ (booth : Booth D A C L). booth.end) serves.ran.booths)
        (map (λ (station : Station D E C W). station.end) serves.ran.stations)
        (sym serves.ran.ended ∙ served_zero serves.served (ap status_of (sym serves.ended) ∙ zero_is)) in
        let drained = drained_all worker_ends.Drained serves.ran.stations worst
        (ended_all (stations_before world serves) serves.ran.stations serves.ran.worked) in
        (ledger_of serves is).nothing_left drained)

    pub leaves_none_out : status_of end ≡ 23 → LeavesNoneOut world.disks before.disk after.disk
    leaves_none_out stop_is = leaves_list (λ entries. out_of_list entries ≡ []) (λ early. late_stop (status_of end) early stop_is) (λ serves is.
        let worst = stopped_worst (map (λ (booth : Booth D A C L). booth.end) serves.ran.booths)
        (map (λ (station : Station D E C W). station.end) serves.ran.stations)
        (sym serves.ran.ended ∙ served_stopped serves.served (ap status_of (sym serves.ended) ∙ stop_is)) in
        let rest = rest_all worker_ends.Drained serves.ran.stations worst (ended_all (stations_before world serves) serves.ran.stations serves.ran.worked) in
        (ledger_of serves is).none_out rest)

  -- what comes of a run that nothing was in the way of
  module _ (lanes : ℕ) (connections : Option ℕ) (text : Option (List ℕ)) (before after : ManyThreads D A E C W L) (end : RunEnd) (tally : Tally)
      (rules : BreaksNoRule text (world.disks.state before.disk)) (disk_stays : Stays (world.disks.faults before.disk) (world.disks.faults after.disk))
      (doors_stay : SomeRose world.doors before.lanes after.lanes → ⊥) (lanes_eight : length before.lanes ≡ MAX_LANES) (few : lanes ≤ MAX_LANES) (hands_sixteen : length before.hands ≡ MAX_WORKERS)
      (not_command : status_of end ≢ 2) (not_unread : status_of end ≢ 8) where
    -- a text of settings that breaks no rule breaks none
    not_broken : (given : Option (List ℕ)) (fault : SettingsFault) → HasGoodSettings given → IfSome given (λ bytes. settings_of bytes ≡ Err fault) → ⊥
    not_broken None fault good is = good
    not_broken (Some bytes) fault good is = clash (sym (subst (λ (r : Result SettingsData SettingsFault). IsOk r) is good))
      where
        clash : true ≡ false → ⊥
        clash same = absurd cc

    not_damaged : (offset : ℕ) → ((world.disks.state before.disk).seen ≡ []) ⊎ IsUndamaged (world.disks.state before.disk).seen
        → (IsTold (world.disks.state before.disk) → ((world.disks.state before.disk).seen ≢ []) × IsDamaged (world.disks.state before.disk).seen offset) → ⊥
    not_damaged offset (inl empty) cause = (cause rules.told).0 empty
    not_damaged offset (inr good) cause = good offset (cause rules.told).1

    by_stop : (found : RunEnd) → end ≡ found → IsStop world.disks text before.moments after.moments before.disk after.disk found
        → (status_of end ≡ 1) ⊎ ((status_of end ≡ 11) × RestartPasses text (world.disks.state before.disk) before.moments)
    by_stop run_ends.NoCommand is stop = absurd (not_command (ap status_of is))
    by_stop run_ends.SettingsUnread is stop = absurd (not_unread (ap status_of is))
    by_stop (run_ends.SettingsRule rule) is stop = absurd (not_broken text stop.0.fault rules.settings stop.0.told)
    by_stop run_ends.DiskFailed is stop = absurd (disk_stays stop.cause)
    by_stop (run_ends.Damaged offset) is stop = absurd (not_damaged offset rules.journal stop.cause)
    by_stop (run_ends.JournalFull used) is stop =
        let own = stop.cause.1 rules.told in
        inr (
          ap status_of is,
          record {
            settings = stop.settings;
            read = stop.read;
            now = stop.now;
            later = after.moments;
            moment = stop.moment;
            opening = own.0;
            opens = own.1.0;
            passes = subst (λ (n : ℕ). fits n (restart_at stop.now stop.settings) ≡ false) own.1.1 stop.cause.0;
          },
        )
    by_stop run_ends.NoMemory is stop = inl (ap status_of is)
    by_stop (run_ends.Session found) is stop = absurd stop
    by_stop (run_ends.Shown whole) is stop = absurd stop
    by_stop run_ends.SourcesUnmade is stop = absurd stop
    by_stop run_ends.LineUnwritten is stop = absurd stop
    by_stop run_ends.DoorsFailed is stop = absurd stop
    by_stop (run_ends.Served found) is stop = absurd stop
    by_stop (run_ends.Errand found) is stop = absurd stop

    by_unserved : (found : RunEnd) → end ≡ found → WhyNoLane world.doors before.lanes after.lanes found → status_of end ≡ 1
    by_unserved run_ends.NoMemory is why = ap status_of is
    by_unserved run_ends.DoorsFailed is why = absurd (doors_stay why)
    by_unserved run_ends.NoCommand is why = absurd why
    by_unserved run_ends.SettingsUnread is why = absurd why
    by_unserved (run_ends.SettingsRule rule) is why = absurd why
    by_unserved run_ends.DiskFailed is why = absurd why
    by_unserved (run_ends.Damaged offset) is why = absurd why
    by_unserved (run_ends.JournalFull used) is why = absurd why
    by_unserved (run_ends.Session found) is why = absurd why
    by_unserved (run_ends.Shown whole) is why = absurd why
    by_unserved run_ends.SourcesUnmade is why = absurd why
    by_unserved run_ends.LineUnwritten is why = absurd why
    by_unserved (run_ends.Served found) is why = absurd why
    by_unserved (run_ends.Errand found) is why = absurd why

    pub finishes : (ran : IsServingRun world lanes connections end tally text before
        after) → Finishes world ran
    finishes (inl stops) = by_stop end refl stops.stop
    finishes (inr runs) = by runs.serves.closes
      where
        by : (closes : Closes world lanes runs.settings.workers connections
            runs.keep before.lanes before.hands after.lanes after.hands runs.serves.closed end runs.serves.added)
            → EndsWell world closes
        by (inl unserved) = by_unserved end refl unserved.0.why
        by (inr served) = well_of runs lanes_eight few hands_sixteen served.0 served.1 doors_stay disk_stays

  pub run_leaves_disk : {lanes : ℕ} {connections : Option ℕ} {text : Option (List ℕ)} {before after : ManyThreads D A E C W L} {end : RunEnd} {tally : Tally}
      → IsServingRun world lanes connections end tally text before after
      → status_of end ≡ 0 → length before.lanes ≡ MAX_LANES → lanes ≤ MAX_LANES → length before.hands ≡ MAX_WORKERS → LeavesDisk world.disks before.disk after.disk
  run_leaves_disk {text = text} {before = before} {after = after} {end = end} (inl stops) zero_is lanes_eight few hands_sixteen =
      absurd (late_zero (status_of end) (stop_status world.disks text before.moments after.moments before.disk after.disk end stops.stop) zero_is)
  run_leaves_disk (inr runs) zero_is lanes_eight few hands_sixteen = leaves_disk runs lanes_eight few hands_sixteen zero_is

  pub run_leaves_none_out : {lanes : ℕ} {connections : Option ℕ} {text : Option (List ℕ)} {before after : ManyThreads D A E C W L} {end : RunEnd} {tally : Tally}
      → IsServingRun world lanes connections end tally text before after
      → status_of end ≡ 23 → length before.lanes ≡ MAX_LANES → lanes ≤ MAX_LANES → length before.hands ≡ MAX_WORKERS
      → LeavesNoneOut world.disks before.disk after.disk
  run_leaves_none_out {text = text} {before = before} {after = after} {end = end} (inl stops) stop_is lanes_eight few hands_sixteen =
      absurd (late_stop (status_of end) (stop_status world.disks text before.moments after.moments before.disk after.disk end stops.stop) stop_is)
  run_leaves_none_out (inr runs) stop_is lanes_eight few hands_sixteen = leaves_none_out runs lanes_eight few hands_sixteen stop_is
