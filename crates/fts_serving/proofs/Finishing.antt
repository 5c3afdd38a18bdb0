-- How a run that serves ends where nothing is in its way, and the lines of its lanes.
use Rattle.std.proofs.Common.{◌≡◌, ◌≢◌, ◌⊎◌, refl, sym, ap, ◌∙◌, subst, inl, inr, ⊎_elim, ℕ, zero, suc, ◌≤◌, Bool, true, false, cond, List, [], ◌∷◌, ◌++◌, length, map, Option, Some, None, arith}
use Rattle.std.specs.Prelude.{◌||◌, nat_lt, unwrap_or}
use Rattle.std.specs.List.{list_any}
use Rattle.fts_tables.specs.Counts.{Rose}
use Rattle.fts_tables.specs.declared.commands.Entry.{Entry}
use Rattle.fts_turnstile.specs.declared.turn.LoggedTurn.{LoggedTurn}
use Rattle.fts_turnstile.specs.History.{shown_after}
use Rattle.fts_turnstile.specs.Passes.{PassView}
use Rattle.fts_wire.specs.RoomData.{RoomData}
use Rattle.fts_shop.specs.Many.{Each}
use Rattle.fts_shop.specs.Shops.{faults_shown}
use Rattle.fts_shop.specs.declared.ends.WorkerEnd.{WorkerEnd}
use Rattle.fts_shop.specs.declared.ends.WorkerEnd.TheVariants as worker_ends
use Rattle.fts_shop.specs.declared.station.Station.{Station}
use Rattle.fts_service.specs.Booths.{booth_data}
use Rattle.fts_top.specs.Ends.{end_when_served}
use Rattle.fts_service.specs.Halls.{IsBoothServed}
use Rattle.fts_service.specs.Lanes.{IsStop as IsLaneStop, Sides}
use Rattle.fts_service.specs.Openings.{AreOpened, SomeRose}
use Rattle.fts_service.specs.Seats.{booths_of}
use Rattle.fts_service.specs.Served.{are_doors_failed, served_end, severity_of, worse_of, worst_from, worst_of}
use Rattle.fts_top.specs.declared.ends.RunEnd.{RunEnd}
use Rattle.fts_top.specs.declared.ends.RunEnd.TheVariants as run_ends
use Rattle.fts_service.specs.declared.lane.Booth.{Booth}
use Rattle.fts_service.specs.declared.lane.Lane.{Lane}
use Rattle.fts_service.specs.declared.lane.LaneStop.{LaneStop}
use Rattle.fts_service.specs.declared.lane.LaneStop.TheVariants as lane_stops
use Rattle.fts_service.specs.declared.together.ServedEnd.TheVariants as served_ends
use Rattle.fts_serving.specs.Finishes.{IsAccountedFor, NoneRises}
use Rattle.fts_service.specs.declared.doors.Doors as doors
use Rattle.fts_tables.specs.declared.clock.Clock as clock

-- no turn rises that shows no more than before
pub none_rises_at : (shown : List ℕ) (before : List (LoggedTurn Entry)) (turn : LoggedTurn Entry) (later : List (LoggedTurn Entry)) → NoneRises shown (before ++ turn ∷ later)
    → Rose (faults_shown (shown_after shown before)) (faults_shown turn.shows) → ⊥
none_rises_at shown [] turn later none rose = none.0 rose
none_rises_at shown (first ∷ before) turn later none rose = none_rises_at first.shows before turn later none.1 rose

-- an end among these
abbrev pub SomeEnds : WorkerEnd → List (Option WorkerEnd) → Type 0
SomeEnds end [] = ⊥
SomeEnds end (first ∷ ends) = (first ≡ Some end) ⊎ SomeEnds end ends

worse_is : (one other end : WorkerEnd) → worse_of one other ≡ end → (one ≡ end) ⊎ (other ≡ end)
worse_is one other end is = by (nat_lt (severity_of one) (severity_of other)) is
  where
    by : (less : Bool) → cond less other one ≡ end → (one ≡ end) ⊎ (other ≡ end)
    by true found = inr found
    by false found = inl found

-- the worst of ends is one of them, or what it is compared with first
worst_is : (worst end : WorkerEnd) (ends : List (Option WorkerEnd)) → end ≢ worker_ends.Drained → worst_from worst ends ≡ end
    → (worst ≡ end) ⊎ SomeEnds end ends
worst_is worst end [] unlike is = inl is
worst_is worst end (first ∷ ends) unlike is = ⊎_elim
    (λ found. ⊎_elim (λ same. inl same) (λ same. inr (inl (one first same))) (worse_is worst (unwrap_or first worker_ends.Drained) end found))
    (λ behind. inr (inr behind))
    (worst_is (worse_of worst (unwrap_or first worker_ends.Drained)) end ends unlike is)
  where
    one : (found : Option WorkerEnd) → unwrap_or found worker_ends.Drained ≡ end → found ≡ Some end
    one None same = absurd (unlike (sym same))
    one (Some found) same = ap Some same

-- a worst end that isn't drained is one of the ends
pub some_end : (end : WorkerEnd) (ends : List (Option WorkerEnd)) → end ≢ worker_ends.Drained → worst_of ends ≡ end → SomeEnds end ends
some_end end ends unlike is = ⊎_elim (λ same. absurd (unlike (sym same))) (λ found. found) (worst_is worker_ends.Drained end ends unlike is)

-- a worker that ended so
pub record EndedBy {S : Type 0} (R : S → S → Type 0) (end_of : S → Option WorkerEnd) (end : WorkerEnd) : Type 0 where
  pub old : S
  pub new : S
  pub holds : R old new
  pub ended : end_of new ≡ Some end

pub ended_by : {D E C W : Type 0} (R : Station D E C W → Station D E C W → Type 0) (end : WorkerEnd) (olds news : List (Station D E C W)) → Each R olds news
    → SomeEnds end (map (λ (station : Station D E C W). station.end) news) → EndedBy R (λ (station : Station D E C W). station.end) end
ended_by R end [] [] each some = absurd some
ended_by R end [] (new ∷ news) each some = absurd each
ended_by R end (old ∷ olds) [] each some = absurd each
ended_by R end (old ∷ olds) (new ∷ news) each some = ⊎_elim
    (λ here. record { old = old; new = new; holds = each.0; ended = here })
    (λ there. ended_by R end olds news each.1 there)
    some

-- lanes
module _ (D : Type 0) {A C L : Type 0} (all_doors : doors.Ghosts A L) (sides : Sides L) (clocks : clock.Ghosts C) (connections : Option ℕ) where
  -- doors that failed rose
  pub doors_rose : (lanes : List (Lane A C L)) (rooms : List RoomData) (passes : List (PassView Entry)) (booths : List (Booth D A C L)) (rest : List (Lane A C L))
      → Each (IsBoothServed sides all_doors clocks connections) (booths_of lanes rooms passes) booths
      → list_any are_doors_failed (map (λ (booth : Booth D A C L). booth.end) booths) ≡ true
      → SomeRose all_doors lanes (map (λ (booth : Booth D A C L). booth.lane) booths ++ rest)
  doors_rose lanes [] passes [] rest each is = absurd cc
  doors_rose lanes [] passes (booth ∷ booths) rest each is = absurd each
  doors_rose [] (room ∷ rooms) passes [] rest each is = absurd cc
  doors_rose [] (room ∷ rooms) passes (booth ∷ booths) rest each is = absurd each
  doors_rose (lane ∷ lanes) (room ∷ rooms) [] [] rest each is = absurd cc
  doors_rose (lane ∷ lanes) (room ∷ rooms) [] (booth ∷ booths) rest each is = absurd each
  doors_rose (lane ∷ lanes) (room ∷ rooms) (pass ∷ passes) [] rest each is = absurd each
  doors_rose (lane ∷ lanes) (room ∷ rooms) (pass ∷ passes) (booth ∷ booths) rest each is =
      by_stop each.0.1.stop each.0.1.done.served.stops each.0.1.ended (doors_rose lanes rooms passes booths rest each.1)
    where
      by_failed : (failed : Bool) → are_doors_failed booth.end ≡ failed
          → (list_any are_doors_failed (map (λ (b : Booth D A C L). b.end) booths) ≡ true
          → SomeRose all_doors lanes (map (λ (b : Booth D A C L). b.lane) booths ++ rest))
          → failed ≡ false → SomeRose all_doors (lane ∷ lanes) (booth.lane ∷ map (λ (b : Booth D A C L). b.lane) booths ++ rest)
      by_failed true at behind none = absurd (let clash : true ≡ false = none in cc)
      by_failed false at behind none =
          inr (behind (sym (ap (λ b. b || list_any are_doors_failed (map (λ (b : Booth D A C L). b.end) booths)) at) ∙ is))

      by_stop : (stop : LaneStop) → IsLaneStop sides connections (length each.0.1.done.served.lines) (booth_data clocks all_doors booth).doors
          (Rose (all_doors.faults lane.doors) (all_doors.faults booth.lane.doors)) stop → booth.end ≡ Some stop
          → (list_any are_doors_failed (map (λ (b : Booth D A C L). b.end) booths) ≡ true
          → SomeRose all_doors lanes (map (λ (b : Booth D A C L). b.lane) booths ++ rest))
          → SomeRose all_doors (lane ∷ lanes) (booth.lane ∷ map (λ (b : Booth D A C L). b.lane) booths ++ rest)
      by_stop lane_stops.NoMore stops ended behind = by_failed (are_doors_failed booth.end) refl behind (ap are_doors_failed ended)
      by_stop (lane_stops.Enough lines) stops ended behind = by_failed (are_doors_failed booth.end) refl behind (ap are_doors_failed ended)
      by_stop lane_stops.DoorsFailed stops ended behind = inl stops.1

  -- where the doors rose behind the opening, they rose
  pub rose_before : (count : ℕ) (before opened after : List (Lane A C L)) → AreOpened all_doors count before opened → SomeRose all_doors opened after
      → SomeRose all_doors before after
  rose_before zero before opened after opens rose = subst (λ l. SomeRose all_doors l after) opens rose
  rose_before (suc more) [] [] after opens rose = absurd rose
  rose_before (suc more) [] (new ∷ news) after opens rose = absurd opens
  rose_before (suc more) (old ∷ olds) [] after opens rose = absurd opens
  rose_before (suc more) (old ∷ olds) (new ∷ news) [] opens rose = absurd rose
  rose_before (suc more) (old ∷ olds) (new ∷ news) (one ∷ after) opens rose = ⊎_elim
      (λ here. inl (rose_on (all_doors.faults old.doors) (all_doors.faults new.doors) (all_doors.faults one.doors) opens.0.counts here))
      (λ there. inr (rose_before more olds news after opens.1 there))
      rose
    where
      rose_on : (a b c : ℕ) → a ≤ b → Rose b c → Rose a c
      rose_on a b c le (inl more) = inl (omega (arith, le, more))
      rose_on a b c le (inr most) = inr most

  -- the lines of a lane whose doors didn't fail
  pub accounted : (old new : Booth D A C L) → IsBoothServed sides all_doors clocks connections old new
      → Rose (all_doors.faults old.lane.doors) (all_doors.faults new.lane.doors)
      ⊎ IsAccountedFor connections (booth_data clocks all_doors old) (booth_data clocks all_doors new)
  accounted old new served = by served.1.stop served.1.done.served.stops
    where
      by : (stop : LaneStop) → IsLaneStop sides connections (length served.1.done.served.lines) (booth_data clocks all_doors new).doors
          (Rose (all_doors.faults old.lane.doors) (all_doors.faults new.lane.doors)) stop
          → Rose (all_doors.faults old.lane.doors) (all_doors.faults new.lane.doors)
          ⊎ IsAccountedFor connections (booth_data clocks all_doors old) (booth_data clocks all_doors new)
      by lane_stops.NoMore stops = inr (record { lines = served.1.done.served.lines; through = served.1.done.served.serves.through; all = inl stops.1 })
      by (lane_stops.Enough lines) stops =
          inr (record { lines = served.1.done.served.lines; through = served.1.done.served.serves.through; all = inr stops.1 })
      by lane_stops.DoorsFailed stops = inl stops.1

  -- those of all lanes, where no doors failed
  pub accounted_all : (olds news : List (Booth D A C L)) → Each (IsBoothServed sides all_doors clocks connections) olds news
      → list_any are_doors_failed (map (λ (booth : Booth D A C L). booth.end) news) ≡ false
      → Each (λ old new. IsAccountedFor connections (booth_data clocks all_doors old) (booth_data clocks all_doors new)) olds news
  accounted_all [] [] each none = tt
  accounted_all [] (new ∷ news) each none = absurd each
  accounted_all (old ∷ olds) [] each none = absurd each
  accounted_all (old ∷ olds) (new ∷ news) each none =
      let both = neither (are_doors_failed new.end) (list_any are_doors_failed (map (λ (booth : Booth D A C L). booth.end) news)) none in
      (by each.0.1.stop each.0.1.done.served.stops each.0.1.ended both.0, accounted_all olds news each.1 both.1)
    where
      neither : (one other : Bool) → (one || other) ≡ false → (one ≡ false) × (other ≡ false)
      neither true other is = absurd (let clash : true ≡ false = is in cc)
      neither false other is = (refl, is)

      by : (stop : LaneStop) → IsLaneStop sides connections (length each.0.1.done.served.lines) (booth_data clocks all_doors new).doors
          (Rose (all_doors.faults old.lane.doors) (all_doors.faults new.lane.doors)) stop → new.end ≡ Some stop → are_doors_failed new.end ≡ false
          → IsAccountedFor connections (booth_data clocks all_doors old) (booth_data clocks all_doors new)
      by lane_stops.NoMore stops ended none =
          record { lines = each.0.1.done.served.lines; through = each.0.1.done.served.serves.through; all = inl stops.1 }
      by (lane_stops.Enough lines) stops ended none =
          record { lines = each.0.1.done.served.lines; through = each.0.1.done.served.serves.through; all = inr stops.1 }
      by lane_stops.DoorsFailed stops ended none = absurd (let clash : true ≡ false = ap are_doors_failed (sym ended) ∙ none in cc)

-- how lanes and workers ended, by whether doors failed
pub failed_doors : (stops : List (Option LaneStop)) (ends : List (Option WorkerEnd)) (end : RunEnd) → end ≡ end_when_served (served_end stops ends)
    → ((list_any are_doors_failed stops ≡ true) × (end ≡ run_ends.DoorsFailed))
    ⊎ ((list_any are_doors_failed stops ≡ false) × (end ≡ run_ends.Served (worst_of ends)))
failed_doors stops ends end is = by (list_any are_doors_failed stops) refl is
  where
    by : (failed : Bool) → list_any are_doors_failed stops ≡ failed
        → end ≡ end_when_served (cond failed served_ends.DoorsFailed (served_ends.Worked (worst_of ends)))
        → ((list_any are_doors_failed stops ≡ true) × (end ≡ run_ends.DoorsFailed))
        ⊎ ((list_any are_doors_failed stops ≡ false) × (end ≡ run_ends.Served (worst_of ends)))
    by true at found = inl (at, found)
    by false at found = inr (at, found)
