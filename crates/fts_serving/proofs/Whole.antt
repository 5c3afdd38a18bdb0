-- What is known of each pass in the one list of turns, by its number.
use Rattle.std.proofs.Common.{◌≡◌, sym, ap, ◌∙◌, subst, ℕ, Bool, true, List, [], ◌∷◌, ◌++◌, Option}
use Rattle.fts_tables.specs.History.{IsLegal}
use Rattle.fts_tables.specs.declared.commands.Entry.{Entry}
use Rattle.fts_turnstile.specs.declared.turn.LoggedTurn.{LoggedTurn}
use Rattle.fts_turnstile.specs.History.{AllNamed, NoneBy, OnlyOthersSince, items_of}
use Rattle.fts_turnstile.specs.Passes.{PassView, IsSame}
use Rattle.fts_shop.specs.Looking.{LeaveLanes, NoneOf}
use Rattle.fts_shop.specs.Shops.{writer_of}
use Rattle.fts_shop.specs.Workers.{StationData, WorkerDone}
use Rattle.fts_service.specs.Booths.{booth_data}
use Rattle.fts_service.specs.Halls.{IsBoothServed}
use Rattle.fts_service.specs.Lanes.{Sides}
use Rattle.fts_service.specs.declared.lane.Booth.{Booth}
use Rattle.fts_ledger.specs.Ledger.{KeepsLedger, MayKeep}
use Rattle.fts_ledger.specs.Fitting.{FitsPass}
use Rattle.fts_ledger.specs.Reports.{AddsAsked, AddsWork, ReportsOwn}
use Rattle.fts_serving.specs.Cited.{Laws}
use Rattle.fts_serving.proofs.Lanes.{ended_asked, ended_there, ended_turns, lane_ended}
use Rattle.fts_serving.proofs.Open.{LaneTurns, has_turn, none_there}
use Rattle.fts_serving.proofs.Own.{leave_none, leave_on, none_items, named_back}
use Rattle.fts_serving.proofs.Stations.{worker_leaves}
use Rattle.fts_store.specs.declared.store.Store as store
use Rattle.fts_service.specs.declared.doors.Doors as doors
use Rattle.fts_tables.specs.declared.clock.Clock as clock

-- a pass that has seen a beginning of the turns, behind which none is its own
pub record Sees (turns : List (LoggedTurn Entry)) (old new : PassView Entry) : Type 0 where
  pub later : List (LoggedTurn Entry)
  pub is : turns ≡ new.seen ++ later
  pub none : NoneBy (old.number ∷ []) later

-- the turns that it sees, by its number from before
pub sees : (turns : List (LoggedTurn Entry)) (old new : PassView Entry) → IsSame old new → OnlyOthersSince (new.number ∷ []) new.seen turns → Sees turns old new
sees turns old new same since = record {
  later = since.0;
  is = since.1;
  none = subst (λ n. NoneBy (n ∷ []) since.0) same.3 since.2;
}

-- what is known of a lane's pass, and of a worker's
pub record OfLane (turns : List (LoggedTurn Entry)) (pass : PassView Entry) : Type 0 where
  pub asked : AddsAsked pass.number (items_of turns)
  pub lane : LaneTurns pass.number pass.opening_shows turns
  pub there : has_turn pass.number turns ≡ true

pub record OfWorker (turns : List (LoggedTurn Entry)) (pass : PassView Entry) : Type 0 where
  pub work : AddsWork pass.number (items_of turns)
  pub own : ReportsOwn pass.number pass.opening [] (items_of turns)
  pub leaves : LeaveLanes pass.number pass.opening_shows turns

pub of_lane : {D A C L : Type 0} (sides : Sides L) (all_doors : doors.Ghosts A L) (clocks : clock.Ghosts C) (connections : Option ℕ)
    (turns : List (LoggedTurn Entry)) (old new : Booth D A C L) → old.pass.seen ≡ [] → AllNamed writer_of turns
    → OnlyOthersSince (new.pass.number ∷ []) new.pass.seen turns
    → IsBoothServed sides all_doors clocks connections old new → OfLane turns old.pass
of_lane sides all_doors clocks connections turns old new unseen named since served =
    let done = served.1 in
    let ended = lane_ended sides connections (booth_data clocks all_doors old).standing (booth_data clocks all_doors new).standing
    (booth_data clocks all_doors old).doors (booth_data clocks all_doors new).doors _ done.stop unseen done.done in
    let seen = sees turns old.pass new.pass served.0 since in
    record {
      asked = subst (λ t. AddsAsked old.pass.number (items_of t)) (sym seen.is)
          (ended_asked old.pass new.pass seen.later ended seen.none (subst (AllNamed writer_of) seen.is named));
      lane = subst (LaneTurns old.pass.number old.pass.opening_shows) (sym seen.is)
          (ended_turns old.pass new.pass seen.later ended seen.none (none_there old.pass.number seen.later seen.none));
      there = ap (has_turn old.pass.number) seen.is ∙ ended_there old.pass new.pass seen.later ended;
    }

module _ {E : Type 0} (stores : store.Ghosts E) (laws : Laws stores)
    (turns : List (LoggedTurn Entry)) (old new : StationData E) (unseen : old.pass.seen ≡ []) (empty : old.held ≡ [])
    (legal : IsLegal (old.pass.opening ++ items_of turns)) {closes : Bool} (done : WorkerDone stores closes old new)
    (since : OnlyOthersSince (new.pass.number ∷ []) new.pass.seen turns) where
  pub seen : Sees turns old.pass new.pass
  seen = sees turns old.pass new.pass done.same since

  unadded : NoneOf old.pass.number (items_of old.pass.seen)
  unadded = subst (λ t. NoneOf old.pass.number (items_of t)) (sym unseen) tt

  -- the worker's pass may keep the ledger, and does
  pub may : MayKeep old.pass new.pass old.held
  may = record {
    legal = laws.legal new.pass seen.later
        (subst (λ t. IsLegal (new.pass.opening ++ items_of t)) seen.is
        (subst (λ o. IsLegal (o ++ items_of turns)) (sym done.same.1) legal));
    fits = subst (FitsPass old.pass) (sym empty) (laws.begins old.pass unadded);
  }

  pub keeps : KeepsLedger old.pass new.pass new.held
  keeps = laws.worker closes old new done may

  none_later : AllNamed writer_of turns → NoneOf old.pass.number (items_of seen.later)
  none_later named = none_items old.pass.number seen.later seen.none (named_back new.pass.seen seen.later (subst (AllNamed writer_of) seen.is named))

  pub of_worker : AllNamed writer_of turns → OfWorker turns old.pass
  of_worker named =
      let left = worker_leaves stores old new unseen done in
      record {
        work = subst (λ t. AddsWork old.pass.number (items_of t)) (sym seen.is) (laws.work old.pass new.pass new.held seen.later keeps unadded (none_later named));
        own = subst (λ t. ReportsOwn old.pass.number old.pass.opening [] (items_of t)) (sym seen.is)
            (laws.own old.pass new.pass new.held seen.later keeps unadded (none_later named));
        leaves = subst (LeaveLanes old.pass.number old.pass.opening_shows) (sym seen.is)
            (leave_on old.pass.number old.pass.opening_shows new.pass.seen seen.later
            (subst (λ n. LeaveLanes n old.pass.opening_shows new.pass.seen) left.same.3
            (subst (λ l. LeaveLanes new.pass.number l new.pass.seen) left.same.2 left.leaves))
            (leave_none old.pass.number _ seen.later seen.none));
      }
