-- What a lane's pass adds and shows: client's commands alone, and one lane less in its last turn.
use Rattle.std.proofs.Common.{◌≡◌, refl, sym, ap, ◌∙◌, subst, inl, ℕ, ◌-◌, true, false, cond, List, [], ◌∷◌, ◌++◌, Option, append_assoc}
use Rattle.fts_tables.specs.declared.commands.Entry.{Entry}
use Rattle.fts_turnstile.specs.declared.turn.LoggedTurn.{LoggedTurn}
use Rattle.fts_turnstile.specs.History.{AllNamed, NoneBy, items_of, shown_after}
use Rattle.fts_turnstile.specs.Passes.{PassView, IsSame}
use Rattle.fts_wire.specs.RequestData.{RequestData}
use Rattle.fts_wire.specs.declared.response.Reply.{Reply}
use Rattle.fts_shop.specs.Looking.{LeaveLanes}
use Rattle.fts_shop.specs.Looked.{items_on, same_on}
use Rattle.fts_shop.specs.Shops.{KeepsLanes, TakesTurn, ShowsOn, lanes_shown, point, writer_of}
use Rattle.fts_session.specs.Connections.{AreServed, Exchange, LastAnswered}
use Rattle.fts_service.specs.Doors.{DoorsData}
use Rattle.fts_service.specs.Lanes.{AnswersInTurn, AreLinesServed, IsServed, LaneDone, Sides, Standing, Stays}
use Rattle.fts_service.specs.declared.lane.LaneStop.{LaneStop}
use Rattle.fts_ledger.specs.Reports.{AddsAsked}
use Rattle.fts_serving.proofs.Asked.{AllAsked, said_asked}
use Rattle.fts_serving.proofs.Open.{LaneTurns, has_turn, there}
use Rattle.fts_serving.proofs.Own.{asked_none, asked_on, none_items, turn_asked, turn_leaves, before_leaves, named_back}

-- a pass that has added client's commands alone, and has left the lanes
pub record InLane (base pass : PassView Entry) : Type 0 where
  pub same : IsSame base pass
  pub asked : AddsAsked pass.number (items_of pass.seen)
  pub leaves : LeaveLanes pass.number pass.opening_shows pass.seen

-- one turn more
turn_on : (base : PassView Entry) {old new : PassView Entry} → InLane base old → (taken : TakesTurn old new) → KeepsLanes taken → AllAsked taken.turn.items
    → InLane base new
turn_on base {old} {new} was taken keeps asked = record {
  same = same_on base old new was.same taken.same;
  asked = subst (λ n. AddsAsked n (items_of new.seen)) (sym taken.same.3) (turn_asked taken was.asked asked);
  leaves = subst (λ n. LeaveLanes n new.opening_shows new.seen) (sym taken.same.3)
      (subst (λ l. LeaveLanes old.number l new.seen) (sym taken.same.2) (turn_leaves taken was.leaves keeps));
}

module _ (base : PassView Entry) where
  answer_on : {old new : Standing} {request : RequestData} {reply : Reply} → InLane base old.pass → AnswersInTurn old request reply new → InLane base new.pass
  answer_on {old} {new} {request} {reply} was answers =
      let one = answers.answered in
      turn_on base was one.taken one.lanes
      (subst AllAsked (sym one.added)
      (said_asked one.way (point one.taken) one.bodies old.pass.number request answers.now))

  served_on : (old : Standing) (exchanges : List Exchange) (new : Standing) → InLane base old.pass → AreServed AnswersInTurn Stays old exchanges new
      → InLane base new.pass
  served_on old [] new was served = subst (λ (s : Standing). InLane base s.pass) (sym served) was
  served_on old (exchange ∷ exchanges) new was served =
      served_on served.1.0 exchanges new
      (subst (λ (s : Standing). InLane base s.pass) (sym served.1.1.1.0) (answer_on was served.1.1.0))
      served.1.1.1.1

  last_on : (old : Standing) (exchanges : List Exchange) (new : Standing) → InLane base old.pass → LastAnswered AnswersInTurn Stays old exchanges new
      → InLane base new.pass
  last_on old [] new was served = subst (λ (s : Standing). InLane base s.pass) (sym served) was
  last_on old (exchange ∷ []) new was served = answer_on was served
  last_on old (exchange ∷ next ∷ more) new was served = absurd served

  module _ {L : Type 0} (sides : Sides L) where
    line_on : (old : Standing) (line : L × L) (new : Standing) → InLane base old.pass → IsServed sides old line new → InLane base new.pass
    line_on old line new was served =
        let one = served.served in
        last_on one.middle one.last new (served_on old one.served one.middle was one.answered) one.unwritten

    lines_on : (old : Standing) (lines : List (L × L)) (new : Standing) → InLane base old.pass → AreLinesServed sides old lines new → InLane base new.pass
    lines_on old [] new was served = subst (λ (s : Standing). InLane base s.pass) (sym served) was
    lines_on old (line ∷ lines) new was served = lines_on served.0 lines new (line_on old line served.0 was served.1.0) served.1.1

-- a lane has ended: in its last turn it left one lane less, and in no other turn any; and each goes on from what was shown
pub record LaneEnded (base pass : PassView Entry) : Type 0 where
  pub same : IsSame base pass
  pub asked : AddsAsked base.number (items_of pass.seen)
  pub before : List (LoggedTurn Entry)
  pub turn : LoggedTurn Entry
  pub seen : pass.seen ≡ before ++ turn ∷ []
  pub mine : turn.number ≡ base.number
  pub leaves : LeaveLanes base.number base.opening_shows before
  pub one_less : lanes_shown turn.shows ≡ lanes_shown (shown_after base.opening_shows before) - 1
  pub on : ShowsOn base.number (shown_after base.opening_shows before) turn.shows

pub lane_ended : {L : Type 0} (sides : Sides L) (connections : Option ℕ) (old new : Standing) (doors doors_now : DoorsData L) (rose : Type 0) (stop : LaneStop)
    → old.pass.seen ≡ [] → LaneDone sides connections old new doors doors_now rose stop → LaneEnded old.pass new.pass
lane_ended sides connections old new doors doors_now rose stop unseen done =
    let base = old.pass in
    let begun : InLane base base = record {
      same = (refl, refl, refl, refl, refl, refl);
      asked = subst (λ l. AddsAsked base.number (items_of l)) (sym unseen) tt;
      leaves = subst (LeaveLanes base.number base.opening_shows) (sym unseen) tt;
    } in
    let was = lines_on base sides old done.served.lines done.between begun done.served.serves.served in
    let ends = done.ends in
    let between = done.between.pass in
    let number : between.number ≡ base.number = was.same.3 in
    let shows : between.opening_shows ≡ base.opening_shows = was.same.2 in
    let seen = between.seen ++ ends.taken.between in
    record {
      same = same_on base between new.pass was.same ends.taken.same;
      asked = subst (λ n. AddsAsked n (items_of new.pass.seen)) number
          (turn_asked ends.taken was.asked (subst AllAsked (sym ends.nothing) tt));
      before = seen;
      turn = ends.taken.turn;
      seen = ends.taken.seen;
      mine = ends.taken.mine ∙ number;
      leaves = subst (λ n. LeaveLanes n base.opening_shows seen) number
          (subst (λ l. LeaveLanes between.number l seen) shows (before_leaves ends.taken was.leaves));
      one_less = subst (λ l. lanes_shown ends.taken.turn.shows ≡ lanes_shown (shown_after l seen) - 1) shows ends.one_less;
      on = subst (λ n. ShowsOn n (shown_after base.opening_shows seen) ends.taken.turn.shows) number
          (subst (λ l. ShowsOn between.number (shown_after l seen) ends.taken.turn.shows) shows ends.taken.on);
    }

-- in all turns the lane's last one stands where no other of its own follows
lane_turns : (number : ℕ) (shown : List ℕ) (before : List (LoggedTurn Entry)) (turn : LoggedTurn Entry) (later : List (LoggedTurn Entry)) → LeaveLanes number shown before
    → turn.number ≡ number → lanes_shown turn.shows ≡ lanes_shown (shown_after shown before) - 1
    → ShowsOn number (shown_after shown before) turn.shows → NoneBy (number ∷ []) later
    → has_turn number later ≡ false → LaneTurns number shown (before ++ turn ∷ later)
lane_turns number shown [] turn later leaves mine one_less on none has =
    ((λ is. (one_less ∙ sym (ap (λ b. cond {A = ℕ} b (lanes_shown shown) (lanes_shown shown - 1)) has), on)), none_turns number turn.shows later none)
  where
    none_turns : (number : ℕ) (shown : List ℕ) (turns : List (LoggedTurn Entry)) → NoneBy (number ∷ []) turns → LaneTurns number shown turns
    none_turns number shown [] none = tt
    none_turns number shown (one ∷ turns) none = ((λ is. absurd (none.0 (inl is))), none_turns number one.shows turns none.1)
lane_turns number shown (first ∷ before) turn later leaves mine one_less on none has = (
  (λ is. (
    (leaves.0 is).0 ∙ sym (ap (λ b. cond {A = ℕ} b (lanes_shown shown) (lanes_shown shown - 1)) (there number before turn later mine)),
    (leaves.0 is).1,
  )),
  lane_turns number first.shows before turn later leaves.1 mine one_less on none has,
)

pub ended_turns : (base pass : PassView Entry) (later : List (LoggedTurn Entry)) → LaneEnded base pass → NoneBy (base.number ∷ []) later
    → has_turn base.number later ≡ false → LaneTurns base.number base.opening_shows (pass.seen ++ later)
ended_turns base pass later ended none has =
    subst (LaneTurns base.number base.opening_shows) (sym (ap (λ l. l ++ later) ended.seen ∙ append_assoc ended.before (ended.turn ∷ []) later))
    (lane_turns base.number base.opening_shows ended.before ended.turn later ended.leaves ended.mine ended.one_less ended.on none has)

pub ended_there : (base pass : PassView Entry) (later : List (LoggedTurn Entry)) → LaneEnded base pass → has_turn base.number (pass.seen ++ later) ≡ true
ended_there base pass later ended =
    ap (has_turn base.number) (ap (λ l. l ++ later) ended.seen ∙ append_assoc ended.before (ended.turn ∷ []) later)
    ∙ there base.number ended.before ended.turn later ended.mine

-- what it added in all turns
pub ended_asked : (base pass : PassView Entry) (later : List (LoggedTurn Entry)) → LaneEnded base pass → NoneBy (base.number ∷ []) later
    → AllNamed writer_of (pass.seen ++ later) → AddsAsked base.number (items_of (pass.seen ++ later))
ended_asked base pass later ended none named =
    subst (AddsAsked base.number) (sym (items_on pass.seen later))
    (asked_on base.number (items_of pass.seen) (items_of later) ended.asked
    (asked_none base.number (items_of later) (none_items base.number later none (named_back pass.seen later named))))
