-- A turn more, after which the worker goes on, or ends.
use Rattle.std.proofs.Common.{◌≡◌, ◌∙◌, inl, inr, refl, sym, ap, suc, Bool, true, false, List, Option}
use Rattle.fts_tables.specs.Coming.{Coming, RestsOnlyIf}
use Rattle.fts_shop.specs.Turns.{HandData, hand_data}
use Rattle.fts_shop.specs.Looked.{same_on}
use Rattle.fts_workers.specs.declared.held.Held.{Held}
use Rattle.fts_shop.specs.declared.ends.WorkerEnd.{WorkerEnd}
use Rattle.fts_shop.specs.declared.ends.Turn.{Turn}
use Rattle.fts_shop.specs.Workers.{IsEndAt, IsRested, StationData, TakesOne, is_restful, station_data, stopped_instead}
use Rattle.fts_shop.proofs.Worked.{turns_more, unrested}
use Rattle.fts_shop.proofs.working.worker.Goals as goal

-- the end of a worker whose last turn would end it so
end_by : {closes : Bool} {held : List Held} {would of end : Option WorkerEnd} → would ≡ of → IsEndAt closes held would end → IsEndAt closes held of end
end_by same (inl is) = inl (is ∙ same)
end_by same (inr is) = inr (is.0, is.1, is.2 ∙ ap stopped_instead same)

-- whoever did not rest has rested no more than it may
stays : (restful : Bool) (moments : Option Coming) → RestsOnlyIf restful moments moments
stays true moments = unrested moments
stays false moments = refl

no_rest : {E : Type 0} (end : Turn) (hand : HandData E) → IsRested end hand hand
no_rest end hand = record { moments = stays (is_restful end) hand.moments; store = refl; words = refl }

pub returns-in-Some-end_after : goal.returns-in-Some-end_after
returns-in-Some-end_after g c =
    let inv = c.loop.invariant in
    record {
      more = inv.turns.0;
      between = station_data g.C.Clock g.W.Words c.loop.station;
      turns = inv.turns.1;
      last = c.turn-end.result;
      ends = record { behind = hand_data g.C.Clock g.W.Words c.turn-end.new.hand; turn = c.turn-end.ensures.turn; rested = no_rest c.turn-end.result _ };
      end_is = end_by c.in-Some-end_after.ensures c.end_at.ensures;
      ended = refl;
      same = same_on c.args.station.now.pass c.loop.station.pass c.turn-end.new.pass inv.same c.turn-end.ensures.same;
      ready = c.turn-end.ensures.ready;
      places = c.turn-end.ensures.places ∙ inv.places;
    }

pub returns-then-is_stopped : goal.returns-then-is_stopped
returns-then-is_stopped g c =
    let inv = c.loop.invariant in
    record {
      more = inv.turns.0;
      between = station_data g.C.Clock g.W.Words c.loop.station;
      turns = inv.turns.1;
      last = c.turn-end.result;
      ends = record {
        behind = hand_data g.C.Clock g.W.Words c.turn-end.new.hand;
        turn = c.turn-end.ensures.turn;
        rested = record { moments = c.rest_behind.ensures; store = refl; words = refl };
      };
      end_is = inr (c.if-is_stopped.ensures.closes refl, c.if-is_stopped.ensures.nothing refl, ap stopped_instead c.in_default.ensures);
      ended = refl;
      same = same_on c.args.station.now.pass c.loop.station.pass c.turn-end.new.pass inv.same c.turn-end.ensures.same;
      ready = c.turn-end.ensures.ready;
      places = c.turn-end.ensures.places ∙ inv.places;
    }

pub loop-preserved : goal.loop-preserved
loop-preserved g c =
    let inv = c.loop.invariant in
    let old = station_data g.C.Clock g.W.Words c.args.station.now in
    let now = station_data g.C.Clock g.W.Words c.loop.station in
    let hand = c.turn-end.new.hand in
    let rested : HandData g.row.E.Denot = record {
      store = hand.store;
      moments = g.C.Clock.moments c.rest_behind.new.clock;
      words = g.W.Words.words hand.words;
    } in
    let next : StationData g.row.E.Denot = record {
      hand = rested;
      held = c.turn-end.new.bench.held;
      places = c.turn-end.new.bench.places;
      pass = c.turn-end.new.pass;
      end = c.loop.station.end;
    } in
    let takes : TakesOne g.E.Store now next c.turn-end.result = record {
      behind = hand_data g.C.Clock g.W.Words hand;
      turn = c.turn-end.ensures.turn;
      rested = record { moments = c.rest_behind.ensures; store = refl; words = refl };
    } in
    record {
      turns = (suc inv.turns.0, turns_more g.E.Store inv.turns.0 old now next c.turn-end.result inv.turns.1 takes (sym c.in_default.ensures));
      same = same_on c.args.station.now.pass c.loop.station.pass c.turn-end.new.pass inv.same c.turn-end.ensures.same;
      ready = c.turn-end.ensures.ready;
      places = c.turn-end.ensures.places ∙ inv.places;
    }
