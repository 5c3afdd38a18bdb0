-- A keep that was served and closed.
use Rattle.std.proofs.Common.{◌≡◌, ◌+◌, ◌-◌, length, refl, sym, ap, ◌∙◌, subst}
use Rattle.fts_laws.specs.Attempts.{attempts_in}
use Rattle.fts_shop.specs.Shops.{shop_of}
use Rattle.fts_service.specs.Locked.{IsLocked, IsUntouched}
use Rattle.fts_top.specs.Serves.{WhyNoLane}
use Rattle.fts_top.specs.Tallies.{tally_with}
use Rattle.fts_top.proofs.Closing.{closes_unserved, holds_behind}
use Rattle.fts_service.proofs.Opened.{opened_none}
use Rattle.fts_top.proofs.service.serve_keep.Goals as goal
use Rattle.fts_service.specs.Worlds.{world_of}

pub serve_locked-shop-requires-clause-locked : goal.serve_locked-shop-requires-clause-locked
serve_locked-shop-requires-clause-locked g c κs within = (
  c.args.keep,
  subst (λ n. IsLocked g.D.Disk (shop_of c.args.keep c.args.order.lanes) (c.args.order.lanes + n) c.in-Ok.locked.lock c.in-Ok.locked.first c.in-Ok.locked.passes.items)
      (c.len.ensures ∙ c.args.seats.benches.ok.0)
      (subst (λ shop. IsLocked g.D.Disk shop (c.args.order.lanes + c.len.result) c.in-Ok.locked.lock c.in-Ok.locked.first c.in-Ok.locked.passes.items)
      c.new.ensures c.in-Ok.ensures.locked),
)

pub returns-in-Ok-clause-serves : goal.returns-in-Ok-clause-serves
returns-in-Ok-clause-serves g c =
    let locked = subst (λ n. IsLocked g.D.Disk (shop_of c.args.keep c.args.order.lanes) (c.args.order.lanes + n) c.in-Ok.locked.lock c.in-Ok.locked.first
    c.in-Ok.locked.passes.items) (c.len.ensures ∙ c.args.seats.benches.ok.0)
    (subst (λ shop. IsLocked g.D.Disk shop (c.args.order.lanes + c.len.result) c.in-Ok.locked.lock c.in-Ok.locked.first c.in-Ok.locked.passes.items)
    c.new.ensures c.in-Ok.ensures.locked) in
    let closes = c.serve_locked-shop.ensures.closes c.args.keep locked in
    let closed = c.serve_locked-shop.result.0 in
    let attempts : c.count_attempts-attempts.result ≡ attempts_in c.args.keep.tables.rows =
    c.count_attempts-attempts.ensures.sum ∙ ap attempts_in (c.rows.ensures.rows ∙ ap (λ t. t.rows) c.desk.ensures.tables) in
    let counted = c.close_shop.ensures.tally ∙ ap (λ n. tally_with (attempts_in closed.keep.tables.rows - n) closed.keep.tables) attempts in
    record {
      closed = closed;
      added = closes.0;
      closes = rw (sym c.close_shop.ensures.end) at closes.1;
      left_is = c.close_shop.ensures.disk;
      sound = c.close_shop.ensures.sound;
      counted = counted;
      holds = holds_behind _ _ _ _ _ _ _ _ _ _ _ _ closes.1 c.desk.ensures.kept c.close_shop.ensures.sound c.close_shop.result.tally counted c.claims_raise_attempts.ensures.lists;
    }

pub returns-in-Err-clause-serves : goal.returns-in-Err-clause-serves
returns-in-Err-clause-serves g c =
    let closed = c.in-Err.shop in
    let closes = closes_unserved (world_of g.D.Disk g.E.Store g.A.Doors g.A.Line.Source g.A.Line.Sink g.C.Clock g.W.Words (g.G.Gate.closes c.args.outside.now.gate)) c.args.order.lanes (length c.args.seats.benches.items) c.args.order.connections c.args.keep c.args.outside.now.lanes.items c.args.outside.now.lanes.items
    c.args.outside.now.hands.items c.args.outside.now.hands.items closed c.close_shop-in-Err.result.end
    (subst (λ shop. IsUntouched g.D.Disk shop closed) c.new.ensures c.in-Err.ensures.back)
    (opened_none g.A.Doors c.args.order.lanes c.args.outside.now.lanes.items) refl
    (subst (WhyNoLane g.A.Doors c.args.outside.now.lanes.items c.args.outside.now.lanes.items) (sym c.close_shop-in-Err.ensures.end) tt) in
    let attempts : c.count_attempts-attempts.result ≡ attempts_in c.args.keep.tables.rows =
    c.count_attempts-attempts.ensures.sum ∙ ap attempts_in (c.rows.ensures.rows ∙ ap (λ t. t.rows) c.desk.ensures.tables) in
    let counted = c.close_shop-in-Err.ensures.tally ∙ ap (λ n. tally_with (attempts_in closed.keep.tables.rows - n) closed.keep.tables) attempts in
    record {
      closed = closed;
      added = closes.0;
      closes = closes.1;
      left_is = c.close_shop-in-Err.ensures.disk;
      sound = c.close_shop-in-Err.ensures.sound;
      counted = counted;
      holds = holds_behind _ _ _ _ _ _ _ _ _ _ _ _ closes.1 c.desk.ensures.kept c.close_shop-in-Err.ensures.sound c.close_shop-in-Err.result.tally counted c.claims_raise_attempts.ensures.lists;
    }
