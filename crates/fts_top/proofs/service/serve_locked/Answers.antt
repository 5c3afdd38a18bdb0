-- A shop that lanes and workers served, and one whose doors failed.
use Rattle.std.proofs.Common.{◌≡◌, ◌==◌, false, length, refl, sym, ap, ◌∙◌, subst}
use Rattle.fts_top.specs.Ends.{status_of, IsServingStatus}
use Rattle.fts_top.specs.declared.ends.RunEnd.{RunEnd}
use Rattle.fts_top.proofs.Closing.{closes_served, closes_unserved}
use Rattle.fts_service.proofs.Opened.{opened_back, rose_back}
use Rattle.fts_top.proofs.Endings.{served_settings, served_status}
use Rattle.fts_top.proofs.service.serve_locked.Goals as goal
use Rattle.fts_service.specs.Worlds.{world_of}

pub returns-in-Ok-clause-closes : goal.returns-in-Ok-clause-closes
returns-in-Ok-clause-closes g c = λ keep locked.
    let opened = opened_back g.A.Doors c.args.order.lanes c.args.outside.now.lanes.len c.as_mut_slice.result.now c.args.outside.now.lanes.items c.open_doors.new.lanes
    c.open_doors.ensures.opened c.as_mut_slice.ensures.value c.args.outside.now.lanes.ok.0 in
    closes_served (world_of g.D.Disk g.E.Store g.A.Doors g.A.Line.Source g.A.Line.Sink g.C.Clock g.W.Words (g.G.Gate.closes c.args.outside.now.gate))
    c.args.order.lanes (length c.args.seats.benches.items) c.args.order.connections keep c.args.outside.now.lanes.items _ c.args.outside.now.hands.items _ c.serve_shop-shop.result.shop
    c.of_served.result c.args.locked.lock c.args.locked.first c.args.locked.passes.items locked _ opened c.args.seats.rooms.items c.args.seats.benches.items c.requires.rooms refl
    c.serve_shop-shop.result.end c.serve_shop-shop.ensures.ran c.of_served.ensures c.items_that_name.ensures

pub returns-in-Ok-clause-status : goal.returns-in-Ok-clause-status
returns-in-Ok-clause-status g c =
    let end = c.serve_shop-shop.result.end in
    subst (λ (e : RunEnd). IsServingStatus (status_of e) × ((status_of e == 8) ≡ false)) (sym c.of_served.ensures) (served_status end, served_settings end)

pub returns-in-Err-clause-closes : goal.returns-in-Err-clause-closes
returns-in-Err-clause-closes g c = λ keep locked.
    closes_unserved (world_of g.D.Disk g.E.Store g.A.Doors g.A.Line.Source g.A.Line.Sink g.C.Clock g.W.Words (g.G.Gate.closes c.args.outside.now.gate))
    c.args.order.lanes (length c.args.seats.benches.items) c.args.order.connections keep c.args.outside.now.lanes.items _ c.args.outside.now.hands.items _ c.unlock.result _
    (record {
      listed = c.unlock.ensures.list ∙ ap (λ first. first.opening) locked.first_is ∙ locked.opening;
      showed = c.unlock.ensures.shows ∙ ap (λ first. first.opening_shows) locked.first_is ∙ locked.shows;
    })
    (opened_back g.A.Doors c.args.order.lanes c.args.outside.now.lanes.len c.as_mut_slice.result.now c.args.outside.now.lanes.items c.open_doors.new.lanes
    c.open_doors.ensures.opened c.as_mut_slice.ensures.value c.args.outside.now.lanes.ok.0)
    refl
    (rose_back g.A.Doors c.args.order.lanes c.args.outside.now.lanes.len c.as_mut_slice.result.now c.args.outside.now.lanes.items c.open_doors.new.lanes
    c.open_doors.ensures.opened c.in-Err.ensures.cause c.as_mut_slice.ensures.value c.args.outside.now.lanes.ok.0)
