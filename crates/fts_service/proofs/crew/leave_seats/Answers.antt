-- What was at the seats stands before what was not used.
use Rattle.std.proofs.Common.{map, arith}
use Rattle.fts_service.proofs.Sitting.{cycled}
use Rattle.fts_service.proofs.crew.leave_seats.Goals as goal

pub returns-clause-lanes : goal.returns-clause-lanes
returns-clause-lanes g c = cycled c.len-lanes_before.result c.args.lanes.now.items (map (λ booth. booth.lane) c.args.seated.booths.items)
    c.leave_booths.new.lanes.items c.cycle.new.items.items (omega (arith, c.len-lanes_before.ensures, c.args.lanes.now.ok.0)) c.leave_booths.ensures.lanes c.cycle.ensures.items

pub returns-clause-hands : goal.returns-clause-hands
returns-clause-hands g c = cycled c.len-hands_before.result c.args.hands.now.items (map (λ station. station.hand) c.args.seated.stations.items)
    c.leave_stations.new.hands.items c.cycle-2.new.items.items (omega (arith, c.len-hands_before.ensures, c.args.hands.now.ok.0)) c.leave_stations.ensures.hands c.cycle-2.ensures.items
