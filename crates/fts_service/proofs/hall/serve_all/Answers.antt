use denote.Param.Send.{sendable}
use Rattle.std.proofs.Crossing.{crosses}
use Rattle.fts_shop.proofs.Crosses.{station-send}
use Rattle.fts_service.proofs.Crosses.{booth-send, hall-sync}
use Rattle.fts_service.proofs.Sitting.{each_back}
use Rattle.fts_service.proofs.hall.serve_all.Goals as goal

pub beside-requires-sync-S : goal.beside-requires-sync-S
beside-requires-sync-S g c κs within = search (crosses, hall-sync, sendable) depth 60 fits 20000

pub beside-requires-send-J : goal.beside-requires-send-J
beside-requires-send-J g c κs within = search (crosses, station-send, sendable) depth 60 fits 20000

pub beside-requires-send-K : goal.beside-requires-send-K
beside-requires-send-K g c κs within = search (crosses, booth-send, sendable) depth 60 fits 20000

pub returns-clause-booths : goal.returns-clause-booths
returns-clause-booths g c =
    each_back _ c.args.booths.now.len c.as_mut_slice-2.result.now c.args.booths.now.items c.beside.new.others c.beside.ensures.others c.as_mut_slice-2.ensures.value
    c.args.booths.now.ok.0

pub returns-clause-stations : goal.returns-clause-stations
returns-clause-stations g c =
    each_back _ c.args.stations.now.len c.as_mut_slice.result.now c.args.stations.now.items c.beside.new.jobs c.beside.ensures.jobs c.as_mut_slice.ensures.value
    c.args.stations.now.ok.0
