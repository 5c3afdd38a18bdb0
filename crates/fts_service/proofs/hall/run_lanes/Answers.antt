use denote.Param.Send.{sendable}
use Rattle.std.proofs.Crossing.{crosses}
use Rattle.fts_service.proofs.Crosses.{booth-send, hall-sync}
use Rattle.fts_service.proofs.hall.run_lanes.Goals as goal

pub spread-requires-send-J : goal.spread-requires-send-J
spread-requires-send-J g c κs within = search (crosses, booth-send, sendable) depth 60 fits 20000

pub spread-requires-sync-S : goal.spread-requires-sync-S
spread-requires-sync-S g c κs within = search (crosses, hall-sync, sendable) depth 60 fits 20000
