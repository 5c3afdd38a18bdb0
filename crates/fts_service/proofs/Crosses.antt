-- What the threads of a service are given may go there, where the disk, the doors and the clock may: booths, and what all of them share.
use denote.RattleType.{RattleType}
use denote.Ref.{NamedLft}
use denote.Param.Send.{IsSend, IsSync, sendable}
use Rattle.std.proofs.Crossing.{crosses}
use Rattle.fts_disk.specs.declared.disk.Disk as disk
use Rattle.fts_turnstile.proofs.pass.Pass.TheSendSync as pass
use Rattle.fts_turnstile.proofs.turnstile.Turnstile.TheSendSync as turnstile
use Rattle.fts_shop.proofs.Crosses.{shop-send}
use Rattle.fts_routes.proofs.Crosses.{routes-sync}
use Rattle.fts_service.specs.contracts.lane.Booth as Booth
use Rattle.fts_service.specs.contracts.hall.Hall as Hall

pub booth-send : (D A C L : RattleType) (ghosts : disk.Ghosts D.Denot) → IsSend D → IsSend A → IsSend C → IsSend L
    → IsSend (Booth.the_row D A C L ghosts)
booth-send D A C L ghosts disk-send doors-send clock-send line-send = search (crosses, shop-send, pass.the_send, sendable) depth 60 fits 20000

pub hall-sync : (lifetime : NamedLft) (D G : RattleType) (ghosts : disk.Ghosts D.Denot) → IsSend D → IsSync G → IsSync (Hall.the_row lifetime D G ghosts)
hall-sync lifetime D G ghosts disk-send gate-sync = search (crosses, shop-send, turnstile.the_sync, routes-sync, sendable) depth 60 fits 20000
