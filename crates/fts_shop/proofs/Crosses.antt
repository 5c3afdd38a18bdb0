-- What a worker's thread is given may go there, where the disk and the parts of its hand may: the station, and what all of them share.
use denote.RattleType.{RattleType}
use denote.Ref.{NamedLft}
use denote.Param.Send.{IsSend, IsSync, sendable}
use Rattle.std.proofs.Crossing.{crosses}
use Rattle.fts_disk.specs.declared.disk.Disk as disk
use Rattle.fts_keep.proofs.Crosses.{keep-send}
use Rattle.fts_turnstile.proofs.pass.Pass.TheSendSync as pass
use Rattle.fts_turnstile.proofs.turnstile.Turnstile.TheSendSync as turnstile
use Rattle.fts_workers.proofs.bench.Bench.TheSendSync as bench
use Rattle.fts_workers.proofs.hand.Hand.TheSendSync as hand
use Rattle.fts_shop.specs.contracts.station.Station as Station
use Rattle.fts_shop.specs.contracts.working.Floor as Floor
use Rattle.fts_shop.specs.contracts.shop.Shop as Shop

pub shop-send : (T : RattleType) (ghosts : disk.Ghosts T.Denot) → IsSend T → IsSend (Shop.the_row T ghosts)
shop-send T ghosts disk-send = search (crosses, keep-send, sendable) depth 60 fits 20000

pub station-send : (D E C W : RattleType) (ghosts : disk.Ghosts D.Denot) → IsSend D → IsSend E → IsSend C → IsSend W
    → IsSend (Station.the_row D E C W ghosts)
station-send D E C W ghosts disk-send store-send clock-send words-send =
    search (crosses, shop-send, pass.the_send, hand.the_send, hand.the_field_send, bench.the_send, sendable) depth 60 fits 20000

pub floor-sync : (lifetime : NamedLft) (D G : RattleType) (ghosts : disk.Ghosts D.Denot) → IsSend D → IsSync G → IsSync (Floor.the_row lifetime D G ghosts)
floor-sync lifetime D G ghosts disk-send gate-sync = search (crosses, shop-send, turnstile.the_sync, sendable) depth 60 fits 20000
