-- The router may be read by several threads at the same time.
use denote.Param.Send.{IsSync, sendable}
use Rattle.std.proofs.Crossing.{crosses}
use Rattle.matchit.proofs.route.Route.TheSendSync as route
use Rattle.matchit.proofs.tree.Node.TheLaws.TheKnot as node
use Rattle.matchit.below.slab.proofs.Entry.TheSendSync as entry
use Rattle.fts_routes.proofs.paths.Place.TheSendSync as place
use Rattle.fts_routes.specs.contracts.paths.Routes as Routes

-- a thread may read a router that another one reads
pub routes-sync : IsSync Routes.the_row
routes-sync = search (crosses, node.crosses, route.the_sync, entry.the_sync, place.the_sync, sendable) depth 60 fits 20000
