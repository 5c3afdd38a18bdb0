-- The clause of the law.
use Rattle.std.proofs.Common.{arith}
use Rattle.fts_service.proofs.Opened.{opened_length}
use Rattle.fts_serving.proofs.Ledger.{ledger}
use Rattle.fts_serving.proofs.laws.lanes_and_workers_keep_the_ledger.Goals as goal
use Rattle.fts_service.specs.Worlds.{world_of}

pub returns : goal.returns
returns g c =
    let laws = c.cited_laws.ensures in
    record {
      ledger = λ closes lanes workers connections settings keep before hands after hands_now closed end serves opened legal lanes_there hands_there some.
          ledger (world_of g.D.Disk g.E.Store g.A.Doors g.A.Line.Source g.A.Line.Sink g.C.Clock g.W.Words closes)
          laws.lists laws.stores serves settings opened legal
          (omega (arith, lanes_there, opened_length g.A.Doors lanes before serves.opened serves.opens)) hands_there some;
    }
