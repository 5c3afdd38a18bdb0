-- Each clause of the law.
use Rattle.fts_serving.proofs.Runs.{kept_where_served, run_leaves_disk, run_leaves_none_out}
use Rattle.fts_serving.proofs.laws.runs_that_serve_leave_nothing.Goals as goal
use Rattle.fts_service.specs.Worlds.{world_of}

pub returns : goal.returns
returns g c =
    let laws = c.cited_laws.ensures in
    record {
      ledger = λ closes lanes connections text before after end tally runs lanes_eight few hands_sixteen.
          kept_where_served (world_of g.D.Disk g.E.Store g.A.Doors g.A.Line.Source g.A.Line.Sink g.C.Clock g.W.Words closes)
          laws.lists laws.stores runs lanes_eight few hands_sixteen;
      ends = λ closes lanes connections text before after end tally runs zero_is lanes_eight few hands_sixteen.
          run_leaves_disk (world_of g.D.Disk g.E.Store g.A.Doors g.A.Line.Source g.A.Line.Sink g.C.Clock g.W.Words closes)
          laws.lists laws.stores runs zero_is lanes_eight few hands_sixteen;
      stops = λ closes lanes connections text before after end tally runs stop_is lanes_eight few hands_sixteen.
          run_leaves_none_out (world_of g.D.Disk g.E.Store g.A.Doors g.A.Line.Source g.A.Line.Sink g.C.Clock g.W.Words closes)
          laws.lists laws.stores runs stop_is lanes_eight few hands_sixteen;
    }
