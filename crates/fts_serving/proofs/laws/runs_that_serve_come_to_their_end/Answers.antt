-- The clause of the law.
use Rattle.fts_serving.proofs.Runs.{finishes}
use Rattle.fts_serving.proofs.laws.runs_that_serve_come_to_their_end.Goals as goal
use Rattle.fts_service.specs.Worlds.{world_of}

pub returns : goal.returns
returns g c =
    let laws = c.cited_laws.ensures in
    record {
      ends = λ closes lanes connections text before after end tally rules disk_stays doors_stay lanes_eight few hands_sixteen not_command not_unread.
          finishes (world_of g.D.Disk g.E.Store g.A.Doors g.A.Line.Source g.A.Line.Sink g.C.Clock g.W.Words closes)
          laws.lists laws.stores lanes connections text before after end tally rules disk_stays doors_stay lanes_eight few hands_sixteen
          not_command not_unread;
    }
