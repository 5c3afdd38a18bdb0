-- Each clause of the law.
use Rattle.fts_serving.proofs.Lines.{all_lines_of, lines_of}
use Rattle.fts_serving.proofs.laws.lines_of_lanes_are_accounted_for.Goals as goal
use Rattle.fts_service.specs.Worlds.{world_of}

pub returns-clause-each : goal.returns-clause-each
returns-clause-each g c = λ closes lanes workers connections keep before hands after hands_now closed end serves.
    lines_of (world_of g.D.Disk g.E.Store g.A.Doors g.A.Line.Source g.A.Line.Sink g.C.Clock g.W.Words closes) serves

pub returns-clause-all : goal.returns-clause-all
returns-clause-all g c = λ closes lanes workers connections keep before hands after hands_now closed end serves not_nine.
    all_lines_of (world_of g.D.Disk g.E.Store g.A.Doors g.A.Line.Source g.A.Line.Sink g.C.Clock g.W.Words closes) serves not_nine
