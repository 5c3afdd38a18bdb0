-- A run that has no settings.
use Rattle.fts_session.specs.Connections.{reading_of}
use Rattle.fts_top.proofs.Started.{stopped_unset}
use Rattle.fts_top.proofs.top.begin_session.Goals as goal

pub returns-in-Err-clause-run : goal.returns-in-Err-clause-run
returns-in-Err-clause-run g c = stopped_unset g.D.Disk g.E.Store (g.F.Source.left c.args.settings.now)
    (g.C.Clock.moments c.args.clock.now) (g.W.Words.words c.args.draws.now) c.args.disk c.stop.result.disk c.args.store.now
    (reading_of (g.S.Source.left c.args.input.now) (g.S.Source.reads c.args.input.now)) (g.K.Sink.held c.args.output.now) c.in-Err.end
    c.stop.result.end c.stop.result.tally c.in-Err.ensures.stopped c.stop.ensures.end c.stop.ensures.tally c.stop.ensures.disk
