-- A load that has no settings.
use Rattle.std.proofs.Common.{inl}
use Rattle.fts_top.proofs.Started.{stops_unset}
use Rattle.fts_top.proofs.loads.run_load.Goals as goal

pub returns-in-Err-clause-load : goal.returns-in-Err-clause-load
returns-in-Err-clause-load g c = λ input. inl (stops_unset g.D.Disk g.E.Store (g.F.Source.left c.args.settings.now)
    (g.C.Clock.moments c.args.clock.now) (g.W.Words.words c.args.draws.now) c.args.disk c.stop.result.disk c.args.store.now
    input (g.K.Sink.held c.args.output.now) c.in-Err.end
    c.stop.result.end c.stop.result.tally c.in-Err.ensures.stopped c.stop.ensures.end c.stop.ensures.tally c.stop.ensures.disk)
