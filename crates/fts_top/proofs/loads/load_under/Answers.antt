-- A load over a keep that was started, and one whose keep could not be.
use Rattle.std.proofs.Common.{inl, ap, Some, ◌∙◌}
use Rattle.fts_load.specs.Input.{InputData}
use Rattle.fts_session.specs.Connections.{reading_of}
use Rattle.fts_top.proofs.Started.{stops, started_ready}
use Rattle.fts_top.proofs.Loaded.{loaded}
use Rattle.fts_top.proofs.loads.load_under.Goals as goal

pub load_over-requires : goal.load_over-requires
load_over-requires g c =
    let started = c.in-Ok-start.ensures.ok in
    record {
      ready = λ store. started_ready g.D.Disk c.args.disk c.args.settings c.now-now.result c.in-Ok-start.keep c.in-Ok.prepared.bench store
          (g.C.Clock.moments c.now-now.new.self) (g.W.Words.words c.args.draws.now) started.0 started.1 c.in-Ok.ensures.held;
    }

pub returns-in-Ok-start-clause-load : goal.returns-in-Ok-start-clause-load
returns-in-Ok-start-clause-load g c = λ text read.
    let started = c.in-Ok-start.ensures.ok in
    loaded g.D.Disk g.E.Store c.args.number text c.args.settings c.now-now.result c.in-Ok-start.keep started.0
    c.args.disk c.load_over.result.disk started.1 c.in-Ok.prepared.bench c.in-Ok.ensures.held c.in-Ok.ensures.places c.args.store.now c.load_over.new.store
    (g.C.Clock.moments c.args.clock.now) (g.C.Clock.moments c.now-now.new.self) (g.C.Clock.moments c.load_over.new.clock) (g.W.Words.words c.args.draws.now)
    (g.W.Words.words c.load_over.new.draws) c.in-Ok.prepared.room.kept (reading_of (Some c.in-Ok.prepared.input.left) c.in-Ok.prepared.input.reads)
    (g.K.Sink.held c.args.output.now) (g.K.Sink.held c.load_over.new.output) c.load_over.result.end c.load_over.result.tally
    c.prepare.ensures.settings read c.now-now.ensures c.in-Ok.prepared.source c.in-Ok.ensures.source
    (ap (λ (i : InputData). reading_of (Some i.left) i.reads) c.in-Ok.ensures.input) c.in-Ok.ensures.room c.load_over.ensures.load

pub returns-in-Err-clause-load : goal.returns-in-Err-clause-load
returns-in-Err-clause-load g c = λ text read input. inl (
    stops g.D.Disk g.E.Store text (g.C.Clock.moments c.args.clock.now) (g.C.Clock.moments c.now-now.new.self)
    (g.W.Words.words c.args.draws.now) c.args.disk c.in-Err.disk c.stop-in-Err.result.disk c.args.store.now
    input (g.K.Sink.held c.args.output.now) c.args.settings c.now-now.result c.in-Err.fault
    c.stop-in-Err.result.end c.stop-in-Err.result.tally c.prepare.ensures.settings read c.now-now.ensures c.in-Err.ensures.err
    (c.stop-in-Err.ensures.end ∙ c.of_start.ensures) c.stop-in-Err.ensures.tally c.stop-in-Err.ensures.disk)
