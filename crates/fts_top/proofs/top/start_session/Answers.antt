-- A session over a keep that was started, and a keep that could not be.
use Rattle.std.proofs.Common.{subst, ap, ◌∙◌}
use Rattle.fts_tables.specs.SettingsData.{SettingsData, IsSettings}
use Rattle.fts_session.specs.Connections.{reading_of}
use Rattle.fts_top.proofs.Started.{ran, stopped, started_ready}
use Rattle.fts_top.proofs.top.start_session.Goals as goal

pub hold_session-requires : goal.hold_session-requires
hold_session-requires g c =
    let started = c.in-Ok-start.ensures.ok in
    record {
      ready = started_ready g.D.Disk c.args.disk c.args.settings c.now-now.result c.in-Ok-start.keep c.in-Ok-new.bench c.args.store.now
          (g.C.Clock.moments c.now-now.new.self) (g.W.Words.words c.args.draws.now) started.0 started.1 c.in-Ok-new.ensures.held;
    }

pub returns-in-Ok-start-clause-run : goal.returns-in-Ok-start-clause-run
returns-in-Ok-start-clause-run g c = λ text read.
    let started = c.in-Ok-start.ensures.ok in
    ran g.D.Disk g.E.Store c.args.settings c.now-now.result c.in-Ok-start.keep started.0 c.args.disk c.hold_session.result.disk started.1
    c.in-Ok-new.bench c.in-Ok-new.ensures.held (c.in-Ok-new.ensures.places ∙ ap (λ (s : SettingsData). s.workers) c.settings.view_is) c.args.store.now c.hold_session.new.store
    (g.C.Clock.moments c.now-now.new.self) (g.C.Clock.moments c.hold_session.new.clock) (g.W.Words.words c.args.draws.now) (g.W.Words.words c.hold_session.new.draws) c.in-Ok.room.kept
    (reading_of (g.S.Source.left c.args.input.now) (g.S.Source.reads c.args.input.now)) (reading_of (g.S.Source.left c.hold_session.new.input) (g.S.Source.reads c.hold_session.new.input))
    (g.K.Sink.held c.args.output.now) (g.K.Sink.held c.hold_session.new.output) c.hold_session.result.end c.hold_session.result.tally c.hold_session.ensures.serves
    text (g.C.Clock.moments c.args.clock.now) (subst IsSettings c.settings.view_is c.settings.invariant) read c.now-now.ensures c.in-Ok.ensures

pub returns-clause-run : goal.returns-clause-run
returns-clause-run g c = λ text read.
    stopped g.D.Disk g.E.Store text (g.C.Clock.moments c.args.clock.now) (g.C.Clock.moments c.now-now.new.self)
    (g.W.Words.words c.args.draws.now) c.args.disk c.in-Err.disk c.stop-in-Err.result.disk c.args.store.now
    (reading_of (g.S.Source.left c.args.input.now) (g.S.Source.reads c.args.input.now)) (g.K.Sink.held c.args.output.now) c.args.settings c.now-now.result c.in-Err.fault
    c.stop-in-Err.result.end c.stop-in-Err.result.tally (subst IsSettings c.settings.view_is c.settings.invariant) read c.now-now.ensures c.in-Err.ensures.err
    (c.stop-in-Err.ensures.end ∙ c.of_start.ensures) c.stop-in-Err.ensures.tally c.stop-in-Err.ensures.disk
