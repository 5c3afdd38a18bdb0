-- A connection, and the last rounds behind it.
use Rattle.fts_session.specs.Connections.{reading_of}
use Rattle.fts_session.specs.Sessions.{thread}
use Rattle.fts_session.proofs.Serving.{session_of}
use Rattle.fts_session.proofs.session.run_session.Goals as goal

pub returns-clause-session : goal.returns-clause-session
returns-clause-session g c = session_of g.D.Disk g.E.Store c.args.working.now.bench.places c.args.room.now.kept
    (reading_of (g.S.Source.left c.args.input.now) (g.S.Source.reads c.args.input.now)) (g.K.Sink.held c.args.output.now)
    (thread c.args.working.now.keep c.args.working.now.bench c.args.working.now.claims c.args.store.now (g.C.Clock.moments c.args.clock.now) (g.W.Words.words c.args.words.now))
    c.answer_requests-line.result c.make_last_rounds-last.result
    (thread c.answer_requests-line.new.working.keep c.answer_requests-line.new.working.bench c.answer_requests-line.new.working.claims c.answer_requests-line.new.store (g.C.Clock.moments c.answer_requests-line.new.clock) (g.W.Words.words c.answer_requests-line.new.words))
    (thread c.make_last_rounds-last.new.working.keep c.make_last_rounds-last.new.working.bench c.make_last_rounds-last.new.working.claims c.make_last_rounds-last.new.store (g.C.Clock.moments c.make_last_rounds-last.new.clock) (g.W.Words.words c.make_last_rounds-last.new.words))
    (reading_of (g.S.Source.left c.answer_requests-line.new.input) (g.S.Source.reads c.answer_requests-line.new.input)) (g.K.Sink.held c.answer_requests-line.new.output)
    c.answer_requests-line.ensures.works.places c.answer_requests-line.ensures.works c.make_last_rounds-last.ensures.works
