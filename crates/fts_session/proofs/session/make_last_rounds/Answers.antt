-- The last rounds: busy ones, and one that isn't.
use Rattle.std.proofs.Common.{arith}
use Rattle.fts_workers.specs.declared.ends.RoundEnd.TheVariants.{Clear, DiskFailed, JournalFull, Memory}
use Rattle.fts_session.specs.Sessions.{thread}
use Rattle.fts_session.proofs.Worked.{works_none}
use Rattle.fts_session.proofs.Serving.{RoundsOn, rounds_more, rounds_end, round_uses}
use Rattle.fts_session.proofs.session.make_last_rounds.Goals as goal

pub rounds-init : goal.rounds-init
rounds-init g c = works_none g.D.Disk g.E.Store (λ own before after. RoundsOn c.args.working.now.bench.places before after)
    (thread c.args.working.now.keep c.args.working.now.bench c.args.working.now.claims c.args.store.now (g.C.Clock.moments c.args.clock.now) (g.W.Words.words c.args.words.now))
    c.requires.ready c.desk.ensures.kept (g.met.D.Disk.lawful c.args.working.now.keep.disk) (λ own walk end after rest. rest)

pub rounds-smaller : goal.rounds-smaller
rounds-smaller g c =
    let more = round_uses g.D.Disk g.E.Store c.args.working.now.bench.places
    (thread c.args.working.now.keep c.args.working.now.bench c.args.working.now.claims c.args.store.now (g.C.Clock.moments c.args.clock.now) (g.W.Words.words c.args.words.now))
    (thread c.rounds.working.keep c.rounds.working.bench c.rounds.working.claims c.rounds.store (g.C.Clock.moments c.rounds.clock) (g.W.Words.words c.rounds.words))
    (thread c.make_round.new.working.keep c.make_round.new.working.bench c.make_round.new.working.claims c.make_round.new.store (g.C.Clock.moments c.make_round.new.clock)
    (g.W.Words.words c.make_round.new.words))
    c.rounds.invariant.places c.rounds.invariant c.in-Busy.held c.in-Busy.ensures.works in
    omega (arith, more, c.make_round.ensures.used)

pub rounds-preserved : goal.rounds-preserved
rounds-preserved g c = rounds_more g.D.Disk g.E.Store c.args.working.now.bench.places
    (thread c.args.working.now.keep c.args.working.now.bench c.args.working.now.claims c.args.store.now (g.C.Clock.moments c.args.clock.now) (g.W.Words.words c.args.words.now))
    (thread c.rounds.working.keep c.rounds.working.bench c.rounds.working.claims c.rounds.store (g.C.Clock.moments c.rounds.clock) (g.W.Words.words c.rounds.words))
    (thread c.make_round.new.working.keep c.make_round.new.working.bench c.make_round.new.working.claims c.make_round.new.store (g.C.Clock.moments c.make_round.new.clock)
    (g.W.Words.words c.make_round.new.words))
    c.rounds.invariant.places c.rounds.invariant c.in-Busy.held c.in-Busy.ensures.works

pub returns-in-Clear-clause-works : goal.returns-in-Clear-clause-works
returns-in-Clear-clause-works g c = rounds_end g.D.Disk g.E.Store c.args.working.now.bench.places
    (thread c.args.working.now.keep c.args.working.now.bench c.args.working.now.claims c.args.store.now (g.C.Clock.moments c.args.clock.now) (g.W.Words.words c.args.words.now))
    (thread c.rounds.working.keep c.rounds.working.bench c.rounds.working.claims c.rounds.store (g.C.Clock.moments c.rounds.clock) (g.W.Words.words c.rounds.words))
    (thread c.make_round.new.working.keep c.make_round.new.working.bench c.make_round.new.working.claims c.make_round.new.store (g.C.Clock.moments c.make_round.new.clock)
    (g.W.Words.words c.make_round.new.words))
    c.rounds.invariant.places c.rounds.invariant Clear (λ busy e. cc) c.in-Clear.ensures.works

pub returns-in-DiskFailed-clause-works : goal.returns-in-DiskFailed-clause-works
returns-in-DiskFailed-clause-works g c = rounds_end g.D.Disk g.E.Store c.args.working.now.bench.places
    (thread c.args.working.now.keep c.args.working.now.bench c.args.working.now.claims c.args.store.now (g.C.Clock.moments c.args.clock.now) (g.W.Words.words c.args.words.now))
    (thread c.rounds.working.keep c.rounds.working.bench c.rounds.working.claims c.rounds.store (g.C.Clock.moments c.rounds.clock) (g.W.Words.words c.rounds.words))
    (thread c.make_round.new.working.keep c.make_round.new.working.bench c.make_round.new.working.claims c.make_round.new.store (g.C.Clock.moments c.make_round.new.clock)
    (g.W.Words.words c.make_round.new.words))
    c.rounds.invariant.places c.rounds.invariant DiskFailed (λ busy e. cc) c.in-DiskFailed.ensures.works

pub returns-in-JournalFull-clause-works : goal.returns-in-JournalFull-clause-works
returns-in-JournalFull-clause-works g c = rounds_end g.D.Disk g.E.Store c.args.working.now.bench.places
    (thread c.args.working.now.keep c.args.working.now.bench c.args.working.now.claims c.args.store.now (g.C.Clock.moments c.args.clock.now) (g.W.Words.words c.args.words.now))
    (thread c.rounds.working.keep c.rounds.working.bench c.rounds.working.claims c.rounds.store (g.C.Clock.moments c.rounds.clock) (g.W.Words.words c.rounds.words))
    (thread c.make_round.new.working.keep c.make_round.new.working.bench c.make_round.new.working.claims c.make_round.new.store (g.C.Clock.moments c.make_round.new.clock)
    (g.W.Words.words c.make_round.new.words))
    c.rounds.invariant.places c.rounds.invariant (JournalFull c.in-JournalFull.used) (λ busy e. cc) c.in-JournalFull.ensures.works

pub returns-in-Memory-clause-works : goal.returns-in-Memory-clause-works
returns-in-Memory-clause-works g c = rounds_end g.D.Disk g.E.Store c.args.working.now.bench.places
    (thread c.args.working.now.keep c.args.working.now.bench c.args.working.now.claims c.args.store.now (g.C.Clock.moments c.args.clock.now) (g.W.Words.words c.args.words.now))
    (thread c.rounds.working.keep c.rounds.working.bench c.rounds.working.claims c.rounds.store (g.C.Clock.moments c.rounds.clock) (g.W.Words.words c.rounds.words))
    (thread c.make_round.new.working.keep c.make_round.new.working.bench c.make_round.new.working.claims c.make_round.new.store (g.C.Clock.moments c.make_round.new.clock)
    (g.W.Words.words c.make_round.new.words))
    c.rounds.invariant.places c.rounds.invariant Memory (λ busy e. cc) c.in-Memory.ensures.works
