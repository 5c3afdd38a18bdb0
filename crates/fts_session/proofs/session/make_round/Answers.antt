-- A round, and the claims in it.
use Rattle.std.proofs.Common.{ap, ◌+◌}
use Rattle.fts_session.proofs.Worked.{works_round}
use Rattle.fts_session.proofs.session.make_round.Goals as goal

pub returns-clause-works : goal.returns-clause-works
returns-clause-works g c =
    works_round g.D.Disk g.E.Store c.args.working.now.keep c.round-end.new.keep c.args.working.now.bench
    c.round-end.new.bench c.args.working.now.claims _ c.args.store.now c.round-end.new.store (g.C.Clock.moments c.args.clock.now) (g.C.Clock.moments c.round-end.new.clock)
    (g.W.Words.words c.args.words.now) (g.W.Words.words c.round-end.new.words) c.round-end.result c.requires.ready c.round-end.ensures.round c.round-end.ensures.active
    c.round-end.ensures.places c.round-end.ensures.grows c.round-end.ensures.images
    c.round-end.ensures.doubt_cause.doubt
    (ap (λ n. c.args.working.now.claims + n) c.newly_held.ensures)
