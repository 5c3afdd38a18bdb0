-- A keep that was served and closed.
use Rattle.std.proofs.Common.{refl, ap, ◌∙◌}
use Rattle.fts_session.specs.Sessions.{thread}
use Rattle.fts_top.specs.Tallies.{tally_with}
use Rattle.fts_top.proofs.top.hold_session.Goals as goal

pub returns-clause-serves : goal.returns-clause-serves
returns-clause-serves g c = record {
  session_end = c.run_session-end.result;
  ended = refl;
  last = thread c.run_session-end.new.working.keep c.run_session-end.new.working.bench c.run_session-end.new.working.claims c.run_session-end.new.store
      (g.C.Clock.moments c.run_session-end.new.clock) (g.W.Words.words c.run_session-end.new.words);
  closed = c.close.ensures;
  store_is = refl;
  moments_are = refl;
  words_are = refl;
  session = c.run_session-end.ensures.session;
  sound = c.desk.ensures.kept;
  counted = c.make_tally-tally.ensures ∙ ap (λ t. tally_with c.run_session-end.new.working.claims t) c.desk.ensures.tables;
}
