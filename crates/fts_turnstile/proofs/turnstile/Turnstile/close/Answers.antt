use Rattle.fts_turnstile.proofs.Ends.{closes_as, never_none, ended_with}
use Rattle.fts_turnstile.proofs.turnstile.Turnstile.close.Goals as goal

pub unreachable-requires : goal.unreachable-requires
unreachable-requires g c =
    let ended = closes_as _ g.T.Logged.names g.T.Logged.shows _ _ _ _ _ _ c.args.pass _
    c.close_with-closed.ensures.values.2 c.pass.view_is c.pass.invariant.2 c.requires.first c.requires.all in
    never_none _ g.T.Logged.names g.T.Logged.shows _ c.args.pass _ ended c.take-value.ensures.value c.in-None.is

pub returns-clause-list : goal.returns-clause-list
returns-clause-list g c =
    let ended = closes_as _ g.T.Logged.names g.T.Logged.shows _ _ _ _ _ _ c.args.pass _
    c.close_with-closed.ensures.values.2 c.pass.view_is c.pass.invariant.2 c.requires.first c.requires.all in
    (ended_with _ g.T.Logged.names g.T.Logged.shows _ c.args.pass _ _ ended c.take-value.ensures.value c.in-Some.is).0

pub returns-clause-shows : goal.returns-clause-shows
returns-clause-shows g c =
    let ended = closes_as _ g.T.Logged.names g.T.Logged.shows _ _ _ _ _ _ c.args.pass _
    c.close_with-closed.ensures.values.2 c.pass.view_is c.pass.invariant.2 c.requires.first c.requires.all in
    (ended_with _ g.T.Logged.names g.T.Logged.shows _ c.args.pass _ _ ended c.take-value.ensures.value c.in-Some.is).1

pub returns-clause-named : goal.returns-clause-named
returns-clause-named g c =
    let ended = closes_as _ g.T.Logged.names g.T.Logged.shows _ _ _ _ _ _ c.args.pass _
    c.close_with-closed.ensures.values.2 c.pass.view_is c.pass.invariant.2 c.requires.first c.requires.all in
    (ended_with _ g.T.Logged.names g.T.Logged.shows _ c.args.pass _ _ ended c.take-value.ensures.value c.in-Some.is).2

pub returns-clause-takers : goal.returns-clause-takers
returns-clause-takers g c =
    let ended = closes_as _ g.T.Logged.names g.T.Logged.shows _ _ _ _ _ _ c.args.pass _
    c.close_with-closed.ensures.values.2 c.pass.view_is c.pass.invariant.2 c.requires.first c.requires.all in
    (ended_with _ g.T.Logged.names g.T.Logged.shows _ c.args.pass _ _ ended c.take-value.ensures.value c.in-Some.is).3
