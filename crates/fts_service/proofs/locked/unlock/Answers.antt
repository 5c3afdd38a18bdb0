-- A lock that nobody took a turn of.
use Rattle.std.proofs.Common.{◌++◌, map, sym, ap, ◌∙◌, subst, append-nil}
use Rattle.fts_turnstile.specs.History.{items_of, shown_after}
use Rattle.fts_passes.specs.Crews.{AreOf, AreSeenBy}
use Rattle.fts_passes.proofs.Gathered.{given_are_of, given_numbers}
use Rattle.fts_service.proofs.Untaken.{untaken}
use Rattle.fts_service.proofs.locked.unlock.Goals as goal

pub close_with-requires : goal.close_with-requires
close_with-requires g c =
    let first = c.args.first in
    let giver = record first { given = 0 } in
    record {
      own = c.requires.own;
      first = c.requires.first;
      of = subst (AreOf c.args.lock) (sym c.requires.new) (given_are_of c.args.lock giver first.given c.requires.own);
      all = ap (map (λ pass. pass.number)) c.requires.new ∙ given_numbers giver first.given;
    }

pub returns : goal.returns
returns g c =
    let first = c.args.first in
    let closed = c.close_with.ensures.closed in
    let none = untaken first closed.turns c.requires.first.unseen closed.none_of_first closed.given (subst (AreSeenBy closed.turns) c.requires.new closed.seen) in
    record {
      list = closed.list ∙ ap (λ turns. first.opening ++ items_of turns) none ∙ append-nil first.opening;
      shows = closed.shown ∙ ap (shown_after first.opening_shows) none;
    }
