-- What pass 0 has seen behind all others is the list of turns.
use Rattle.std.proofs.Common.{◌++◌, ap, ◌∙◌, subst}
use Rattle.fts_turnstile.specs.History.{items_of, shown_after, AllGiven}
use Rattle.fts_passes.proofs.Gathered.{has_all, seen_of_taken}
use Rattle.fts_passes.proofs.crew.close_with.Goals as goal

pub close-requires-clause-all : goal.close-requires-clause-all
close-requires-clause-all g c =
    has_all c.take_in.new.first c.args.passes.items c.args.first.given c.take_in.ensures.same.1 c.take_in.ensures.same.4 c.requires.all c.take_in.ensures.taken

pub returns : goal.returns
returns g c =
    let same = c.take_in.ensures.same in
    record {
      closed = record {
        turns = c.take_in.new.first.seen;
        list = c.close.ensures.list ∙ ap (λ l. l ++ items_of c.take_in.new.first.seen) same.2;
        shown = c.close.ensures.shows ∙ ap (λ l. shown_after l c.take_in.new.first.seen) same.3;
        named = c.close.ensures.named;
        given = subst (λ n. AllGiven n c.take_in.new.first.seen) same.4 c.close.ensures.takers;
        none_of_first = c.take_in.ensures.none;
        seen = seen_of_taken c.take_in.new.first c.args.passes.items c.take_in.ensures.taken;
      };
    }
