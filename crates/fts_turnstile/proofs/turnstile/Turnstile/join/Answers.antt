use Rattle.std.proofs.Common.{rules, ap, ◌∙◌}
use Rattle.fts_turnstile.specs.History.{OnlyOthersSince}
use Rattle.fts_turnstile.specs.Passes.{numbers_of}
use Rattle.fts_turnstile.proofs.Histories.{items_by-others}
use Rattle.fts_turnstile.proofs.JoinSteps.{takes_in, learns}
use Rattle.fts_turnstile.proofs.turnstile.Turnstile.join.Goals as goal

pub join_seat-requires : goal.join_seat-requires
join_seat-requires g c =
    let rests = c.pass.invariant.2 in
    let other_rests = c.other.invariant.2 in (
      search rules,
      search rules,
      search rules,
      search rules,
      takes_in _ _ _ _ _ _ _ _ _ rests.0 rests.2 rests.5 other_rests.0 other_rests.2 other_rests.4 other_rests.5,
    )

pub load-requires : goal.load-requires
load-requires g c =
    let taken_in = c.join_seat.ensures.2 in
    let rests = c.pass.invariant.2 in
    (search rules, search rules, learns _ _ _ _ _ _ _ _ (ap (λ m. m.0.lives) taken_in ∙ rests.0) (ap (λ m. m.0.served) taken_in ∙ rests.5))

pub returns-clause-items : goal.returns-clause-items
returns-clause-items g c =
    let now = c.load.new.seat.me.0.seen in
    let mine : OnlyOthersSince (numbers_of c.args.pass.now) c.args.pass.now.seen now = search rules in
    items_by-others (numbers_of c.args.pass.now) _ now mine

pub returns-clause-other_items : goal.returns-clause-other_items
returns-clause-other_items g c =
    let now = c.load.new.seat.me.0.seen in
    let theirs : OnlyOthersSince (numbers_of c.args.other) c.args.other.seen now = search rules in
    items_by-others (numbers_of c.args.other) _ now theirs
