use Rattle.std.proofs.Common.{rules, sym, ap, ◌∙◌, ◌<◌, subst}
use Rattle.fts_turnstile.proofs.NumberSteps.{draws, splits}
use Rattle.fts_turnstile.proofs.WholeTurns.{fresh_own}
use Rattle.fts_turnstile.proofs.turnstile.Turnstile.split.Goals as goal

pub fetch_add-number-requires : goal.fetch_add-number-requires
fetch_add-number-requires g c =
    let rests = c.pass.invariant.2 in
    let is = c.pass.view_is in
    let first = ap (λ p. p.number) is ∙ c.requires.first in
    let room = subst (λ p. p.given < 4294967295) (sym is) c.requires.room in
    (search rules, search rules, draws _ _ _ _ _ _ _ _ rests.0 first rests.3 rests.5 room)

pub split_seat-seat-requires : goal.split_seat-seat-requires
split_seat-seat-requires g c =
    let rests = c.pass.invariant.2 in
    let drew = c.fetch_add-number.ensures.2.1 in
    let first = ap (λ p. p.number) c.pass.view_is ∙ c.requires.first in (
      search rules,
      search rules,
      splits _ _ _ _ _ _ _ (ap (λ v. v.lives) drew ∙ rests.0) (ap (λ v. v.number) drew ∙ first) (ap (λ v. v.hand) drew) (ap (λ v. v.served) drew ∙ rests.5),
    )

pub returns-clause-fresh : goal.returns-clause-fresh
returns-clause-fresh g c =
    let drew = c.fetch_add-number.ensures.2 in
    fresh_own c.pass.inside.seat.me.0 c.fetch_add-number.new.seat.me.0 c.split_seat-seat.result.me.0 drew.1
    (ap (λ m. m.0) c.split_seat-seat.ensures.4) drew.3
