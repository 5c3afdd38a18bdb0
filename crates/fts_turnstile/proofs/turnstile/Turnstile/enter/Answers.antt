use Rattle.std.proofs.Common.{rules, ap, sym, ◌∙◌, Some, ◌∷◌}
use Rattle.atomic_table.specs.Table.{rest}
use Rattle.fts_turnstile.proofs.TurnSteps.{takes_ticket}
use Rattle.fts_turnstile.proofs.turnstile.Turnstile.enter.Goals as goal

pub fetch_add-ticket-requires : goal.fetch_add-ticket-requires
fetch_add-ticket-requires g c =
    let rests = c.requires.rests.0 in (search rules, search rules, takes_ticket _ _ _ _ _ _ _ _ rests.0 rests.4 rests.5)

pub exchange-requires : goal.exchange-requires
exchange-requires g c =
    let served = c.wait_turn.ensures.served in (search rules, (Some served.1, served.3 ∙ ap (λ held. (0, Some served.1) ∷ rest held) (sym served.3)))
