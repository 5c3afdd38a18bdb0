use Rattle.std.proofs.Common.{rules, ap, ◌∙◌}
use Rattle.fts_turnstile.proofs.TurnSteps.{looks}
use Rattle.fts_turnstile.proofs.turnstile.Turnstile.wait_turn.Goals as goal

pub load-turn-requires : goal.load-turn-requires
load-turn-requires g c =
    let as_before = c.loop.invariant.2 in
    let waiting = c.requires.waiting.0 in (
      search rules,
      search rules,
      looks _ _ _ _ _ _ _ _ (ap (λ m. m.0.lives) as_before ∙ waiting.0) (ap (λ m. m.0.waits) as_before ∙ waiting.1)
          (ap (λ m. m.0.served) as_before ∙ waiting.2) (ap (λ m. m.1) as_before ∙ c.requires.waiting.1),
    )
