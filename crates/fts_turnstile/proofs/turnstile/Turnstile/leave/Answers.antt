use Rattle.std.proofs.Common.{rules}
use Rattle.fts_turnstile.proofs.TurnSteps.{passes_as}
use Rattle.fts_turnstile.proofs.turnstile.Turnstile.leave.Goals as goal

pub fetch_add-turn-requires : goal.fetch_add-turn-requires
fetch_add-turn-requires g c =
    let served = c.requires.served.0 in
    let adds = c.requires.adds in
    let before = c.args.seat.now.me in (
      search rules,
      search rules,
      passes_as _ _ _ _ _ _ _ before.0 before.1 _ c.args.value adds.0 (search rules) served.0 served.1 served.2 c.requires.served.1 adds.1 adds.2,
    )
