-- One asking is a turn that adds nothing.
use Rattle.std.proofs.Common.{rules, of_calls, arith}
use Rattle.fts_shop.specs.Within.{IsLookIn}
use Rattle.fts_shop.proofs.Looks.{watched_once}
use Rattle.fts_shop.proofs.watch.ShopWatchWatch.wanted.Goals as goal

pub returns-then-asked-clause-later : goal.returns-then-asked-clause-later
returns-then-asked-clause-later g c =
    let t = c.with_turn-asked.ensures.took in let d = t.did in let m = d.met in
    let looked : IsLookIn g.D.Disk c.args.self.now.file t.before t.after c.with_turn-asked.result = search rules in (
      search of_calls,
      search of_calls,
      watched_once g.D.Disk _ _ _ c.with_turn-asked.ensures.same t c.args.self.now.file
          c.with_turn-asked.result looked _ _ _ _ (omega arith) (omega arith) (λ is low same. omega arith) (λ rose. c.if-asked.true),
    )

pub returns-clause-later : goal.returns-clause-later
returns-clause-later g c =
    let t = c.with_turn-asked.ensures.took in let d = t.did in let m = d.met in
    let looked : IsLookIn g.D.Disk c.args.self.now.file t.before t.after c.with_turn-asked.result = search rules in
    let no = c.if-asked.false in (
      search of_calls,
      search of_calls,
      watched_once g.D.Disk _ _ _ c.with_turn-asked.ensures.same t c.args.self.now.file
          c.with_turn-asked.result looked _ _ _ _ (omega arith) (omega arith) (λ is low same. absurd (cc)) (λ rose. absurd (omega arith)),
    )
