-- One try more, or the last one; and all of them.
use Rattle.std.proofs.Common.{ℕ, List, sym, ◌∙◌, subst, arith}
use Rattle.fts_client.specs.Tries.{try_of}
use Rattle.fts_client.specs.Ends.{SaysSo}
use Rattle.fts_client.proofs.MoreTries.{none_tried, try_more, try_last, tries_used}
use Rattle.fts_client.proofs.repeating.repeat.Goals as goal

pub loop-init : goal.loop-init
loop-init g c = none_tried _ _ _ _ _ _ _ _

pub returns-then-is_last : goal.returns-then-is_last
returns-then-is_last g c =
    try_last _ _ _ _ _ _ _ _ _ _ _ _ _ _ c.loop.counter c.args.tries c.loop.end c.end_of-end.result _ c.loop.invariant c.try_once-tried.ensures.tried c.try_once-tried.ensures.room
    (subst (λ (body : List ℕ). SaysSo g.H.Hears.says (try_of c.try_once-tried.result body) c.end_of-end.result) c.body.ensures c.end_of-end.ensures)
    (sym c.is_last.ensures ∙ c.if-is_last.true) (omega (arith, c.loop-test.true))

pub loop-preserved : goal.loop-preserved
loop-preserved g c =
    try_more _ _ _ _ _ _ _ _ _ _ _ _ _ _ c.loop.counter c.loop.end c.end_of-end.result _ c.loop.invariant c.try_once-tried.ensures.tried c.try_once-tried.ensures.room
    (subst (λ (body : List ℕ). SaysSo g.H.Hears.says (try_of c.try_once-tried.result body) c.end_of-end.result) c.body.ensures c.end_of-end.ensures)
    (sym c.is_last.ensures ∙ c.if-is_last.false)

pub returns : goal.returns
returns g c = tries_used _ _ _ _ _ _ _ _ _ _ _ c.loop.counter c.args.tries c.loop.end c.loop.invariant c.requires.some (omega (arith, c.loop-test.false, c.loop.auto.counter-end))
