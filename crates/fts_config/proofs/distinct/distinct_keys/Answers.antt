-- A key that is there already, and a new one.
use Rattle.std.proofs.Common.{sym, ◌∙◌}
use Rattle.fts_config.proofs.KeyLoops.{twice_here, distinct_here}
use Rattle.fts_config.proofs.distinct.distinct_keys.Goals as goal

pub returns-in-Ok-false : goal.returns-in-Ok-false
returns-in-Ok-false g c =
    twice_here g.T.Keyed.key g.T.Keyed.proper c.args.items.now c.loop-item.item-index c.item-item.result c.loop-item.keys c.in_ok-key_text.field-0
    c.loop-item-test.true c.item-item.is c.loop-item.invariant c.in_ok-key_text.ensures.0 c.in_ok-key_text.ensures.1
    (sym c.in-Ok-false.field-0-test ∙ c.in-Ok-false.ensures.added)

pub loop-item-preserved : goal.loop-item-preserved
loop-item-preserved g c =
    distinct_here g.T.Keyed.key g.T.Keyed.proper c.args.items.now c.loop-item.item-index c.item-item.result c.loop-item.keys c.in_ok-key_text.field-0
    c.loop-item-test.true c.item-item.is c.loop-item.invariant c.in_ok-key_text.ensures.0 c.in_ok-key_text.ensures.1 c.insert.new.self
    (sym c.in-Ok-true.field-0-test ∙ c.in-Ok-true.ensures.added) c.in-Ok-true.ensures.updates
