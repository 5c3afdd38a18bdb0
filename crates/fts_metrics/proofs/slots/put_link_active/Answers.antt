-- A line more, and all lines behind the head.
use Rattle.std.proofs.Common.{sym, arith, rules}
use Rattle.std.proofs.lemmas.Grind.{common_steps}
use Rattle.std.specs.Prelude.{map}
use Rattle.std.specs.List.{flat_map}
use Rattle.fts_metrics.specs.Metrics.{link_active_sample}
use Rattle.fts_metrics.proofs.Texts.{goes_on, line_more}
use Rattle.fts_metrics.proofs.slots.put_link_active.Goals as goal

pub loop-link-preserved : goal.loop-link-preserved
loop-link-preserved c = line_more _ _ _ _ c.loop-link-test.true (sym c.link-item.is) _ _ _ c.loop-link.invariant c.in_ok-put_active.ensures

pub returns : goal.returns
returns c = goes_on _ _ _ _ (flat_map (link_active_sample (map (λ row. row.now) c.args.rows.now)) c.args.links.now) c.in_ok-put_head.ensures
    (first_of (search rules, grind (arith, common_steps)))
