-- A line more, and all lines behind the head.
use Rattle.std.proofs.Common.{sym, arith, rules}
use Rattle.std.proofs.lemmas.Grind.{common_steps}
use Rattle.std.specs.List.{flat_map}
use Rattle.fts_metrics.specs.Metrics.{endpoint_limit_samples}
use Rattle.fts_metrics.proofs.Texts.{goes_on, line_more}
use Rattle.fts_metrics.proofs.slots.put_endpoint_limit.Goals as goal

pub loop-endpoint-preserved : goal.loop-endpoint-preserved
loop-endpoint-preserved c = line_more _ _ _ _ c.loop-endpoint-test.true (sym c.endpoint-item.is) _ _ _ c.loop-endpoint.invariant c.in_ok-put_limits.ensures

pub returns : goal.returns
returns c = goes_on _ _ _ _ (flat_map endpoint_limit_samples c.args.endpoints.now) c.in_ok-put_head.ensures
    (first_of (search rules, grind (arith, common_steps)))
