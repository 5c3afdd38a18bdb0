use Rattle.std.proofs.Common.{◌≡◌, ◌++◌, take}
use Rattle.std.specs.Prelude.{map}
use Rattle.std.specs.List.{flat_map}
use Rattle.fts_metrics.specs.Metrics.{endpoint_active_samples}
use Rattle.fts_metrics.proofs.slots.put_endpoint_active.Given as goal

abbrev pub invariant-loop-endpoint : goal.invariant-loop-endpoint
invariant-loop-endpoint l = l.text.items ≡ l.initial.text.items ++ flat_map (endpoint_active_samples (map (λ row. row.now) l.rows)) (take l.endpoint-index l.endpoints)
