use Rattle.std.proofs.Common.{◌≡◌, ◌++◌, take}
use Rattle.std.specs.Prelude.{map}
use Rattle.std.specs.List.{flat_map}
use Rattle.fts_metrics.specs.Metrics.{link_active_sample}
use Rattle.fts_metrics.proofs.slots.put_link_active.Given as goal

abbrev pub invariant-loop-link : goal.invariant-loop-link
invariant-loop-link l = l.text.items ≡ l.initial.text.items ++ flat_map (link_active_sample (map (λ row. row.now) l.rows)) (take l.link-index l.links)
