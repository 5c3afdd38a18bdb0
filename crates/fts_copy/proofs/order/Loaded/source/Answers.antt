use Rattle.fts_copy.proofs.Parts.{source_apart, dest_apart}
use Rattle.fts_copy.proofs.order.Loaded.source.Goals as goal

pub returns-clause-apart : goal.returns-clause-apart
returns-clause-apart c = rw (← c.self.view_is) (record { source = source_apart _ c.self.invariant.0; dest = dest_apart _ c.self.invariant.0 })
