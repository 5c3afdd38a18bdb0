use Rattle.std.proofs.Common.{subst}
use Rattle.ordered.specs.Orders.{AreSortedBy, KeySet}
use Rattle.fts_heads.specs.RipeFiles.{goes_by_group}
use Rattle.fts_heads.specs.declared.ripe_file.RipeFile.{RipeFile}
use Rattle.fts_heads.proofs.Owned.{sorted_own}
use Rattle.fts_heads.proofs.crowd.Crowd.len.Goals as goal

pub returns-clause-order : goal.returns-clause-order
returns-clause-order c =
    subst (λ (set : KeySet RipeFile). AreSortedBy goes_by_group set.keys) c.self.view_is
    (sorted_own c.self.inside.own.items c.self.inside.rest.keys c.len.ensures.order c.self.invariant.0.apart)
