use Rattle.std.proofs.Common.{subst}
use Rattle.fts_delete.specs.Journals.{IsDeletes}
use Rattle.fts_delete.proofs.Tying.{kept_deletes}
use Rattle.fts_delete.proofs.deletes.Deletes.close.Goals as goal

pub returns-clause-kept : goal.returns-clause-kept
returns-clause-kept g c = subst (λ d. IsDeletes g.D.Disk.state d) c.self.view_is
    (kept_deletes g.D.Disk.state c.self.inside.rows.items c.self.inside.journal c.self.invariant)
