use Rattle.std.proofs.Common.{rules}
use Rattle.fts_files.specs.Making.{removes_stale}
use Rattle.fts_files.proofs.Playing.{then_leads, does_leads, failed}
use Rattle.fts_files.proofs.making.remove_stale.Goals as goal

pub returns-in_err-found : goal.returns-in_err-found
unfolding removes_stale
returns-in_err-found g c next ended = failed (λ done. next) ended c.from_residual.result (does_leads _ _ _ _ _ c.in_err-found.ensures) (search rules)

pub returns : goal.returns
unfolding removes_stale
returns g c next ended = then_leads (does_leads _ _ _ _ _ c.in_ok-found.ensures) (c.clear_seen.ensures next ended)
