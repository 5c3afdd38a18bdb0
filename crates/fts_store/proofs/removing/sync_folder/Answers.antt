use Rattle.std.proofs.Common.{rules}
use Rattle.fts_files.specs.Moving.{syncs}
use Rattle.fts_files.specs.Script.{fails}
use Rattle.fts_files.proofs.Playing.{then_leads, does_leads, failed}
use Rattle.fts_store.proofs.removing.sync_folder.Goals as goal

pub returns-in_err-open : goal.returns-in_err-open
unfolding syncs
returns-in_err-open g c next = failed (λ done. next) fails c.from_residual.result (c.in_err-open.ensures _) (search rules)

pub returns-in_err-sync_all : goal.returns-in_err-sync_all
unfolding syncs
returns-in_err-sync_all g c next = failed (λ done. next) fails c.from_residual-in_err-sync_all.result
    (then_leads (c.in_ok-open.ensures _) (does_leads _ _ _ _ _ c.in_err-sync_all.ensures)) (search rules)

pub returns : goal.returns
unfolding syncs
returns g c next = then_leads (c.in_ok-open.ensures _) (does_leads _ _ _ _ _ c.in_ok-sync_all.ensures)
