use Rattle.std.proofs.Common.{rules}
use Rattle.fts_files.specs.Script.{fails}
use Rattle.fts_disk.specs.Guard.{guarded_sync}
use Rattle.fts_files.proofs.Playing.{then_leads, does_leads, failed}
use Rattle.fts_disk.proofs.guard.sync.Goals as goal

pub returns-in_err-now : goal.returns-in_err-now
unfolding guarded_sync
returns-in_err-now g c next = failed next fails c.from_residual.result (c.in_err-now.ensures _) (search rules)

pub returns-in_err-sync_data : goal.returns-in_err-sync_data
unfolding guarded_sync
returns-in_err-sync_data g c next = failed next fails c.from_residual-in_err-sync_data.result
    (then_leads (c.in_ok-now.ensures _) (does_leads _ _ _ _ _ c.in_err-sync_data.ensures)) (search rules)

pub returns : goal.returns
unfolding guarded_sync
returns g c next = then_leads (c.in_ok-now.ensures _) (does_leads _ _ _ _ _ c.in_ok-sync_data.ensures)
