use Rattle.std.proofs.Common.{rules}
use Rattle.fts_files.specs.Script.{fails}
use Rattle.fts_disk.specs.Service.{service_sync}
use Rattle.fts_files.proofs.Playing.{then_leads, failed}
use Rattle.fts_disk.proofs.Services.{sync_failed, look_failed}
use Rattle.fts_disk.proofs.service.Service.sync.Goals as goal

pub returns-in_err-sync-clause-script : goal.returns-in_err-sync-clause-script
unfolding service_sync
returns-in_err-sync-clause-script g c next = failed (λ done. next _ _) fails c.from_residual.result (c.in_err-sync.ensures.script _) (search rules)

pub returns-in_err-len-clause-script : goal.returns-in_err-len-clause-script
unfolding service_sync
returns-in_err-len-clause-script g c next = failed (λ done. next _ _) fails c.from_residual-in_err-len.result
    (then_leads (c.in_ok-sync.ensures.script _) (rw c.in_ok-sync.ensures.file at (c.in_err-len.ensures (next c.sync.new.self.state)))) (search rules)

pub returns-clause-script : goal.returns-clause-script
unfolding service_sync
returns-clause-script g c next = then_leads (c.in_ok-sync.ensures.script _) (rw c.in_ok-sync.ensures.file at (c.in_ok-len.ensures (next c.sync.new.self.state)))

pub returns-in_err-sync-clause-failed : goal.returns-in_err-sync-clause-failed
returns-in_err-sync-clause-failed g c =
    sync_failed c.from_residual.result (g.F.FileSystem.number c.args.self.now.guard.file) c.args.self.now.guard.state c.sync.new.self.state (g.F.FileSystem.calls c.args.files.now) c.in_err-sync.ensures.failed

pub returns-in_err-len-clause-failed : goal.returns-in_err-len-clause-failed
returns-in_err-len-clause-failed g c = look_failed c.from_residual-in_err-len.result _ _ _ _ _ c.in_ok-sync.ensures.script
