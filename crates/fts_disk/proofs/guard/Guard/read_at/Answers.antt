use Rattle.std.proofs.Common.{rules}
use Rattle.fts_files.specs.Script.{fails}
use Rattle.fts_disk.specs.Guard.{guarded_read}
use Rattle.fts_files.proofs.Playing.{then_leads, failed}
use Rattle.fts_disk.proofs.guard.Guard.read_at.Goals as goal

pub returns-in_err-now-clause-script : goal.returns-in_err-now-clause-script
unfolding guarded_read
returns-in_err-now-clause-script g c next = failed (λ done. next _ _) fails c.from_residual.result (c.in_err-now.ensures _) (search rules)

pub returns-in_err-read_full-clause-script : goal.returns-in_err-read_full-clause-script
unfolding guarded_read
returns-in_err-read_full-clause-script g c next = failed (λ done. next _ _) fails c.from_residual-in_err-read_full.result
    (then_leads (c.in_ok-now.ensures _) (c.in_err-read_full.ensures _)) (search rules)

pub returns-clause-script : goal.returns-clause-script
unfolding guarded_read
returns-clause-script g c next = then_leads (c.in_ok-now.ensures _) (c.in_ok-read_full.ensures _)
