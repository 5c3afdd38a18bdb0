use Rattle.std.proofs.Common.{rules}
use Rattle.fts_files.specs.Script.{fails}
use Rattle.fts_disk.specs.Service.{service_write}
use Rattle.fts_files.proofs.Playing.{then_leads, failed}
use Rattle.fts_disk.proofs.service.Service.write_at.Goals as goal

pub returns-in_err-stay-clause-script : goal.returns-in_err-stay-clause-script
unfolding service_write
returns-in_err-stay-clause-script g c next = failed (λ done. next _) fails c.from_residual.result (c.in_err-stay.ensures _) (search rules)

pub returns-clause-script : goal.returns-clause-script
unfolding service_write
returns-clause-script g c next = then_leads (c.in_ok-stay.ensures _) (c.write_at.ensures.script next)
