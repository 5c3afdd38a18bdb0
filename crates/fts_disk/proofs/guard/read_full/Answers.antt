use Rattle.std.proofs.Common.{rules}
use Rattle.fts_files.specs.Script.{fails}
use Rattle.fts_disk.specs.Guard.{reads_full}
use Rattle.fts_files.proofs.Playing.{then_leads, failed}
use Rattle.fts_disk.proofs.Guardings.{full_leads, short_leads}
use Rattle.fts_disk.proofs.guard.read_full.Goals as goal

pub returns-in_err-count : goal.returns-in_err-count
unfolding reads_full
returns-in_err-count g c next = failed (λ done. next _) fails c.from_residual.result (c.in_err-count.ensures.script _) (search rules)

pub returns-then-not-is_full : goal.returns-then-not-is_full
unfolding reads_full
returns-then-not-is_full g c next =
    then_leads (c.in_ok-count.ensures.script _) (short_leads next _ _ _ _ c.in_ok-count.ensures.within (search rules))

pub returns : goal.returns
unfolding reads_full
returns g c next =
    then_leads (c.in_ok-count.ensures.script _) (full_leads next _ _ _ _ (search rules) (search rules))
