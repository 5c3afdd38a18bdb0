use Rattle.std.proofs.Common.{rules}
use Rattle.fts_files.specs.Script.{fails}
use Rattle.fts_disk.specs.Guard.{reads_back}
use Rattle.fts_files.proofs.Playing.{then_leads, does_leads, failed}
use Rattle.fts_disk.proofs.guard.read_back.Goals as goal

pub returns-in_err-sync_all : goal.returns-in_err-sync_all
unfolding reads_back
returns-in_err-sync_all g c next = failed (λ done. next) fails c.from_residual.result (does_leads _ _ _ _ _ c.in_err-sync_all.ensures) (search rules)

pub returns-in_err-forget : goal.returns-in_err-forget
unfolding reads_back
returns-in_err-forget g c next = failed (λ done. next) fails c.from_residual-in_err-forget.result
    (then_leads (does_leads _ _ _ _ _ c.in_ok-sync_all.ensures) (does_leads _ _ _ _ _ c.in_err-forget.ensures)) (search rules)

pub returns : goal.returns
unfolding reads_back
returns g c next =
    then_leads (does_leads _ _ _ _ _ c.in_ok-sync_all.ensures) (then_leads (does_leads _ _ _ _ _ c.in_ok-forget.ensures) (c.match_whole.ensures next))
