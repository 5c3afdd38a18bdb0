use Rattle.std.proofs.Common.{rules}
use Rattle.fts_files.specs.Moving.{settles}
use Rattle.fts_files.proofs.Playing.{then_leads, does_leads, failed}
use Rattle.fts_files.proofs.moving.settle.Goals as goal

pub returns-in_err-check_name : goal.returns-in_err-check_name
unfolding settles
returns-in_err-check_name g c next ended = failed (λ done. next) ended c.from_residual.result (c.in_err-check_name.ensures _ ended) (search rules)

pub returns-in_err-unlink : goal.returns-in_err-unlink
unfolding settles
returns-in_err-unlink g c next ended = failed (λ done. next) ended c.from_residual-in_err-unlink.result
    (then_leads (c.in_ok-check_name.ensures _ ended) (does_leads _ _ _ _ _ c.in_err-unlink.ensures)) (search rules)

pub returns : goal.returns
unfolding settles
returns g c next ended =
    then_leads (c.in_ok-check_name.ensures _ ended) (then_leads (does_leads _ _ _ _ _ c.in_ok-unlink.ensures) (c.sync_folders.ensures next ended))
