use Rattle.std.proofs.Common.{rules}
use Rattle.fts_files.specs.Script.{fails}
use Rattle.fts_files.specs.Moving.{replaces}
use Rattle.fts_files.proofs.Playing.{then_leads, does_leads, failed}
use Rattle.fts_files.proofs.moving.replace.Goals as goal

pub returns-in_err-check_name : goal.returns-in_err-check_name
unfolding replaces
returns-in_err-check_name g c next = failed (λ done. next) fails c.from_residual.result (c.in_err-check_name.ensures _ fails) (search rules)

pub returns-in_err-rename : goal.returns-in_err-rename
unfolding replaces
returns-in_err-rename g c next = failed (λ done. next) fails c.from_residual-in_err-rename.result
    (then_leads (c.in_ok-check_name.ensures _ fails) (does_leads _ _ _ _ _ c.in_err-rename.ensures)) (search rules)

pub returns-in-Ok : goal.returns-in-Ok
unfolding replaces
returns-in-Ok g c next =
    then_leads (c.in_ok-check_name.ensures _ fails) (then_leads (does_leads _ _ _ _ _ c.in_ok-rename.ensures)
    (then_leads (c.in-Ok.ensures _ _) (c.sync_folders.ensures next fails)))

pub returns-in-Err : goal.returns-in-Err
unfolding replaces
returns-in-Err g c next = failed (λ done. next) fails c.take_back.result
    (then_leads (c.in_ok-check_name.ensures _ fails) (then_leads (does_leads _ _ _ _ _ c.in_ok-rename.ensures)
    (then_leads (c.in-Err.ensures _ _) c.take_back.ensures.script))) c.take_back.ensures.failed
