use Rattle.std.proofs.Common.{sym, ◌∙◌, rules}
use Rattle.fts_files.specs.Script.{fails}
use Rattle.fts_disk.specs.Opening.{opens_or_makes}
use Rattle.fts_files.proofs.Playing.{then_leads, does_leads, failed, chosen, left}
use Rattle.fts_disk.proofs.opening.open_or_make.Goals as goal

pub returns-in-Ok : goal.returns-in-Ok
unfolding opens_or_makes
returns-in-Ok g c next = does_leads _ _ _ _ _ c.in-Ok.ensures

pub returns-in_err-open-in-Err : goal.returns-in_err-open-in-Err
unfolding opens_or_makes
returns-in_err-open-in-Err g c next = failed (λ file. next (g.F.FileSystem.number file)) fails c.from_residual.result
    (then_leads (does_leads _ _ _ _ _ c.in-Err.ensures) (then_leads (chosen _ _ _ _ (sym c.is_missing.ensures ∙ c.if-is_missing.true)) (does_leads _ _ _ _ _ c.in_err-open-in-Err.ensures))) (search rules)

pub returns-in_ok-open-in-Err : goal.returns-in_ok-open-in-Err
unfolding opens_or_makes
returns-in_ok-open-in-Err g c next =
    then_leads (does_leads _ _ _ _ _ c.in-Err.ensures) (then_leads (chosen _ _ _ _ (sym c.is_missing.ensures ∙ c.if-is_missing.true)) (does_leads _ _ _ _ _ c.in_ok-open-in-Err.ensures))

pub returns-in-Err-2 : goal.returns-in-Err-2
unfolding opens_or_makes
returns-in-Err-2 g c next = then_leads (does_leads _ _ _ _ _ c.in-Err.ensures) (left _ _ _ _ (sym c.is_missing.ensures ∙ c.if-is_missing.false))
