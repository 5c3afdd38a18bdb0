use Rattle.std.proofs.Common.{sym, ◌∙◌, rules}
use Rattle.fts_files.specs.Script.{fails}
use Rattle.fts_files.proofs.Playing.{then_leads, does_leads, failed, chosen, left}
use Rattle.fts_store.specs.Folders.{makes_one}
use Rattle.fts_store.proofs.Metings.{there_leads, absent_leads}
use Rattle.fts_store.proofs.folders.make_one.Goals as goal

pub returns-in_err-device : goal.returns-in_err-device
unfolding makes_one
returns-in_err-device g c next = failed (λ done. next) fails c.from_residual.result (c.in_err-device.ensures _) (search rules)

pub returns-then-is_some : goal.returns-then-is_some
unfolding makes_one
returns-then-is_some g c next = then_leads (c.in_ok-device.ensures _) (there_leads _ _ _ _ (sym c.is_some.ensures ∙ c.if-is_some.true))

pub returns-in-Ok : goal.returns-in-Ok
unfolding makes_one
returns-in-Ok g c next = then_leads (c.in_ok-device.ensures _) (then_leads (absent_leads _ _ _ _ (sym c.is_some.ensures ∙ c.if-is_some.false)) (does_leads _ _ _ _ _ c.in-Ok.ensures))

pub returns-in-Err : goal.returns-in-Err
unfolding makes_one
returns-in-Err g c next =
    then_leads (c.in_ok-device.ensures _) (then_leads (absent_leads _ _ _ _ (sym c.is_some.ensures ∙ c.if-is_some.false))
    (then_leads (does_leads _ _ _ _ _ c.in-Err.ensures) (chosen _ _ _ _ (sym c.is_taken.ensures ∙ c.if-is_taken.true))))

pub returns-in-Err-2 : goal.returns-in-Err-2
unfolding makes_one
returns-in-Err-2 g c next =
    then_leads (c.in_ok-device.ensures _) (then_leads (absent_leads _ _ _ _ (sym c.is_some.ensures ∙ c.if-is_some.false))
    (then_leads (does_leads _ _ _ _ _ c.in-Err.ensures) (left _ _ _ _ (sym c.is_taken.ensures ∙ c.if-is_taken.false))))
