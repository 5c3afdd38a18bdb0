use Rattle.std.proofs.Common.{sym, ◌∙◌, rules}
use Rattle.fts_files.specs.Script.{fails}
use Rattle.fts_files.proofs.Playing.{then_leads, does_leads, failed, chosen, left}
use Rattle.fts_store.specs.Folders.{has_folders}
use Rattle.fts_store.proofs.Metings.{there_leads, absent_leads, lowest_leads, none_leads}
use Rattle.fts_store.proofs.folders.have_folders.Goals as goal

pub returns-in_default : goal.returns-in_default
unfolding has_folders
returns-in_default g c next = none_leads _ _ _ _ c.in_default.ensures

pub returns-in_err-device : goal.returns-in_err-device
unfolding has_folders
returns-in_err-device g c next = failed next fails c.from_residual.result
    (then_leads (lowest_leads _ _ _ _ _ c.in-Some.ensures) (c.in_err-device.ensures _)) (search rules)

pub returns-then-is_some : goal.returns-then-is_some
unfolding has_folders
returns-then-is_some g c next =
    then_leads (lowest_leads _ _ _ _ _ c.in-Some.ensures) (then_leads (c.in_ok-device.ensures _) (there_leads _ _ _ _ (sym c.is_some.ensures ∙ c.if-is_some.true)))

pub returns-in-Ok : goal.returns-in-Ok
unfolding has_folders
returns-in-Ok g c next =
    then_leads (lowest_leads _ _ _ _ _ c.in-Some.ensures) (then_leads (c.in_ok-device.ensures _) (then_leads (absent_leads _ _ _ _ (sym c.is_some.ensures ∙ c.if-is_some.false))
    (does_leads _ _ _ _ _ c.in-Ok.ensures)))

pub returns-in-Err : goal.returns-in-Err
unfolding has_folders
returns-in-Err g c next =
    then_leads (lowest_leads _ _ _ _ _ c.in-Some.ensures) (then_leads (c.in_ok-device.ensures _) (then_leads (absent_leads _ _ _ _ (sym c.is_some.ensures ∙ c.if-is_some.false))
    (then_leads (does_leads _ _ _ _ _ c.in-Err.ensures) (chosen _ _ _ _ (sym c.is_taken.ensures ∙ c.if-is_taken.true)))))

pub returns-in_err-make_all-in-Err-2 : goal.returns-in_err-make_all-in-Err-2
unfolding has_folders
returns-in_err-make_all-in-Err-2 g c next = failed next fails c.from_residual-in_err-make_all-in-Err-2.result
    (then_leads (lowest_leads _ _ _ _ _ c.in-Some.ensures) (then_leads (c.in_ok-device.ensures _) (then_leads (absent_leads _ _ _ _ (sym c.is_some.ensures ∙ c.if-is_some.false))
    (then_leads (does_leads _ _ _ _ _ c.in-Err.ensures) (then_leads (left _ _ _ _ (sym c.is_taken.ensures ∙ c.if-is_taken.false))
    (then_leads (chosen _ _ _ _ (sym c.is_missing.ensures ∙ c.if-is_missing.true)) (c.in_err-make_all-in-Err-2.ensures _))))))) (search rules)

pub returns-in_ok-make_all-in-Err-2 : goal.returns-in_ok-make_all-in-Err-2
unfolding has_folders
returns-in_ok-make_all-in-Err-2 g c next =
    then_leads (lowest_leads _ _ _ _ _ c.in-Some.ensures) (then_leads (c.in_ok-device.ensures _) (then_leads (absent_leads _ _ _ _ (sym c.is_some.ensures ∙ c.if-is_some.false))
    (then_leads (does_leads _ _ _ _ _ c.in-Err.ensures) (then_leads (left _ _ _ _ (sym c.is_taken.ensures ∙ c.if-is_taken.false))
    (then_leads (chosen _ _ _ _ (sym c.is_missing.ensures ∙ c.if-is_missing.true)) (c.in_ok-make_all-in-Err-2.ensures _))))))

pub returns-in-Err-3 : goal.returns-in-Err-3
unfolding has_folders
returns-in-Err-3 g c next =
    then_leads (lowest_leads _ _ _ _ _ c.in-Some.ensures) (then_leads (c.in_ok-device.ensures _) (then_leads (absent_leads _ _ _ _ (sym c.is_some.ensures ∙ c.if-is_some.false))
    (then_leads (does_leads _ _ _ _ _ c.in-Err.ensures) (then_leads (left _ _ _ _ (sym c.is_taken.ensures ∙ c.if-is_taken.false))
    (left _ _ _ _ (sym c.is_missing.ensures ∙ c.if-is_missing.false))))))
