use Rattle.std.proofs.Common.{sym, ◌∙◌, rules}
use Rattle.fts_files.specs.Script.{fails}
use Rattle.fts_disk.specs.Service.{service_opens}
use Rattle.fts_files.proofs.Playing.{then_leads, failed, chosen, left}
use Rattle.fts_disk.proofs.service.Service.open.Goals as goal

pub returns-then-not-fits_path-clause-script : goal.returns-then-not-fits_path-clause-script
unfolding service_opens
returns-then-not-fits_path-clause-script g c next = left _ _ _ _ (sym c.fits_path.ensures ∙ c.if-not-fits_path.true)

pub returns-in_err-file-clause-script : goal.returns-in_err-file-clause-script
unfolding service_opens
returns-in_err-file-clause-script g c next = failed (λ service. next _) fails c.from_residual.result
    (then_leads (chosen _ _ _ _ (sym c.fits_path.ensures ∙ c.if-not-fits_path.false)) (c.in_err-file.ensures _)) (search rules)

pub returns-in_err-least-clause-script : goal.returns-in_err-least-clause-script
unfolding service_opens
returns-in_err-least-clause-script g c next = failed (λ service. next _) fails c.from_residual-in_err-least.result
    (then_leads (chosen _ _ _ _ (sym c.fits_path.ensures ∙ c.if-not-fits_path.false)) (then_leads (c.in_ok-file.ensures _) (c.in_err-least.ensures _))) (search rules)

pub returns-clause-script : goal.returns-clause-script
unfolding service_opens
returns-clause-script g c next =
    rw c.new.ensures.file (then_leads (chosen _ _ _ _ (sym c.fits_path.ensures ∙ c.if-not-fits_path.false)) (then_leads (c.in_ok-file.ensures _) (c.in_ok-least.ensures _)))
