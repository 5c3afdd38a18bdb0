use Rattle.std.proofs.Common.{rules}
use Rattle.fts_files.specs.Script.{fails}
use Rattle.fts_disk.specs.Opening.{stays}
use Rattle.fts_files.proofs.Playing.{then_leads, does_leads, failed, same_leads}
use Rattle.fts_disk.proofs.opening.stay.Goals as goal

pub returns-in_err-there : goal.returns-in_err-there
unfolding stays
returns-in_err-there g c next = failed next fails c.from_residual.result (does_leads _ _ _ _ _ c.in_err-there.ensures) (search rules)

pub returns-in_err-opened : goal.returns-in_err-opened
unfolding stays
returns-in_err-opened g c next = failed next fails c.from_residual-in_err-opened.result
    (then_leads (does_leads _ _ _ _ _ c.in_ok-there.ensures) (does_leads _ _ _ _ _ c.in_err-opened.ensures)) (search rules)

pub returns : goal.returns
unfolding stays
returns g c next =
    then_leads (does_leads _ _ _ _ _ c.in_ok-there.ensures) (then_leads (does_leads _ _ _ _ _ c.in_ok-opened.ensures) (same_leads _ _ _ (c.kept_len.ensures next)))
