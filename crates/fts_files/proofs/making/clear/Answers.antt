use Rattle.std.proofs.Common.{rules}
use Rattle.fts_files.specs.Script.{fails}
use Rattle.fts_files.specs.Making.{clears}
use Rattle.fts_files.proofs.Playing.{then_leads, does_leads, failed}
use Rattle.fts_files.proofs.Makings.{plain_leads, other_leads}
use Rattle.fts_files.proofs.making.clear.Goals as goal

pub returns-in_err-found : goal.returns-in_err-found
unfolding clears
returns-in_err-found g c next = failed (λ done. next) fails c.from_residual.result (does_leads _ _ _ _ _ c.in_err-found.ensures) (search rules)

pub returns-in-File : goal.returns-in-File
unfolding clears
returns-in-File g c next =
    then_leads (does_leads _ _ _ _ _ c.in_ok-found.ensures) (then_leads (plain_leads _ _ _ _ c.in-File.is) (c.clear_plain.ensures next fails))

pub returns-in_err-unlink-in-Folder : goal.returns-in_err-unlink-in-Folder
unfolding clears
returns-in_err-unlink-in-Folder g c next = failed (λ done. next) fails c.from_residual-in_err-unlink-in-Folder.result
    (then_leads (does_leads _ _ _ _ _ c.in_ok-found.ensures) (then_leads (other_leads _ _ _ _ c.in-Folder.is) (does_leads _ _ _ _ _ c.in_err-unlink-in-Folder.ensures))) (search rules)

pub returns-in_ok-unlink-in-Folder : goal.returns-in_ok-unlink-in-Folder
unfolding clears
returns-in_ok-unlink-in-Folder g c next =
    then_leads (does_leads _ _ _ _ _ c.in_ok-found.ensures) (then_leads (other_leads _ _ _ _ c.in-Folder.is) (does_leads _ _ _ _ _ c.in_ok-unlink-in-Folder.ensures))
