use Rattle.std.proofs.Common.{rules}
use Rattle.fts_files.specs.Script.{fails}
use Rattle.fts_files.proofs.Playing.{then_leads, does_leads, failed}
use Rattle.fts_disk.proofs.Guardings.{nothing_leads, kept_leads}
use Rattle.fts_disk.proofs.guard.restore.Goals as goal

pub returns-in_err-sync_all-in-Nothing : goal.returns-in_err-sync_all-in-Nothing
returns-in_err-sync_all-in-Nothing g c next = failed next fails c.from_residual.result
    (then_leads (nothing_leads _ c.args.state c.in-Nothing.from next _ c.in-Nothing.is) (does_leads _ _ _ _ _ c.in_err-sync_all-in-Nothing.ensures)) (search rules)

pub returns-in_err-forget-in-Nothing : goal.returns-in_err-forget-in-Nothing
returns-in_err-forget-in-Nothing g c next = failed next fails c.from_residual-in_err-forget-in-Nothing.result
    (then_leads (nothing_leads _ c.args.state c.in-Nothing.from next _ c.in-Nothing.is)
    (then_leads (does_leads _ _ _ _ _ c.in_ok-sync_all-in-Nothing.ensures) (does_leads _ _ _ _ _ c.in_err-forget-in-Nothing.ensures))) (search rules)

pub returns-in_err-seen-in-Nothing : goal.returns-in_err-seen-in-Nothing
returns-in_err-seen-in-Nothing g c next = failed next fails c.from_residual-in_err-seen-in-Nothing.result
    (then_leads (nothing_leads _ c.args.state c.in-Nothing.from next _ c.in-Nothing.is)
    (then_leads (does_leads _ _ _ _ _ c.in_ok-sync_all-in-Nothing.ensures) (then_leads (does_leads _ _ _ _ _ c.in_ok-forget-in-Nothing.ensures) (does_leads _ _ _ _ _ c.in_err-seen-in-Nothing.ensures)))) (search rules)

pub returns-in_ok-seen-in-Nothing : goal.returns-in_ok-seen-in-Nothing
returns-in_ok-seen-in-Nothing g c next =
    rw c.min.ensures (then_leads (nothing_leads _ c.args.state c.in-Nothing.from next _ c.in-Nothing.is)
    (then_leads (does_leads _ _ _ _ _ c.in_ok-sync_all-in-Nothing.ensures) (then_leads (does_leads _ _ _ _ _ c.in_ok-forget-in-Nothing.ensures) (does_leads _ _ _ _ _ c.in_ok-seen-in-Nothing.ensures))))

pub returns-in-Whole : goal.returns-in-Whole
returns-in-Whole g c next = kept_leads _ c.args.state next _ c.in-Whole.is
