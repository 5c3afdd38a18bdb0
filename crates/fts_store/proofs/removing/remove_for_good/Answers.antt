use Rattle.std.proofs.Common.{◌∷◌, [], ap, rules}
use Rattle.fts_files.specs.Moving.{syncs}
use Rattle.fts_files.specs.Script.{fails}
use Rattle.fts_files.proofs.Playing.{then_leads, same_leads, failed}
use Rattle.fts_store.specs.Removing.{removes_for_good, taken}
use Rattle.fts_store.proofs.removing.remove_for_good.Goals as goal

pub returns-in_err-found : goal.returns-in_err-found
unfolding removes_for_good
returns-in_err-found g c next = failed (λ done. next) fails c.from_residual.result (c.in_err-found.ensures _) (search rules)

pub returns-in_err-remove-in-Some : goal.returns-in_err-remove-in-Some
unfolding removes_for_good
returns-in_err-remove-in-Some g c next = failed (λ done. next) fails c.from_residual-in_err-remove-in-Some.result
    (then_leads (c.in_ok-found.ensures _) (then_leads (same_leads _ _ _ (ap (taken c.args.path.now (syncs (c.in_ok-found.found.folder.now ∷ []) next fails)) c.in-Some.is))
    (c.in_err-remove-in-Some.ensures _))) (search rules)

pub returns-in_ok-remove-in-Some : goal.returns-in_ok-remove-in-Some
unfolding removes_for_good
returns-in_ok-remove-in-Some g c next =
    then_leads (c.in_ok-found.ensures _) (then_leads (same_leads _ _ _ (ap (taken c.args.path.now (syncs (c.in_ok-found.found.folder.now ∷ []) next fails)) c.in-Some.is))
    (then_leads (c.in_ok-remove-in-Some.ensures _) (c.sync_folder.ensures next)))

pub returns-in-None : goal.returns-in-None
unfolding removes_for_good
returns-in-None g c next =
    then_leads (c.in_ok-found.ensures _) (then_leads (same_leads _ _ _ (ap (taken c.args.path.now (syncs (c.in_ok-found.found.folder.now ∷ []) next fails)) c.in-None.is))
    (c.sync_folder-in-None.ensures next))
