use Rattle.std.proofs.Common.{ap, rules}
use Rattle.fts_files.specs.Script.{fails}
use Rattle.fts_files.proofs.Playing.{then_leads, same_leads, failed}
use Rattle.fts_store.specs.Removing.{sizes_for_good, once_stable}
use Rattle.fts_store.proofs.removing.size_for_good.Goals as goal

pub returns-in_err-found : goal.returns-in_err-found
unfolding sizes_for_good
returns-in_err-found g c next = failed next fails c.from_residual.result (c.in_err-found.ensures _) (search rules)

pub returns-in-Some : goal.returns-in-Some
unfolding sizes_for_good
returns-in-Some g c next = then_leads (c.in_ok-found.ensures _) (same_leads _ _ _ (ap (once_stable c.in_ok-found.found.folder.now next) c.in-Some.is))

pub returns-in_err-sync_folder-in-None : goal.returns-in_err-sync_folder-in-None
unfolding sizes_for_good
returns-in_err-sync_folder-in-None g c next = failed next fails c.from_residual-in_err-sync_folder-in-None.result
    (then_leads (c.in_ok-found.ensures _) (then_leads (same_leads _ _ _ (ap (once_stable c.in_ok-found.found.folder.now next) c.in-None.is)) (c.in_err-sync_folder-in-None.ensures _))) (search rules)

pub returns-in_ok-sync_folder-in-None : goal.returns-in_ok-sync_folder-in-None
unfolding sizes_for_good
returns-in_ok-sync_folder-in-None g c next =
    then_leads (c.in_ok-found.ensures _) (then_leads (same_leads _ _ _ (ap (once_stable c.in_ok-found.found.folder.now next) c.in-None.is)) (c.in_ok-sync_folder-in-None.ensures _))
