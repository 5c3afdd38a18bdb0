use Rattle.std.proofs.Common.{rules}
use Rattle.fts_files.proofs.Playing.{then_leads, does_leads, failed}
use Rattle.fts_files.proofs.Syncings.{folder_leads, folders_end}
use Rattle.fts_files.proofs.moving.sync_folders.Goals as goal

pub returns-in_err-open : goal.returns-in_err-open
returns-in_err-open g c next ended = failed (λ done. next) ended c.from_residual.result
    (then_leads (c.folders.invariant next ended)
    (then_leads (folder_leads _ c.args.folders.now c.folders.folder-index c.folder-item.result next ended _ c.folder-item.is c.folders-test.true)
    ((rw c.as_str.ensures.value at c.in_err-open.ensures) _))) (search rules)

pub returns-in_err-sync_all : goal.returns-in_err-sync_all
returns-in_err-sync_all g c next ended = failed (λ done. next) ended c.from_residual-in_err-sync_all.result
    (then_leads (c.folders.invariant next ended)
    (then_leads (folder_leads _ c.args.folders.now c.folders.folder-index c.folder-item.result next ended _ c.folder-item.is c.folders-test.true)
    (then_leads ((rw c.as_str.ensures.value at c.in_ok-open.ensures) _) (does_leads _ _ _ _ _ c.in_err-sync_all.ensures)))) (search rules)

pub folders-preserved : goal.folders-preserved
folders-preserved g c next ended =
    then_leads (c.folders.invariant next ended)
    (then_leads (folder_leads _ c.args.folders.now c.folders.folder-index c.folder-item.result next ended _ c.folder-item.is c.folders-test.true)
    (then_leads ((rw c.as_str.ensures.value at c.in_ok-open.ensures) _) (does_leads _ _ _ _ _ c.in_ok-sync_all.ensures)))

pub returns : goal.returns
returns g c next ended = then_leads (c.folders.invariant next ended) (folders_end _ c.args.folders.now c.folders.folder-index next ended _ c.folders-test.false)
