use Rattle.std.proofs.Common.{string_bytes, rules}
use Rattle.fts_files.proofs.Playing.{then_leads}
use Rattle.fts_store.proofs.Listings.{stops, goes_on}
use Rattle.fts_store.proofs.Sweepings.{folder_leads, folders_end}
use Rattle.fts_store.proofs.sweep.sweep_folders.Goals as goal

pub names-preserved : goal.names-preserved
names-preserved g c next =
    then_leads (c.names.invariant next)
    (then_leads (folder_leads string_bytes _ c.args.names.now c.names.name-index next _ c.name-item.result c.name-item.is c.names-test.true)
    ((rw c.as_str.ensures.value at c.in_ok-sweep_folder.ensures) _).1)

pub returns-in_err-sweep_folder : goal.returns-in_err-sweep_folder
returns-in_err-sweep_folder g c next = stops c.from_residual.result (λ done. next)
    (then_leads (c.names.invariant next)
    (then_leads (folder_leads string_bytes _ c.args.names.now c.names.name-index next _ c.name-item.result c.name-item.is c.names-test.true)
    ((rw c.as_str.ensures.value at c.in_err-sweep_folder.ensures) _).1)) (search rules)

pub returns : goal.returns
returns g c next = goes_on (then_leads (c.names.invariant next) (folders_end string_bytes _ c.args.names.now c.names.name-index next _ c.names-test.false))
