use Rattle.std.proofs.Common.{string_bytes}
use Rattle.fts_store.specs.Store.{place_at}
use Rattle.fts_store.specs.FolderCalls.{removes_in}
use Rattle.fts_store.proofs.Counted.{counted}
use Rattle.fts_store.proofs.folder.FolderStoreStore.remove.Goals as goal

pub returns-clause-script : goal.returns-clause-script
returns-clause-script g c =
    counted c.count.result c.erase-answer.result _ _ (removes_in c.args.self.now.deleting (string_bytes c.args.self.now.root) c.args.self.now.met.items (place_at c.args.at))
    c.count.ensures.done c.count.ensures.failed c.erase-answer.ensures.script
