use Rattle.std.proofs.Common.{string_bytes}
use Rattle.fts_store.specs.Store.{place_at}
use Rattle.fts_store.proofs.Counted.{counted_look}
use Rattle.fts_store.proofs.folder.FolderStoreStore.size.Goals as goal

pub returns-then-self-clause-script : goal.returns-then-self-clause-script
returns-then-self-clause-script g c =
    counted_look c.args.self.now.deleting (string_bytes c.args.self.now.root) c.args.self.now.met.items (place_at c.args.at) c.count.result c.look_for_good-answer.result _ _
    c.if-self.true c.count.ensures.done c.count.ensures.failed c.look_for_good-answer.ensures.script
