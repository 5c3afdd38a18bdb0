-- Each clause of the law.
use Rattle.fts_ledger.proofs.Stores.{copies_in_all, turn_follows, turns_follow, worker_follows}
use Rattle.fts_ledger.proofs.laws.undisturbed_stores_follow.Goals as goal

pub returns : goal.returns
returns g c =
    let machine = c.machine_laws.ensures in
    let orders = c.orders_stay.ensures.active in
    record {
      turn = turn_follows g.E.Store machine orders;
      turns = turns_follow g.E.Store machine orders;
      worker = worker_follows g.E.Store machine orders;
      copies = copies_in_all;
    }
