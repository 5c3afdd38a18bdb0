use Rattle.fts_queue.specs.WaitingData.{goes_before}
use Rattle.fts_queue.proofs.Sorting.{first_is_least}
use Rattle.fts_queue.proofs.Orders.{waiting_order}
use Rattle.fts_queue.proofs.laws.first_is_the_best.Goals as goal

pub returns : goal.returns
returns c = record { best = first_is_least goes_before waiting_order }
