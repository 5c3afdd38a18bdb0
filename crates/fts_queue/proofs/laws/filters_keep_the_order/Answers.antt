use Rattle.fts_queue.specs.WaitingData.{goes_before}
use Rattle.fts_queue.proofs.Sorting.{any_sorted, count_sorted, filter_of_sorted, count_put, any_put}
use Rattle.fts_queue.proofs.Orders.{waiting_order}
use Rattle.fts_queue.proofs.laws.filters_keep_the_order.Goals as goal

pub returns : goal.returns
returns c = record {
  any = any_sorted goes_before;
  count = count_sorted goes_before;
  which = filter_of_sorted goes_before waiting_order;
  one_more = count_put goes_before;
  any_more = any_put goes_before;
}
