use Rattle.std.proofs.Common.{◌++◌, ap, ◌∙◌}
use Rattle.fts_queue.specs.WaitingData.{goes_before, in_order, without_file}
use Rattle.fts_queue.proofs.Sorting.{sorted_anywhere, sorted_keeps, sorted_stays, without_put, apart_middle, any_sorted}
use Rattle.fts_queue.proofs.Orders.{waiting_order}
use Rattle.fts_queue.proofs.laws.order_is_of_the_set.Goals as goal

pub returns : goal.returns
returns c = record {
  inserted = sorted_anywhere goes_before waiting_order;
  removed = λ before after waiter apart.
      ap (without_file waiter.file) (sorted_anywhere goes_before waiting_order before after waiter apart)
      ∙ without_put goes_before waiter (in_order (before ++ after))
      (any_sorted goes_before _ (before ++ after) ∙ (apart_middle before after waiter apart).0);
  sorted = sorted_keeps goes_before waiting_order;
  stays = sorted_stays goes_before;
}
