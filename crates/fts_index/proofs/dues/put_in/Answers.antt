use Rattle.std.proofs.Common.{◌+◌, ap, sym, ◌∙◌, subst}
use Rattle.ordered.specs.Orders.{KeySet, AreSortedBy}
use Rattle.ordered.proofs.Lists.{put_sorted}
use Rattle.ordered.proofs.Members.{count_put}
use Rattle.std.specs.Prelude.{count_by}
use Rattle.fts_tables.specs.Dues.{Due, is_due_before}
use Rattle.fts_index.specs.DueOrder.{dues_are_ordered}
use Rattle.fts_index.specs.DueLists.{due_at, counted}
use Rattle.fts_index.proofs.CountedDues.{absent_due}
use Rattle.fts_index.proofs.dues.put_in.Goals as goal

pub insert-requires-clause-absent : goal.insert-requires-clause-absent
insert-requires-clause-absent c = absent_due c.args.file c.in-Some.moment c.args.dues.now.keys c.requires.absent

pub returns-in-Some-clause-counts : goal.returns-in-Some-clause-counts
returns-in-Some-clause-counts c = λ test.
    ap (λ (set : KeySet Due). count_by test set.keys) c.insert.ensures.keys
    ∙ (count_put is_due_before test (due_at c.args.file c.in-Some.moment) c.args.dues.now.keys
    ∙ ap (λ moment. count_by test c.args.dues.now.keys + counted test c.args.file moment) (sym c.in-Some.is))

pub returns-in-Some-clause-order : goal.returns-in-Some-clause-order
returns-in-Some-clause-order c =
    subst (λ (set : KeySet Due). AreSortedBy is_due_before set.keys) (sym c.insert.ensures.keys)
    (put_sorted is_due_before dues_are_ordered (due_at c.args.file c.in-Some.moment) c.args.dues.now.keys c.requires.order
    (absent_due c.args.file c.in-Some.moment c.args.dues.now.keys c.requires.absent))
