use Rattle.std.proofs.Common.{◌+◌, Some, ap, sym, ◌∙◌, subst}
use Rattle.ordered.specs.Orders.{KeySet, AreSortedBy, differs, has_key}
use Rattle.ordered.proofs.Lists.{filter_sorted}
use Rattle.ordered.proofs.Members.{count_without}
use Rattle.std.specs.Prelude.{count_by, IsTrue, IfSome}
use Rattle.fts_tables.specs.Dues.{Due, is_due_before}
use Rattle.fts_index.specs.DueOrder.{dues_are_ordered}
use Rattle.fts_index.specs.DueLists.{due_at, counted}
use Rattle.fts_index.proofs.dues.take_out.Goals as goal

pub returns-in-Some-clause-counts : goal.returns-in-Some-clause-counts
returns-in-Some-clause-counts c = λ test.
    let there = subst (λ moment. IfSome moment (λ from. IsTrue (has_key is_due_before (due_at c.args.file from) c.args.dues.now.keys))) c.in-Some.is
    c.requires.there in
    ap (λ moment. count_by test c.remove.new.self.keys + counted test c.args.file moment) c.in-Some.is
    ∙ (ap (λ (set : KeySet Due). count_by test set.keys + counted test c.args.file (Some c.in-Some.moment)) c.remove.ensures.keys
    ∙ count_without is_due_before dues_are_ordered test (due_at c.args.file c.in-Some.moment) c.args.dues.now.keys c.requires.order there)

pub returns-in-Some-clause-order : goal.returns-in-Some-clause-order
returns-in-Some-clause-order c =
    subst (λ (set : KeySet Due). AreSortedBy is_due_before set.keys) (sym c.remove.ensures.keys)
    (filter_sorted is_due_before (λ other. differs is_due_before other (due_at c.args.file c.in-Some.moment)) c.args.dues.now.keys c.requires.order)
