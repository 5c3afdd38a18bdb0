use Rattle.std.proofs.Common.{Bool, cond, Some, None, ap, sym, ◌∙◌}
use Rattle.std.proofs.lemmas.Bool.{eq-eqb, ne_eqb}
use Rattle.fts_heads.proofs.Starts.{of_queue, first_of_queue}
use Rattle.fts_heads.proofs.line.first_in_line.Goals as goal

pub returns-then-found-queue : goal.returns-then-found-queue
returns-then-found-queue c = record {
  first = sym (ap (λ (test : Bool). cond test (Some c.in-Some.found.waiter) None) (eq-eqb c.in-Some.found.waiter.queue c.args.queue c.if-found-queue.true))
      ∙ (ap (of_queue c.args.queue) c.in-Some.ensures.key ∙ first_of_queue c.args.queue c.args.line.now.keys c.len.ensures.order);
}

pub returns-else-found-queue : goal.returns-else-found-queue
returns-else-found-queue c = record {
  first = sym (ap (λ (test : Bool). cond test (Some c.in-Some.found.waiter) None) (ne_eqb c.in-Some.found.waiter.queue c.args.queue c.if-found-queue.false))
      ∙ (ap (of_queue c.args.queue) c.in-Some.ensures.key ∙ first_of_queue c.args.queue c.args.line.now.keys c.len.ensures.order);
}

pub returns-in-None : goal.returns-in-None
returns-in-None c = record {
  first = ap (of_queue c.args.queue) c.in-None.ensures.key ∙ first_of_queue c.args.queue c.args.line.now.keys c.len.ensures.order;
}
