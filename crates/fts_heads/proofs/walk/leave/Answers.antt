use Rattle.std.proofs.Common.{Bool, refl, ap, ◌∙◌, arith}
use Rattle.std.specs.Prelude.{not, ◌&&◌}
use Rattle.fts_heads.specs.Heads.{leads, is_lined, is_within}
use Rattle.fts_heads.proofs.Walks.{IsHead, head_in, head_later, left_one, left_all, none_left}
use Rattle.fts_heads.proofs.walk.leave.Goals as goal

pub loop-head-init : goal.loop-head-init
loop-head-init c = record {
  from = omega arith;
  to = c.requires.range;
  lined = λ waiter. none_left (is_lined c.args.line.now.keys waiter) (leads c.args.files.now.keys waiter) c.args.dest c.args.from waiter.dest waiter.queue;
  room = refl;
}

pub remove-requires : goal.remove-requires
remove-requires c =
    let head = c.in-Some.head in
    let files = c.args.files.now.keys in
    let old = c.args.line.now.keys in
    let is : IsHead files c.args.dest c.args.from c.loop-head.queue c.args.to c.loop-head.invariant.from head =
    record { past = c.in-Some.ensures.past.0; before = c.in-Some.ensures.past.1; alone = c.in-Some.ensures.alone } in
    record {
      there = c.loop-head.invariant.lined head
          ∙ (ap (λ (test : Bool). test && not (is_within c.args.dest c.args.from c.loop-head.queue head && leads files head))
          (c.requires.stand head (head_in files c.args.dest c.args.from c.loop-head.queue c.args.to c.loop-head.invariant.from head is))
          ∙ ap (λ (test : Bool). not (test && leads files head))
          (head_later files c.args.dest c.args.from c.loop-head.queue c.args.to c.loop-head.invariant.from head is));
    }

pub loop-head-preserved : goal.loop-head-preserved
loop-head-preserved c =
    let head = c.in-Some.head in
    let files = c.args.files.now.keys in
    let is : IsHead files c.args.dest c.args.from c.loop-head.queue c.args.to c.loop-head.invariant.from head =
    record { past = c.in-Some.ensures.past.0; before = c.in-Some.ensures.past.1; alone = c.in-Some.ensures.alone } in
    record {
      from = omega (arith, c.loop-head.invariant.from, c.in-Some.ensures.past.0);
      to = omega (arith, c.in-Some.ensures.past.1);
      lined = λ waiter. ap (λ set. is_lined set.keys waiter) c.remove.ensures.keys
          ∙ left_one files c.args.dest c.args.from c.loop-head.queue c.args.to c.loop-head.invariant.from c.args.line.now.keys c.loop-head.line.keys head is
          c.loop-head.invariant.lined waiter;
      room = ap (λ set. set.room) c.remove.ensures.keys ∙ c.loop-head.invariant.room;
    }

pub returns-clause-lined : goal.returns-clause-lined
returns-clause-lined c =
    left_all c.args.files.now.keys c.args.dest c.args.from c.loop-head.queue c.args.to c.loop-head.invariant.from c.args.line.now.keys c.loop-head.line.keys
    c.loop-head.invariant.to c.in_default.ensures.none c.loop-head.invariant.lined
