use Rattle.std.proofs.Common.{Bool, refl, ap, sym, ◌∙◌, subst, arith}
use Rattle.std.specs.Prelude.{◌&&◌, ◌||◌}
use Rattle.ordered.specs.Orders.{AreSortedBy, KeySet, has_key}
use Rattle.fts_heads.specs.declared.ripe_file.Lined.{Lined}
use Rattle.fts_heads.specs.Keys.{is_line_before}
use Rattle.fts_heads.specs.RipeFiles.{goes_by_group}
use Rattle.fts_heads.specs.Heads.{leads, is_lined, is_within}
use Rattle.fts_heads.proofs.Ranges.{leader}
use Rattle.fts_heads.proofs.Walks.{IsHead, head_there, head_in, head_later, entered_one, entered_all, none_entered, fewer_lined, still_wait}
use Rattle.fts_heads.proofs.walk.enter.Goals as goal

pub loop-head-init : goal.loop-head-init
loop-head-init c = record {
  from = omega arith;
  to = c.requires.range;
  lined = λ waiter. none_entered (is_lined c.args.line.now.keys waiter) (leads c.args.files.now.keys waiter) c.args.dest c.args.from waiter.dest waiter.queue;
  room = refl;
}

pub insert-requires-clause-absent : goal.insert-requires-clause-absent
insert-requires-clause-absent c =
    let head = c.in-Some.head in
    let files = c.args.files.now.keys in
    let is : IsHead files c.args.dest c.args.from c.loop-head.queue c.args.to c.loop-head.invariant.from head =
    record { past = c.in-Some.ensures.past.0; before = c.in-Some.ensures.past.1; alone = c.in-Some.ensures.alone } in
    c.loop-head.invariant.lined head
    ∙ (ap (λ (test : Bool). test || (is_within c.args.dest c.args.from c.loop-head.queue head && leads files head))
    (c.requires.apart head (head_in files c.args.dest c.args.from c.loop-head.queue c.args.to c.loop-head.invariant.from head is))
    ∙ ap (λ (test : Bool). test && leads files head)
    (head_later files c.args.dest c.args.from c.loop-head.queue c.args.to c.loop-head.invariant.from head is))

pub insert-requires-clause-room : goal.insert-requires-clause-room
insert-requires-clause-room c =
    let head = c.in-Some.head in
    let files = c.args.files.now.keys in
    let is : IsHead files c.args.dest c.args.from c.loop-head.queue c.args.to c.loop-head.invariant.from head =
    record { past = c.in-Some.ensures.past.0; before = c.in-Some.ensures.past.1; alone = c.in-Some.ensures.alone } in
    let lines = subst (λ (set : KeySet Lined). AreSortedBy is_line_before set.keys) c.files.ensures.files c.len-in-Some.ensures.order in
    let fewer =
    fewer_lined c.loop-head.line.keys files head lines c.len.ensures.order
    (λ waiter lined. still_wait (is_lined c.args.line.now.keys waiter) (is_within c.args.dest c.args.from c.loop-head.queue waiter) (leads files waiter)
    (has_key goes_by_group waiter files) (c.requires.wait waiter) (λ first. (leader files waiter first).there)
    (sym (c.loop-head.invariant.lined waiter) ∙ lined))
    (head_there files c.args.dest c.args.from c.loop-head.queue c.args.to c.loop-head.invariant.from head is)
    (c.loop-head.invariant.lined head
    ∙ (ap (λ (test : Bool). test || (is_within c.args.dest c.args.from c.loop-head.queue head && leads files head))
    (c.requires.apart head (head_in files c.args.dest c.args.from c.loop-head.queue c.args.to c.loop-head.invariant.from head is))
    ∙ ap (λ (test : Bool). test && leads files head)
    (head_later files c.args.dest c.args.from c.loop-head.queue c.args.to c.loop-head.invariant.from head is))) in
    omega (arith, fewer, c.len.ensures.room, c.requires.room, c.loop-head.invariant.room)

pub loop-head-preserved : goal.loop-head-preserved
loop-head-preserved c =
    let head = c.in-Some.head in
    let files = c.args.files.now.keys in
    let is : IsHead files c.args.dest c.args.from c.loop-head.queue c.args.to c.loop-head.invariant.from head =
    record { past = c.in-Some.ensures.past.0; before = c.in-Some.ensures.past.1; alone = c.in-Some.ensures.alone } in
    record {
      from = omega (arith, c.loop-head.invariant.from, c.in-Some.ensures.past.0);
      to = omega (arith, c.in-Some.ensures.past.1);
      lined = λ waiter. ap (λ set. is_lined set.keys waiter) c.insert.ensures.keys
          ∙ entered_one files c.args.dest c.args.from c.loop-head.queue c.args.to c.loop-head.invariant.from c.args.line.now.keys c.loop-head.line.keys head is
          c.loop-head.invariant.lined waiter;
      room = ap (λ set. set.room) c.insert.ensures.keys ∙ c.loop-head.invariant.room;
    }

pub returns-clause-lined : goal.returns-clause-lined
returns-clause-lined c =
    entered_all c.args.files.now.keys c.args.dest c.args.from c.loop-head.queue c.args.to c.loop-head.invariant.from c.args.line.now.keys c.loop-head.line.keys
    c.loop-head.invariant.to c.in_default.ensures.none c.loop-head.invariant.lined
