use Rattle.std.proofs.Common.{◌≡◌, ◌≤◌, ◌+◌, false, ap, ◌∙◌, subst, arith}
use Rattle.std.specs.Prelude.{◌&&◌, ◌||◌}
use Rattle.ordered.specs.Orders.{AreSortedBy, KeySet}
use Rattle.fts_heads.specs.declared.ripe_file.Lined.{Lined}
use Rattle.fts_heads.specs.Keys.{is_line_before}
use Rattle.fts_heads.specs.Heads.{leads, is_lined, is_within}
use Rattle.fts_heads.proofs.Walks.{IsHead, head_there, head_in, entered_one, none_entered, fewer_lined}
use Rattle.fts_heads.proofs.walk.follow.Goals as goal
use Rattle.fts_heads.proofs.walk.follow.Goals.{In-Some}

-- who leads in the queue
module _ (c : In-Some) where
  here : c.args.queue ≤ c.args.queue
  here = omega arith

  is_head : IsHead c.args.files.now.keys c.args.dest c.args.queue c.args.queue (c.args.queue + 1) here c.in-Some.head
  is_head = record { past = c.in-Some.ensures.past.0; before = c.in-Some.ensures.past.1; alone = c.in-Some.ensures.alone }

  not_lined : is_lined c.args.line.now.keys c.in-Some.head ≡ false
  not_lined =
      c.requires.apart c.in-Some.head (head_in c.args.files.now.keys c.args.dest c.args.queue c.args.queue (c.args.queue + 1) here c.in-Some.head is_head)

pub insert-requires-clause-room : goal.insert-requires-clause-room
insert-requires-clause-room c =
    let there = (goal.at.insert-requires-clause-room c).In-Some in
    let lines = subst (λ (set : KeySet Lined). AreSortedBy is_line_before set.keys) c.files.ensures.files c.len-2.ensures.order in
    let fewer =
    fewer_lined c.args.line.now.keys c.args.files.now.keys c.in-Some.head lines c.len.ensures.order c.requires.wait
    (head_there c.args.files.now.keys c.args.dest c.args.queue c.args.queue (c.args.queue + 1) (here there) c.in-Some.head (is_head there)) (not_lined there) in
    omega (arith, fewer, c.len.ensures.room, c.requires.room)

pub returns-in-Some-clause-lined : goal.returns-in-Some-clause-lined
returns-in-Some-clause-lined c =
    let there = (goal.at.returns-in-Some-clause-lined c).In-Some in
    λ waiter. ap (λ set. is_lined set.keys waiter) c.insert.ensures.keys
    ∙ (entered_one c.args.files.now.keys c.args.dest c.args.queue c.args.queue (c.args.queue + 1) (here there) c.args.line.now.keys c.args.line.now.keys
    c.in-Some.head (is_head there)
    (λ other. none_entered (is_lined c.args.line.now.keys other) (leads c.args.files.now.keys other) c.args.dest c.args.queue other.dest other.queue) waiter
    ∙ ap (λ n. is_lined c.args.line.now.keys waiter || (is_within c.args.dest c.args.queue (n + 1) waiter && leads c.args.files.now.keys waiter))
    {x = c.in-Some.head.queue} {y = c.args.queue} (omega (arith, c.in-Some.ensures.past.0, c.in-Some.ensures.past.1)))
