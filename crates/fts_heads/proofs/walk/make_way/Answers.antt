use Rattle.std.proofs.Common.{◌≡◌, ◌≤◌, ◌+◌, Bool, true, ap, sym, ◌∙◌, arith}
use Rattle.std.specs.Prelude.{not, ◌&&◌}
use Rattle.fts_heads.specs.RipeFiles.{goes_by_group}
use Rattle.fts_heads.specs.Heads.{is_lined, is_within, leads}
use Rattle.fts_heads.proofs.Ranges.{within, both_same}
use Rattle.fts_heads.proofs.Upkeep.{leads_behind}
use Rattle.fts_heads.proofs.Walks.{IsHead, head_passes, head_there, line_without}
use Rattle.fts_heads.proofs.Leads.{leads_alone, leads_before}
use Rattle.fts_heads.proofs.walk.make_way.Goals as goal
use Rattle.fts_heads.proofs.walk.make_way.Goals.{In-Some}

-- who leads in the group of the file
module _ (c : In-Some) where
  here : c.args.file.now.queue ≤ c.args.file.now.queue
  here = omega arith

  is_head : IsHead c.args.files.now.keys c.args.file.now.dest c.args.file.now.queue c.args.file.now.queue (c.args.file.now.queue + 1) here c.in-Some.head
  is_head = record { past = c.in-Some.ensures.past.0; before = c.in-Some.ensures.past.1; alone = c.in-Some.ensures.alone }

  leading : leads c.args.files.now.keys c.in-Some.head ≡ true
  leading = (head_passes c.args.files.now.keys c.args.file.now.dest c.args.file.now.queue c.args.file.now.queue (c.args.file.now.queue + 1) here c.in-Some.head is_head).1

  same_dest : c.in-Some.head.dest ≡ c.args.file.now.dest
  same_dest =
      (within c.args.file.now.dest c.args.file.now.queue (c.in-Some.head.queue + 1) c.in-Some.head.dest c.in-Some.head.queue
      (head_passes c.args.files.now.keys c.args.file.now.dest c.args.file.now.queue c.args.file.now.queue (c.args.file.now.queue + 1) here c.in-Some.head is_head).0).same

  same_queue : c.in-Some.head.queue ≡ c.args.file.now.queue
  same_queue = omega (arith, c.in-Some.ensures.past.0, c.in-Some.ensures.past.1)

pub returns-then-is_before-clause-settled : goal.returns-then-is_before-clause-settled
returns-then-is_before-clause-settled c =
    let there = (goal.at.returns-then-is_before-clause-settled c).In-Some in
    λ no. leads_behind c.in-Some.head c.args.file.now c.args.files.now.keys
    (head_there c.args.files.now.keys c.args.file.now.dest c.args.file.now.queue c.args.file.now.queue (c.args.file.now.queue + 1) (here there) c.in-Some.head (is_head there))
    (both_same c.in-Some.head.dest c.args.file.now.dest c.in-Some.head.queue c.args.file.now.queue (goes_by_group c.in-Some.head c.args.file.now) (same_dest there)
    (same_queue there) (sym c.is_before.ensures.answer ∙ c.if-is_before.true))

pub returns-else-is_before-clause-leads : goal.returns-else-is_before-clause-leads
returns-else-is_before-clause-leads c =
    let there = (goal.at.returns-else-is_before-clause-leads c).In-Some in
    λ yes. leads_before c.in-Some.head c.args.file.now c.args.files.now.keys (leading there) (same_dest there) (same_queue there)
    (sym c.is_before.ensures.answer ∙ c.if-is_before.false)

pub returns-else-is_before-clause-left : goal.returns-else-is_before-clause-left
returns-else-is_before-clause-left c =
    let there = (goal.at.returns-else-is_before-clause-left c).In-Some in
    λ yes waiter. ap (λ set. is_lined set.keys waiter) c.remove.ensures.keys
    ∙ (line_without c.in-Some.head c.args.line.now.keys waiter
    ∙ ap (λ (test : Bool). is_lined c.args.line.now.keys waiter && not test)
    (sym (c.in-Some.ensures.alone waiter)
    ∙ ap (λ n. is_within c.args.file.now.dest c.args.file.now.queue (n + 1) waiter && leads c.args.files.now.keys waiter) (same_queue there)))

pub returns-in-None-clause-leads : goal.returns-in-None-clause-leads
returns-in-None-clause-leads c =
    λ yes. leads_alone c.args.file.now c.args.files.now.keys c.len.ensures.order c.in-None.ensures.none
