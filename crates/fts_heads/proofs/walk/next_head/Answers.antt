use Rattle.std.proofs.Common.{sym, ◌∙◌, arith}
use Rattle.fts_heads.proofs.Ranges.{next_for, none_for, next_least, next_alone, next_past}
use Rattle.fts_heads.proofs.walk.next_head.Goals as goal

pub returns-then-found-to-clause-past : goal.returns-then-found-to-clause-past
returns-then-found-to-clause-past c =
    let files = c.args.files.now.keys in
    let is = next_for files c.len.ensures.order c.args.dest c.args.from c.in-Some.found (sym c.first_for.ensures.first ∙ c.in-Some.is) in
    (next_least files c.len.ensures.order c.args.dest c.args.from c.in-Some.found is.0 is.1, c.if-found-to.true)

pub returns-then-found-to-clause-alone : goal.returns-then-found-to-clause-alone
returns-then-found-to-clause-alone c =
    let files = c.args.files.now.keys in
    let is = next_for files c.len.ensures.order c.args.dest c.args.from c.in-Some.found (sym c.first_for.ensures.first ∙ c.in-Some.is) in
    next_alone files c.len.ensures.order c.args.dest c.args.from c.in-Some.found is.0 is.1

pub returns-else-found-to-clause-none : goal.returns-else-found-to-clause-none
returns-else-found-to-clause-none c =
    let files = c.args.files.now.keys in
    let is = next_for files c.len.ensures.order c.args.dest c.args.from c.in-Some.found (sym c.first_for.ensures.first ∙ c.in-Some.is) in
    next_past files c.len.ensures.order c.args.dest c.args.from c.in-Some.found c.args.to is.0 (λ same. omega (arith, c.if-found-to.false))

pub returns-in-None-clause-none : goal.returns-in-None-clause-none
returns-in-None-clause-none c waiter =
    none_for c.args.files.now.keys c.len.ensures.order c.args.dest c.args.from c.args.to (sym c.first_for.ensures.first ∙ c.in-None.is) waiter
