use Rattle.std.proofs.Common.{sym}
use Rattle.fts_heads.proofs.Numbers.{found_there, found_from, found_least, found_past, found_none}
use Rattle.fts_heads.proofs.dests.next_number.Goals as goal

pub returns-then-found-digest-clause-there : goal.returns-then-found-digest-clause-there
returns-then-found-digest-clause-there c =
    found_there c.args.keys.now.keys c.len.ensures.order c.args.digest c.args.from c.in-Some.found (sym c.in-Some.ensures.key) c.if-found-digest.true

pub returns-then-found-digest-clause-from : goal.returns-then-found-digest-clause-from
returns-then-found-digest-clause-from c =
    found_from c.args.keys.now.keys c.len.ensures.order c.args.digest c.args.from c.in-Some.found (sym c.in-Some.ensures.key) c.if-found-digest.true

pub returns-then-found-digest-clause-least : goal.returns-then-found-digest-clause-least
returns-then-found-digest-clause-least c =
    found_least c.args.keys.now.keys c.len.ensures.order c.args.digest c.args.from c.in-Some.found (sym c.in-Some.ensures.key) c.if-found-digest.true

pub returns-else-found-digest-clause-none : goal.returns-else-found-digest-clause-none
returns-else-found-digest-clause-none c =
    found_past c.args.keys.now.keys c.len.ensures.order c.args.digest c.args.from c.in-Some.found (sym c.in-Some.ensures.key) c.if-found-digest.false

pub returns-in-None-clause-none : goal.returns-in-None-clause-none
returns-in-None-clause-none c =
    found_none c.args.keys.now.keys c.len.ensures.order c.args.digest c.args.from (sym c.in-None.ensures.key)
