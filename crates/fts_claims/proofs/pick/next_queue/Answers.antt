-- Where no link of a source goes before the best so far, its queues are passed.
use Rattle.std.proofs.Common.{◌≡◌, ◌<◌, ◌+◌, Option, Some, sym, subst}
use Rattle.std.specs.Prelude.{option_map, IfSome, IsTrue}
use Rattle.fts_claims.specs.declared.links.Standing.{Standing}
use Rattle.fts_claims.specs.Claims.{claim_data, is_inside, standing_of, ArePassed}
use Rattle.fts_claims.proofs.PassedQueues.{further_on, passed_on}
use Rattle.fts_claims.proofs.pick.next_queue.Goals as goal

pub returns-then-is_source_past-clause-further : goal.returns-then-is_source_past-clause-further
returns-then-is_source_past-clause-further c =
    subst (λ next. c.args.number < next) (sym c.queues_up_to.ensures.count)
    (further_on c.args.view.now.line.now.waiting.rooms c.queues.ensures.waiting.queues c.args.number c.args.link c.requires.link)

pub returns-then-is_source_past-clause-passed : goal.returns-then-is_source_past-clause-passed
returns-then-is_source_past-clause-passed c =
    let view = claim_data c.args.view.now in
    let flags = c.args.view.now.flags.now in
    let best : Standing = c.in-Some.best in
    let inside = subst (λ (some : Option Standing). IfSome some (λ best. IsTrue (is_inside view.settings best.link))) c.in-Some.is c.requires.best_inside in
    let own : best ≡ standing_of view best.link =
    subst (λ (some : Option Standing). IfSome some (λ best. best ≡ standing_of view best.link)) c.in-Some.is c.requires.standing in
    subst (λ (some : Option Standing). ArePassed flags view (option_map (λ (best : Standing). best.link) some) (c.args.number + 1) c.queues_up_to.result)
    (sym c.in-Some.is)
    (subst (λ next. ArePassed flags view (Some best.link) (c.args.number + 1) next) (sym c.queues_up_to.ensures.count)
    (passed_on flags view best c.queues.ensures.waiting.queues own inside c.args.number c.args.link c.requires.link
    (c.is_source_past.ensures.past c.if-is_source_past.true)))
