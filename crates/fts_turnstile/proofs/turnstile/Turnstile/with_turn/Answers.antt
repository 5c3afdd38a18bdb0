use Rattle.std.proofs.Common.{of_calls, sym, subst}
use Rattle.std.specs.Fn.{FnOnceReturnsAtMut}
use Rattle.fts_turnstile.specs.History.{Begins}
use Rattle.fts_turnstile.specs.Passes.{seen_list, Appends}
use Rattle.fts_turnstile.proofs.WholeTurns.{begins_seen, may_leave, took}
use Rattle.fts_turnstile.proofs.turnstile.Turnstile.with_turn.Goals as goal

pub leave-requires-clause-adds : goal.leave-requires-clause-adds
leave-requires-clause-adds g c =
    let did : FnOnceReturnsAtMut g.F.FnOnce c.args.work c.enter-value.result c.work-result.result c.work-result.new.arg2 = search of_calls in
    let is = c.pass.view_is in
    let table = c.pass.inside.seat.table_id in
    let view = c.pass.inside.seat.me.0 in
    let begins = subst (λ p. Begins (seen_list p) (g.T.Logged.items c.enter-value.result)) is
    (begins_seen _ _ _ table view _ _ c.enter-value.ensures.entered) in
    let appends = c.requires.appends _ _ _ begins did in
    may_leave _ _ _ view _ _ _ c.enter-value.ensures.entered
    (subst (λ p. Appends g.T.Logged.items g.T.Logged.names p.number c.enter-value.result c.work-result.new.arg2) (sym is) appends)

pub returns-clause-took : goal.returns-clause-took
returns-clause-took g c =
    let did : FnOnceReturnsAtMut g.F.FnOnce c.args.work c.enter-value.result c.work-result.result c.work-result.new.arg2 = search of_calls in
    took _ _ _ (λ x y. FnOnceReturnsAtMut g.F.FnOnce c.args.work x c.work-result.result y)
    c.pass.inside.seat.table_id c.leave.new.seat.table_id c.pass.inside.seat.me.0 c.enter-value.new.seat.me c.leave.new.seat.me.0
    _ _ _ c.pass.view_is c.enter-value.ensures.entered c.leave.ensures.left did

pub work-result-requires : goal.work-result-requires
work-result-requires g c =
    let begins : Begins (seen_list c.args.pass.now) (g.T.Logged.items c.enter-value.result) =
    subst (λ p. Begins (seen_list p) (g.T.Logged.items c.enter-value.result)) c.pass.view_is
    (begins_seen _ _ _ c.pass.inside.seat.table_id c.pass.inside.seat.me.0 _ _ c.enter-value.ensures.entered) in
    let may = c.requires.callable c.enter-value.result in
    search (of_calls, may)
