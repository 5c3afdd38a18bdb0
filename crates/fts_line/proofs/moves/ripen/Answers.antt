use Rattle.std.proofs.Common.{◌<◌, length, ap, sym, ◌∙◌, subst, arith}
use Rattle.std.specs.Prelude.{count_by}
use Rattle.fts_line.specs.Keys.{is_later, waiter_of, key_of}
use Rattle.fts_line.proofs.Walks.{due_end, moment_is, new_ripe, fewer_moved}
use Rattle.fts_line.proofs.moves.ripen.Goals as goal

pub loop-key-smaller : goal.loop-key-smaller
loop-key-smaller c =
    let key = c.in-Some.key in
    let there = c.in-Some.ensures.there in
    let moment = moment_is c.loop-key.rests key c.in-Some.ensures.later in
    let ripe =
    new_ripe c.args.dests.now (length c.loop-key.heads.busy) c.loop-key.rests c.loop-key.heads.files c.loop-key.invariant.keys key there c.args.now
    (omega (arith, moment, c.in-Some.ensures.due)) in
    subst (λ heads. count_by is_later heads.files < count_by is_later c.loop-key.heads.files) (sym c.move_over.ensures.heads)
    (fewer_moved is_later is_later (λ some is. is) key (key_of c.args.now c.args.dests.now (waiter_of c.loop-key.rests key)) c.in-Some.ensures.later ripe
    c.loop-key.heads.files there)

pub loop-key-preserved : goal.loop-key-preserved
loop-key-preserved c =
    let inv = c.loop-key.invariant in
    record {
      keys = c.move_over.ensures.keys;
      waiters = c.move_over.ensures.waiters ∙ inv.waiters;
      due = c.move_over.ensures.due c.args.before c.args.now c.requires.later (omega arith) inv.due;
      busy = ap (λ heads. heads.busy) c.move_over.ensures.heads ∙ inv.busy;
      room = ap (λ heads. heads.room) c.move_over.ensures.heads ∙ inv.room;
      dest_room = ap (λ heads. heads.dest_room) c.move_over.ensures.heads ∙ inv.dest_room;
    }

pub returns-clause-due : goal.returns-clause-due
returns-clause-due c =
    due_end c.args.before c.args.now c.loop-key.rests c.loop-key.heads.files c.loop-key.invariant.due c.in_default.ensures.none
