use Rattle.std.proofs.Common.{◌≡◌, ◌<◌, ◌≤◌, true, length, refl, ap, sym, ◌∙◌, subst, arith}
use Rattle.std.specs.Prelude.{IfSome}
use Rattle.ordered.specs.Orders.{has_key, put_by, without}
use Rattle.fts_heads.specs.declared.ripe_file.RipeFile.{RipeFile}
use Rattle.fts_heads.specs.RipeFiles.{goes_by_group}
use Rattle.fts_line.specs.Keys.{waiter_of, key_of}
use Rattle.fts_line.proofs.Walks.{due_between, new_later}
use Rattle.fts_heads.proofs.Passed.{left, next_there, fewer_left}
use Rattle.fts_line.proofs.Passed.{ArePast, past_start, past_same, past_moved, past_end, next_stays, next_ripe, new_passed, fewer_left_moved, at_key}
use Rattle.fts_line.proofs.moves.unripen.Goals as goal

pub loop-next-init : goal.loop-next-init
loop-next-init c =
    let files = c.args.heads.now.files in
    record {
      keys = c.requires.keys;
      waiters = refl;
      due = due_between c.args.before c.args.before c.args.now c.args.before c.args.rests.now files c.requires.sooner (omega arith) c.requires.due;
      there = c.first_ripe-next.ensures.there;
      ripe = c.first_ripe-next.ensures.ripe;
      past = past_start c.args.dests.now (length c.args.heads.now.busy) c.args.rests.now files c.requires.keys c.args.now c.first_ripe-next.result
          c.first_ripe-next.ensures.passed c.first_ripe-next.ensures.none;
      busy = refl;
      room = refl;
      dest_room = refl;
    }

pub loop-next-smaller-then-waiter_of-now : goal.loop-next-smaller-then-waiter_of-now
loop-next-smaller-then-waiter_of-now c =
    let inv = c.loop-next.invariant in
    let key = c.in-Some.key in
    let files = c.loop-next.heads.files in
    let next = c.next_after-next.result in
    let is = c.next_after-next.ensures.file in
    let at =
    at_key c.args.dests.now (length c.loop-next.heads.busy) c.loop-next.rests files inv.keys c.args.now c.loop-next.next key c.in-Some.is inv.there inv.ripe
    inv.past in
    let less : c.args.now < (waiter_of c.loop-next.rests key).not_before =
    subst (λ waiter. c.args.now < waiter.not_before) c.waiter_of.ensures.waiter c.if-waiter_of-now.true in
    let later = new_later c.args.now c.args.dests.now (waiter_of c.loop-next.rests key) less in
    let new : RipeFile = key_of c.args.now c.args.dests.now (waiter_of c.loop-next.rests key) in
    subst (λ heads. left next heads.files < left c.loop-next.next files) (sym c.move_over.ensures.heads)
    (subst (λ some. left next (put_by goes_by_group new (without goes_by_group key files)) < left some files) (sym c.in-Some.is)
    (fewer_left_moved files c.len.ensures.order key next is at.there new (new_passed files c.len.ensures.order key at.dest next is new later)))

pub loop-next-preserved-then-waiter_of-now : goal.loop-next-preserved-then-waiter_of-now
loop-next-preserved-then-waiter_of-now c =
    let inv = c.loop-next.invariant in
    let key = c.in-Some.key in
    let files = c.loop-next.heads.files in
    let next = c.next_after-next.result in
    let is = c.next_after-next.ensures.file in
    let at =
    at_key c.args.dests.now (length c.loop-next.heads.busy) c.loop-next.rests files inv.keys c.args.now c.loop-next.next key c.in-Some.is inv.there inv.ripe
    inv.past in
    let less : c.args.now < (waiter_of c.loop-next.rests key).not_before =
    subst (λ waiter. c.args.now < waiter.not_before) c.waiter_of.ensures.waiter c.if-waiter_of-now.true in
    let later = new_later c.args.now c.args.dests.now (waiter_of c.loop-next.rests key) less in
    let new : RipeFile = key_of c.args.now c.args.dests.now (waiter_of c.loop-next.rests key) in
    record {
      keys = c.move_over.ensures.keys;
      waiters = c.move_over.ensures.waiters ∙ inv.waiters;
      due = c.move_over.ensures.due c.args.now c.args.before (omega arith) c.requires.sooner inv.due;
      there = subst (λ heads. IfSome next (λ some. has_key goes_by_group some heads.files ≡ true)) (sym c.move_over.ensures.heads)
          (next_stays files c.len.ensures.order key new next is);
      ripe = next_ripe files c.len.ensures.order key at.dest next is;
      past = subst (λ heads. ArePast c.move_over.new.rests heads.files next c.args.now) (sym c.move_over.ensures.heads)
          (past_moved files c.len.ensures.order key c.loop-next.rests c.move_over.new.rests c.args.now next is at.past new later c.move_over.ensures.rests);
      busy = ap (λ heads. heads.busy) c.move_over.ensures.heads ∙ inv.busy;
      room = ap (λ heads. heads.room) c.move_over.ensures.heads ∙ inv.room;
      dest_room = ap (λ heads. heads.dest_room) c.move_over.ensures.heads ∙ inv.dest_room;
    }

pub loop-next-smaller : goal.loop-next-smaller
loop-next-smaller c =
    let inv = c.loop-next.invariant in
    let key = c.in-Some.key in
    let files = c.loop-next.heads.files in
    let next = c.next_after-next.result in
    let at =
    at_key c.args.dests.now (length c.loop-next.heads.busy) c.loop-next.rests files inv.keys c.args.now c.loop-next.next key c.in-Some.is inv.there inv.ripe
    inv.past in
    subst (λ some. left next files < left some files) (sym c.in-Some.is)
    (fewer_left files c.len.ensures.order key next c.next_after-next.ensures.file at.there)

pub loop-next-preserved : goal.loop-next-preserved
loop-next-preserved c =
    let inv = c.loop-next.invariant in
    let key = c.in-Some.key in
    let files = c.loop-next.heads.files in
    let next = c.next_after-next.result in
    let is = c.next_after-next.ensures.file in
    let at =
    at_key c.args.dests.now (length c.loop-next.heads.busy) c.loop-next.rests files inv.keys c.args.now c.loop-next.next key c.in-Some.is inv.there inv.ripe
    inv.past in
    let most : (waiter_of c.loop-next.rests key).not_before ≤ c.args.now =
    subst (λ waiter. waiter.not_before ≤ c.args.now) c.waiter_of.ensures.waiter c.if-waiter_of-now.false in
    record {
      keys = inv.keys;
      waiters = inv.waiters;
      due = inv.due;
      there = next_there files c.len.ensures.order key next is;
      ripe = next_ripe files c.len.ensures.order key at.dest next is;
      past = past_same files c.len.ensures.order key c.loop-next.rests c.args.now next is at.past most;
      busy = inv.busy;
      room = inv.room;
      dest_room = inv.dest_room;
    }

pub returns-clause-due : goal.returns-clause-due
returns-clause-due c =
    past_end c.loop-next.rests c.loop-next.heads.files c.args.now c.args.before c.loop-next.invariant.due
    (subst (λ next. ArePast c.loop-next.rests c.loop-next.heads.files next c.args.now) c.in_default.is c.loop-next.invariant.past)
