use Rattle.std.proofs.Common.{length, ap, sym, ◌∙◌, subst, arith}
use Rattle.ordered.proofs.Lists.{length-without}
use Rattle.fts_queue.specs.declared.waiter.Waiter.{Waiter}
use Rattle.fts_queue.specs.WaitingData.{is_waiting, with_waiter}
use Rattle.fts_heads.specs.RipeFiles.{goes_by_group, by_group}
use Rattle.fts_heads.specs.Heads.{HeadsData}
use Rattle.fts_line.specs.LineData.{IsKnown}
use Rattle.fts_line.specs.Keys.{waiters_of, waiter_of}
use Rattle.fts_line.proofs.Keyed.{gone_fresh, gone_known, gone_back, gone_stays}
use Rattle.fts_line.proofs.moves.move_over.Goals as goal

pub come_in-requires-clause-fresh : goal.come_in-requires-clause-fresh
come_in-requires-clause-fresh c =
    ap (λ (waiter : Waiter). is_waiting waiter.file (waiters_of c.args.rests.now c.go_out.new.heads.files)) c.waiter_of-waiter.ensures.waiter
    ∙ (ap (λ (heads : HeadsData). is_waiting (waiter_of c.args.rests.now c.args.key).file (waiters_of c.args.rests.now heads.files)) c.go_out.ensures.heads
    ∙ gone_fresh c.order_is_of_the_set.ensures.inserted c.order_is_of_the_set.ensures.removed c.args.dests.now (length c.args.heads.now.busy)
    c.args.rests.now c.args.heads.now.files c.requires.keys c.args.key c.len.ensures.order c.requires.there)

pub come_in-requires-clause-known : goal.come_in-requires-clause-known
come_in-requires-clause-known c =
    subst (λ (heads : HeadsData). IsKnown c.args.dests.now (length heads.busy) c.waiter_of-waiter.result) (sym c.go_out.ensures.heads)
    (subst (IsKnown c.args.dests.now (length c.args.heads.now.busy)) (sym c.waiter_of-waiter.ensures.waiter)
    (gone_known c.order_is_of_the_set.ensures.inserted c.order_is_of_the_set.ensures.removed c.args.dests.now (length c.args.heads.now.busy)
    c.args.rests.now c.args.heads.now.files c.requires.keys c.args.key c.len.ensures.order c.requires.there).known)

pub come_in-requires-clause-room : goal.come_in-requires-clause-room
come_in-requires-clause-room c =
    omega (
      arith,
      length-without goes_by_group by_group c.args.key c.args.heads.now.files c.len.ensures.order c.requires.there,
      c.len.ensures.room,
      ap (λ (heads : HeadsData). length heads.files) c.go_out.ensures.heads,
      ap (λ (heads : HeadsData). heads.room) c.go_out.ensures.heads,
    )

pub returns-clause-waiters : goal.returns-clause-waiters
returns-clause-waiters c =
    c.come_in.ensures.waiters
    ∙ (ap (λ (waiter : Waiter). with_waiter waiter (waiters_of c.args.rests.now c.go_out.new.heads.files)) c.waiter_of-waiter.ensures.waiter
    ∙ (ap (λ (heads : HeadsData). with_waiter (waiter_of c.args.rests.now c.args.key) (waiters_of c.args.rests.now heads.files)) c.go_out.ensures.heads
    ∙ gone_back c.order_is_of_the_set.ensures.inserted c.order_is_of_the_set.ensures.removed c.args.dests.now (length c.args.heads.now.busy)
    c.args.rests.now c.args.heads.now.files c.requires.keys c.args.key c.len.ensures.order c.requires.there))

pub returns-clause-due : goal.returns-clause-due
returns-clause-due c = λ low high less more due. c.come_in.ensures.due low high less more (c.go_out.ensures.due low high due)

pub returns-clause-rests : goal.returns-clause-rests
returns-clause-rests c = λ other there.
    ap (λ rests. waiter_of rests other) c.come_in.ensures.rests
    ∙ gone_stays c.order_is_of_the_set.ensures.inserted c.order_is_of_the_set.ensures.removed c.args.dests.now (length c.args.heads.now.busy)
    c.args.rests.now c.args.heads.now.files c.requires.keys c.args.key c.len.ensures.order c.requires.there other there c.waiter_of-waiter.result.file _
    (ap (λ (waiter : Waiter). waiter.file) c.waiter_of-waiter.ensures.waiter)
