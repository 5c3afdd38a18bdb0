use Rattle.std.proofs.Common.{◌-◌, length, ap, sym, ◌∙◌, subst}
use Rattle.std.specs.Prelude.{slice_set}
use Rattle.ordered.specs.Orders.{has_key, put_by}
use Rattle.fts_heads.specs.RipeFiles.{goes_by_group}
use Rattle.fts_heads.specs.Heads.{HeadsData}
use Rattle.fts_line.specs.Keys.{key_of, waiters_of, AreKeyed, AreDue}
use Rattle.fts_line.proofs.Keyed.{came_absent, came_waiters, came_keyed, came_due}
use Rattle.fts_line.proofs.moves.come_in.Goals as goal

pub insert-requires-clause-absent : goal.insert-requires-clause-absent
insert-requires-clause-absent c =
    ap (λ key. has_key goes_by_group key c.args.heads.now.files) c.key_of.ensures.key
    ∙ came_absent c.order_is_of_the_set.ensures.inserted c.order_is_of_the_set.ensures.removed c.args.dests.now (length c.args.heads.now.busy) c.args.rests.now
    c.args.heads.now.files c.requires.keys c.args.waiter.now c.requires.known c.requires.fresh c.args.moment

pub returns-clause-keys : goal.returns-clause-keys
returns-clause-keys c =
    let old = c.args.heads.now in
    subst (λ (heads : HeadsData). AreKeyed c.args.dests.now (length heads.busy) (slice_set c.args.rests.now (c.args.waiter.now.file - 1) c.rest_of.result)
    heads.files)
    (sym (c.insert.ensures.files ∙ ap (λ key. record old { files = put_by goes_by_group key old.files }) c.key_of.ensures.key))
    (subst (λ rest. AreKeyed c.args.dests.now (length old.busy) (slice_set c.args.rests.now (c.args.waiter.now.file - 1) rest)
    (put_by goes_by_group (key_of c.args.moment c.args.dests.now c.args.waiter.now) old.files)) (sym c.rest_of.ensures.rest)
    (came_keyed c.order_is_of_the_set.ensures.inserted c.order_is_of_the_set.ensures.removed c.args.dests.now (length old.busy) c.args.rests.now
    old.files c.requires.keys c.args.waiter.now c.requires.known c.requires.fresh c.args.moment))

pub returns-clause-waiters : goal.returns-clause-waiters
returns-clause-waiters c =
    let old = c.args.heads.now in
    ap (λ (heads : HeadsData). waiters_of (slice_set c.args.rests.now (c.args.waiter.now.file - 1) c.rest_of.result) heads.files)
    (c.insert.ensures.files ∙ ap (λ key. record old { files = put_by goes_by_group key old.files }) c.key_of.ensures.key)
    ∙ (ap (λ rest. waiters_of (slice_set c.args.rests.now (c.args.waiter.now.file - 1) rest)
    (put_by goes_by_group (key_of c.args.moment c.args.dests.now c.args.waiter.now) old.files)) c.rest_of.ensures.rest
    ∙ came_waiters c.order_is_of_the_set.ensures.inserted c.order_is_of_the_set.ensures.removed c.args.dests.now (length old.busy) c.args.rests.now
    old.files c.requires.keys c.args.waiter.now c.requires.known c.requires.fresh c.args.moment)

pub returns-clause-due : goal.returns-clause-due
returns-clause-due c =
    let old = c.args.heads.now in
    λ low high less more due.
    subst (λ (heads : HeadsData). AreDue low high (slice_set c.args.rests.now (c.args.waiter.now.file - 1) c.rest_of.result) heads.files)
    (sym (c.insert.ensures.files ∙ ap (λ key. record old { files = put_by goes_by_group key old.files }) c.key_of.ensures.key))
    (subst (λ rest. AreDue low high (slice_set c.args.rests.now (c.args.waiter.now.file - 1) rest)
    (put_by goes_by_group (key_of c.args.moment c.args.dests.now c.args.waiter.now) old.files)) (sym c.rest_of.ensures.rest)
    (came_due c.order_is_of_the_set.ensures.inserted c.order_is_of_the_set.ensures.removed c.args.dests.now (length old.busy) c.args.rests.now
    old.files c.requires.keys c.args.waiter.now c.requires.known c.requires.fresh c.args.moment low high less more due))
