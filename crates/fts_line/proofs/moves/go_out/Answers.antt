use Rattle.std.proofs.Common.{length, ap, sym, ◌∙◌, subst}
use Rattle.fts_heads.specs.Heads.{HeadsData}
use Rattle.fts_line.specs.Keys.{waiters_of, AreKeyed, AreDue}
use Rattle.fts_line.proofs.Keyed.{gone_keyed, gone_due, gone_waiters}
use Rattle.fts_line.proofs.moves.go_out.Goals as goal

pub returns-clause-keys : goal.returns-clause-keys
returns-clause-keys c =
    subst (λ (heads : HeadsData). AreKeyed c.args.dests.now (length heads.busy) c.args.rests.now heads.files) (sym c.remove.ensures.files)
    (gone_keyed c.order_is_of_the_set.ensures.inserted c.order_is_of_the_set.ensures.removed c.args.dests.now (length c.args.heads.now.busy)
    c.args.rests.now c.args.heads.now.files c.requires.keys c.args.key c.len.ensures.order c.requires.there)

pub returns-clause-waiters : goal.returns-clause-waiters
returns-clause-waiters c =
    ap (λ (heads : HeadsData). waiters_of c.args.rests.now heads.files) c.remove.ensures.files
    ∙ gone_waiters c.order_is_of_the_set.ensures.inserted c.order_is_of_the_set.ensures.removed c.args.dests.now (length c.args.heads.now.busy)
    c.args.rests.now c.args.heads.now.files c.requires.keys c.args.key c.len.ensures.order c.requires.there

pub returns-clause-due : goal.returns-clause-due
returns-clause-due c = λ low high due.
    subst (λ (heads : HeadsData). AreDue low high c.args.rests.now heads.files) (sym c.remove.ensures.files)
    (gone_due c.order_is_of_the_set.ensures.inserted c.order_is_of_the_set.ensures.removed c.args.dests.now (length c.args.heads.now.busy)
    c.args.rests.now c.args.heads.now.files c.requires.keys c.args.key c.len.ensures.order c.requires.there low high due)
