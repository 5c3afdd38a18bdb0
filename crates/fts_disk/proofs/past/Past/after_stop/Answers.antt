use Rattle.std.proofs.Common.{IsTrue, ℕ, List, ◌≡◌, subst, sym, take}
use Rattle.fts_disk.specs.Replay.{are_within, held_by}
use Rattle.fts_disk.specs.declared.call.Call.{Call}
use Rattle.fts_disk.proofs.Stops.{next_within, far_longer, further, ended_image}
use Rattle.fts_disk.proofs.past.Past.after_stop.Goals as goal

-- the calls that are passed are those of the disk
lent_within : (first : List ℕ) (lent calls : List Call) → lent ≡ calls → IsTrue (are_within first calls) → IsTrue (are_within first lent)
lent_within first lent calls same within = subst (λ (l : List Call). IsTrue (are_within first l)) (sym same) within

pub pass-requires-clause-within : goal.pass-requires-clause-within
pass-requires-clause-within c =
    next_within c.args.byte c.args.self.now.first.items c.deref-3.result.now c.args.calls c.loop-call.call-index _ _ c.loop-call.invariant (lent_within _ _ _ c.deref-3.ensures.value c.args.self.now.within)
    c.call-item.result c.call-item.is c.loop-call-test.true

pub pass-requires-clause-longer : goal.pass-requires-clause-longer
pass-requires-clause-longer c =
    far_longer c.args.byte c.args.self.now.first.items c.deref-3.result.now c.args.calls c.loop-call.call-index _ _ c.loop-call.invariant (lent_within _ _ _ c.deref-3.ensures.value c.args.self.now.within)

pub loop-call-preserved : goal.loop-call-preserved
loop-call-preserved c =
    further c.args.byte c.args.self.now.first.items c.deref-3.result.now c.args.calls c.loop-call.call-index _ _ c.loop-call.invariant (lent_within _ _ _ c.deref-3.ensures.value c.args.self.now.within)
    c.call-item.result _ _ c.call-item.is c.loop-call-test.true c.in_ok-pass.ensures.content c.in_ok-pass.ensures.left

pub returns-clause-image : goal.returns-clause-image
returns-clause-image c =
    subst (λ (l : List Call). (held_by c.args.self.now.first.items (take c.args.calls l)).images c.loop-call.left.items) c.deref-3.ensures.value
    (ended_image c.args.byte c.args.self.now.first.items c.deref-3.result.now c.args.calls c.loop-call.call-index _ _ c.loop-call.invariant (lent_within _ _ _ c.deref-3.ensures.value c.args.self.now.within) c.loop-call-test.false)
