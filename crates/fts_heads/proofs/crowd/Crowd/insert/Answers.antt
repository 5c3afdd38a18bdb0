use Rattle.std.proofs.Common.{◌≡◌, ℕ, ◌<◌, ◌+◌, true, false, List, length, ap, sym, ◌∙◌, subst, arith}
use Rattle.std.specs.Prelude.{slice_set, ◌||◌}
use Rattle.ordered.specs.Orders.{KeySet, has_key, put_by}
use Rattle.fts_heads.specs.declared.ripe_file.RipeFile.{RipeFile}
use Rattle.fts_heads.specs.declared.crowd.Own.{Own}
use Rattle.fts_heads.specs.RipeFiles.{goes_by_group}
use Rattle.fts_heads.specs.Crowd.{may_own, with_own, AreCrowd, AreFollowers}
use Rattle.fts_heads.proofs.Owned.{fewer, put_own, put_rest, not_rest, IsNow}
use Rattle.fts_heads.proofs.Brought.{followers_put}
use Rattle.fts_heads.proofs.crowd.Crowd.insert.Goals as goal
use Rattle.fts_heads.proofs.crowd.Crowd.insert.Goals.{After-may_own}

abbrev set_of : ℕ → List RipeFile → KeySet RipeFile
set_of room files = record { keys = files; room = room }

module _ (c : After-may_own) where
  absent : has_key goes_by_group c.args.file (with_own c.self.inside.own.items c.self.inside.rest.keys) ≡ false
  absent = ap (λ (set : KeySet RipeFile). has_key goes_by_group c.args.file set.keys) c.self.view_is ∙ c.requires.absent

  less : c.self.inside.len < c.self.inside.room
  less = omega (
    arith,
    c.requires.room,
    c.self.invariant.0.count,
    ap (λ (set : KeySet RipeFile). length set.keys) c.self.view_is,
    ap (λ (set : KeySet RipeFile). set.room) c.self.view_is,
  )

  at_rest : IsNow c.self.inside.own.items (c.self.inside.len + 1) c.self.inside.room
      (record c.self.inside.rest { keys = put_by goes_by_group c.args.file c.self.inside.rest.keys })
      (put_by goes_by_group c.args.file (with_own c.self.inside.own.items c.self.inside.rest.keys))
  at_rest =
      put_rest c.self.inside.own.items c.self.inside.len c.self.inside.room c.self.inside.rest c.self.invariant.0 c.len.ensures.order c.args.file absent less

  at_own : c.may_own.result ≡ true
      → IsNow (slice_set c.self.inside.own.items c.args.file.dest (record { queue = c.args.file.queue; rank = c.args.file.rank })) (c.self.inside.len + 1)
      c.self.inside.room c.self.inside.rest (put_by goes_by_group c.args.file (with_own c.self.inside.own.items c.self.inside.rest.keys))
  at_own is =
      put_own c.self.inside.own.items c.self.inside.len c.self.inside.room c.self.inside.rest c.self.invariant.0 c.len.ensures.order c.args.file absent less
      (ap (λ (own : List Own). may_own own c.args.file) (sym c.as_slice.ensures.value) ∙ (sym c.may_own.ensures.answer ∙ is))

pub insert-requires-clause-room : goal.insert-requires-clause-room
insert-requires-clause-room c =
    let here = (goal.at.insert-requires-clause-room c).After-may_own in
    omega (
      arith,
      less here,
      c.self.invariant.0.places,
      c.self.invariant.0.count,
      fewer c.self.inside.own.items (length c.self.inside.own.items) c.self.inside.rest.keys,
    )

pub insert-requires-clause-absent : goal.insert-requires-clause-absent
insert-requires-clause-absent c =
    let here = (goal.at.insert-requires-clause-absent c).After-may_own in
    not_rest c.self.inside.own.items c.self.inside.len c.self.inside.room c.self.inside.rest c.self.invariant.0 c.len.ensures.order c.args.file (absent here)
    (less here)

pub invariant_of-self : goal.invariant_of-self
invariant_of-self c =
    let here = (goal.at.invariant_of-self c).After-may_own in (
      subst (λ (set : KeySet RipeFile). AreCrowd c.self.inside.own.items (c.self.inside.len + 1) c.self.inside.room set) (sym c.insert.ensures.keys)
          (at_rest here).kept,
      subst (λ (set : KeySet RipeFile). AreFollowers (c.self.inside.strays || c.brought.result) set.keys) (sym c.insert.ensures.keys)
          (followers_put c.self.inside.strays c.brought.result c.args.file c.self.inside.rest.keys c.self.invariant.1 c.brought.ensures.answer),
    )

pub returns-then-not-may_own : goal.returns-then-not-may_own
returns-then-not-may_own c =
    let here = (goal.at.returns-then-not-may_own c).After-may_own in
    record {
      keys = ap (λ (set : KeySet RipeFile). set_of c.self.inside.room (with_own c.self.inside.own.items set.keys)) c.insert.ensures.keys
          ∙ (ap (set_of c.self.inside.room) (at_rest here).are
          ∙ ap (λ (set : KeySet RipeFile). set_of set.room (put_by goes_by_group c.args.file set.keys)) c.self.view_is);
    }

pub invariant_of-self-2 : goal.invariant_of-self-2
invariant_of-self-2 c =
    let here = (goal.at.invariant_of-self-2 c).After-may_own in
    ((at_own here c.if-not-may_own.false).kept, c.self.invariant.1)

pub returns : goal.returns
returns c =
    let here = (goal.at.returns c).After-may_own in
    record {
      keys = ap (set_of c.self.inside.room) (at_own here c.if-not-may_own.false).are
          ∙ ap (λ (set : KeySet RipeFile). set_of set.room (put_by goes_by_group c.args.file set.keys)) c.self.view_is;
    }
