use Rattle.std.proofs.Common.{◌≡◌, ℕ, ◌<◌, List, Result, Ok, Err, max, ap, sym, ◌∙◌, subst, arith}
use Rattle.std.specs.Prelude.{OnErr}
use Rattle.ordered.specs.Orders.{KeySet}
use Rattle.fts_heads.specs.declared.ripe_file.RipeFile.{RipeFile}
use Rattle.fts_heads.specs.Crowd.{with_own, AreCrowd, AreFollowers}
use Rattle.fts_heads.proofs.Owned.{IsNow, same_stands, more_room}
use Rattle.fts_heads.proofs.crowd.Crowd.make_room.Goals as goal
use Rattle.fts_heads.proofs.crowd.Crowd.make_room.Goals.{After-add_stands}

abbrev set_of : ℕ → List RipeFile → KeySet RipeFile
set_of room files = record { keys = files; room = room }

on_err : {A E : Type 0} (result : Result A E) (P : Type 0) → P → OnErr result P
on_err (Ok a) P holds = tt
on_err (Err e) P holds = holds

module _ (c : After-add_stands) where
  same : IsNow c.add_stands.new.own.items c.self.inside.len c.self.inside.room c.self.inside.rest
      (with_own c.self.inside.own.items c.self.inside.rest.keys)
  same =
      same_stands c.self.inside.own.items c.add_stands.new.own.items c.self.inside.len c.self.inside.room c.self.inside.rest c.self.invariant.0
      c.len.ensures.order c.add_stands.ensures.same c.add_stands.ensures.few

pub invariant_of-self : goal.invariant_of-self
invariant_of-self c = ((same (goal.at.invariant_of-self c).After-add_stands).kept, c.self.invariant.1)

pub returns-in_err-add_stands-clause-err : goal.returns-in_err-add_stands-clause-err
returns-in_err-add_stands-clause-err c =
    on_err c.from_residual.result _
    (ap (set_of c.self.inside.room) (same (goal.at.returns-in_err-add_stands-clause-err c).After-add_stands).are ∙ c.self.view_is)

pub invariant_of-self-in_err-make_room : goal.invariant_of-self-in_err-make_room
invariant_of-self-in_err-make_room c = (
  subst (AreCrowd c.add_stands.new.own.items c.self.inside.len c.self.inside.room) (sym c.in_err-make_room.ensures.err)
      (same (goal.at.invariant_of-self-in_err-make_room c).After-add_stands).kept,
  subst (λ (set : KeySet RipeFile). AreFollowers c.self.inside.strays set.keys) (sym c.in_err-make_room.ensures.err) c.self.invariant.1,
)

pub returns-in_err-make_room-clause-err : goal.returns-in_err-make_room-clause-err
returns-in_err-make_room-clause-err c =
    on_err c.from_residual-in_err-make_room.result _
    (ap (λ (set : KeySet RipeFile). set_of c.self.inside.room (with_own c.add_stands.new.own.items set.keys)) c.in_err-make_room.ensures.err
    ∙ (ap (set_of c.self.inside.room) (same (goal.at.returns-in_err-make_room-clause-err c).After-add_stands).are ∙ c.self.view_is))

pub invariant_of-self-2 : goal.invariant_of-self-2
invariant_of-self-2 c = (
  subst (AreCrowd c.add_stands.new.own.items c.self.inside.len c.args.files) (sym c.in_ok-make_room.ensures.ok)
      (more_room c.add_stands.new.own.items c.self.inside.len c.self.inside.room c.args.files c.self.inside.rest
      (same (goal.at.invariant_of-self-2 c).After-add_stands).kept (omega (arith, c.if-files-self.false))),
  subst (λ (set : KeySet RipeFile). AreFollowers c.self.inside.strays set.keys) (sym c.in_ok-make_room.ensures.ok) c.self.invariant.1,
)

pub returns-clause-ok : goal.returns-clause-ok
returns-clause-ok c =
    ap (λ (set : KeySet RipeFile). set_of c.args.files (with_own c.add_stands.new.own.items set.keys)) c.in_ok-make_room.ensures.ok
    ∙ (ap (set_of c.args.files) (same (goal.at.returns-clause-ok c).After-add_stands).are
    ∙ (ap (λ (set : KeySet RipeFile). set_of c.args.files set.keys) c.self.view_is
    ∙ ap (λ n. set_of n c.args.self.now.keys)
    (greater c.args.self.now.room c.args.files (omega (arith, c.if-files-self.false, ap (λ (set : KeySet RipeFile). set.room) c.self.view_is)))))
  where
    greater : (n m : ℕ) → n < m → m ≡ max n m
    greater n m less = omega (arith, less)
