use Rattle.std.proofs.Common.{◌≡◌, ℕ, ◌-◌, Bool, true, false, List, ap, sym, ◌∙◌, subst}
use Rattle.std.specs.Prelude.{◌||◌, slice_set}
use Rattle.ordered.specs.Orders.{KeySet, has_key, without}
use Rattle.fts_heads.specs.declared.ripe_file.RipeFile.{RipeFile}
use Rattle.fts_heads.specs.declared.crowd.Own.{Own}
use Rattle.fts_heads.specs.RipeFiles.{goes_by_group}
use Rattle.fts_heads.specs.Crowd.{nobody, is_own, with_own, AreCrowd, AreFollowers}
use Rattle.fts_heads.proofs.Owned.{has_own, out_own, out_rest, IsNow}
use Rattle.fts_heads.proofs.Brought.{followers_without}
use Rattle.fts_heads.proofs.crowd.Crowd.remove.Goals as goal
use Rattle.fts_heads.proofs.crowd.Crowd.remove.Goals.{After-is_own}

abbrev set_of : ℕ → List RipeFile → KeySet RipeFile
set_of room files = record { keys = files; room = room }

module _ (c : After-is_own) where
  answer : c.is_own.result ≡ is_own c.self.inside.own.items c.args.file.now
  answer = c.is_own.ensures.answer ∙ ap (λ (own : List Own). is_own own c.args.file.now) c.as_slice.ensures.value

  in_rest : c.is_own.result ≡ false → has_key goes_by_group c.args.file.now c.self.inside.rest.keys ≡ true
  in_rest is =
      ap (λ (test : Bool). test || has_key goes_by_group c.args.file.now c.self.inside.rest.keys) (sym is ∙ answer)
      ∙ (sym (has_own c.self.inside.own.items c.self.inside.rest.keys c.args.file.now)
      ∙ (ap (λ (set : KeySet RipeFile). has_key goes_by_group c.args.file.now set.keys) c.self.view_is
      ∙ c.requires.there))

  of_rest : c.is_own.result ≡ false
      → IsNow c.self.inside.own.items (c.self.inside.len - 1) c.self.inside.room
      (record c.self.inside.rest { keys = without goes_by_group c.args.file.now c.self.inside.rest.keys })
      (without goes_by_group c.args.file.now (with_own c.self.inside.own.items c.self.inside.rest.keys))
  of_rest is =
      out_rest c.self.inside.own.items c.self.inside.len c.self.inside.room c.self.inside.rest c.self.invariant.0 c.len.ensures.order c.args.file.now (in_rest is)

  of_own : c.is_own.result ≡ true
      → IsNow (slice_set c.self.inside.own.items c.args.file.now.dest nobody) (c.self.inside.len - 1) c.self.inside.room c.self.inside.rest
      (without goes_by_group c.args.file.now (with_own c.self.inside.own.items c.self.inside.rest.keys))
  of_own is =
      out_own c.self.inside.own.items c.self.inside.len c.self.inside.room c.self.inside.rest c.self.invariant.0 c.len.ensures.order c.args.file.now
      (sym answer ∙ is)

pub remove-requires : goal.remove-requires
remove-requires c = record { there = in_rest (goal.at.remove-requires c).After-is_own c.if-not-is_own.true }

pub invariant_of-self : goal.invariant_of-self
invariant_of-self c =
    let here = (goal.at.invariant_of-self c).After-is_own in (
      subst (λ (set : KeySet RipeFile). AreCrowd c.self.inside.own.items (c.self.inside.len - 1) c.self.inside.room set) (sym c.remove.ensures.keys)
          (of_rest here c.if-not-is_own.true).kept,
      subst (λ (set : KeySet RipeFile). AreFollowers c.self.inside.strays set.keys) (sym c.remove.ensures.keys)
          (followers_without c.self.inside.strays c.args.file.now c.self.inside.rest.keys c.self.invariant.1),
    )

pub returns-then-not-is_own : goal.returns-then-not-is_own
returns-then-not-is_own c =
    let here = (goal.at.returns-then-not-is_own c).After-is_own in
    record {
      keys = ap (λ (set : KeySet RipeFile). set_of c.self.inside.room (with_own c.self.inside.own.items set.keys)) c.remove.ensures.keys
          ∙ (ap (set_of c.self.inside.room) (of_rest here c.if-not-is_own.true).are
          ∙ ap (λ (set : KeySet RipeFile). set_of set.room (without goes_by_group c.args.file.now set.keys)) c.self.view_is);
    }

pub invariant_of-self-2 : goal.invariant_of-self-2
invariant_of-self-2 c =
    let here = (goal.at.invariant_of-self-2 c).After-is_own in
    ((of_own here c.if-not-is_own.false).kept, c.self.invariant.1)

pub returns : goal.returns
returns c =
    let here = (goal.at.returns c).After-is_own in
    record {
      keys = ap (set_of c.self.inside.room) (of_own here c.if-not-is_own.false).are
          ∙ ap (λ (set : KeySet RipeFile). set_of set.room (without goes_by_group c.args.file.now set.keys)) c.self.view_is;
    }
