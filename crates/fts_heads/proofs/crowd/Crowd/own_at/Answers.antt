use Rattle.std.proofs.Common.{◌≡◌, true, false, Bool, Option, List, refl, ap, sym, ◌∙◌, subst}
use Rattle.std.specs.Prelude.{◌||◌, IfSome, IfNone}
use Rattle.ordered.specs.Orders.{KeySet, has_key}
use Rattle.fts_heads.specs.declared.ripe_file.RipeFile.{RipeFile}
use Rattle.fts_heads.specs.declared.crowd.Own.{Own}
use Rattle.fts_heads.specs.RipeFiles.{goes_by_group, brought}
use Rattle.fts_heads.specs.Crowd.{own_at, is_own}
use Rattle.fts_heads.proofs.Owned.{has_own}
use Rattle.fts_heads.proofs.Firsts.{if_some, if_none}
use Rattle.fts_heads.proofs.Leasts.{own_found}
use Rattle.fts_heads.proofs.Brought.{none_own, follows}
use Rattle.fts_heads.proofs.crowd.Crowd.own_at.Goals as goal

pub returns-in-Some-clause-there : goal.returns-in-Some-clause-there
returns-in-Some-clause-there c =
    let own = c.self.inside.own.items in
    let at = ap (λ (some : List Own). own_at some c.args.dest) (sym c.as_slice.ensures.value) ∙ (sym c.own_at.ensures.file ∙ c.in-Some.is) in
    ap (λ (set : KeySet RipeFile). has_key goes_by_group c.in-Some.found set.keys) (sym c.self.view_is)
    ∙ (has_own own c.self.inside.rest.keys c.in-Some.found
    ∙ ap (λ (test : Bool). test || has_key goes_by_group c.in-Some.found c.self.inside.rest.keys) (own_found own c.args.dest c.in-Some.found at).is)

pub returns-then-self-clause-there : goal.returns-then-self-clause-there
returns-then-self-clause-there c =
    if_some (λ file. has_key goes_by_group file c.args.self.now.keys ≡ true) c.bringer_in.result (λ file is.
    ap (λ (set : KeySet RipeFile). has_key goes_by_group file set.keys) (sym c.self.view_is)
    ∙ (has_own c.self.inside.own.items c.self.inside.rest.keys file
    ∙ (ap (λ (test : Bool). is_own c.self.inside.own.items file || test)
    (subst (λ (some : Option RipeFile). IfSome some (λ other. has_key goes_by_group other c.self.inside.rest.keys ≡ true)) is c.bringer_in.ensures.there)
    ∙ or_true (is_own c.self.inside.own.items file))))
  where
    or_true : (test : Bool) → (test || true) ≡ true
    or_true true = refl
    or_true false = refl

pub returns-then-self-clause-none : goal.returns-then-self-clause-none
returns-then-self-clause-none c =
    if_none _ c.bringer_in.result (λ is file there.
    none_own c.self.inside.own.items c.self.inside.rest.keys c.args.dest
    (ap (λ (own : List Own). own_at own c.args.dest) (sym c.as_slice.ensures.value) ∙ (sym c.own_at.ensures.file ∙ c.in-None.is))
    (subst (λ (some : Option RipeFile). IfNone some ((other : RipeFile) → has_key goes_by_group other c.self.inside.rest.keys ≡ true
    → brought c.args.dest other ≡ false)) is c.bringer_in.ensures.none) file
    (ap (λ (set : KeySet RipeFile). has_key goes_by_group file set.keys) c.self.view_is ∙ there))

pub returns-else-self-clause-none : goal.returns-else-self-clause-none
returns-else-self-clause-none c = λ file there.
    none_own c.self.inside.own.items c.self.inside.rest.keys c.args.dest
    (ap (λ (own : List Own). own_at own c.args.dest) (sym c.as_slice.ensures.value) ∙ (sym c.own_at.ensures.file ∙ c.in-None.is))
    (λ other here. follows c.args.dest other (c.self.invariant.1 c.if-self.false other here)) file
    (ap (λ (set : KeySet RipeFile). has_key goes_by_group file set.keys) c.self.view_is ∙ there)
