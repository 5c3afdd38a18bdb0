use Rattle.std.proofs.Common.{◌≡◌, Bool, true, false, List, refl, ap, sym, ◌∙◌}
use Rattle.std.specs.Prelude.{◌||◌}
use Rattle.ordered.specs.Orders.{KeySet, has_key}
use Rattle.fts_heads.specs.declared.ripe_file.RipeFile.{RipeFile}
use Rattle.fts_heads.specs.declared.crowd.Own.{Own}
use Rattle.fts_heads.specs.RipeFiles.{goes_by_group}
use Rattle.fts_heads.specs.Crowd.{is_own}
use Rattle.fts_heads.proofs.Owned.{has_own}
use Rattle.fts_heads.proofs.crowd.Crowd.has.Goals as goal

-- what stands by its destination, by the fields
pub returns-then-is_own : goal.returns-then-is_own
returns-then-is_own c = record {
  answer = c.is_own.ensures.answer
      ∙ (ap (λ (own : List Own). is_own own c.args.file.now) c.as_slice.ensures.value
      ∙ (yes (is_own c.self.inside.own.items c.args.file.now) (has_key goes_by_group c.args.file.now c.self.inside.rest.keys)
      (ap (λ (own : List Own). is_own own c.args.file.now) (sym c.as_slice.ensures.value) ∙ (sym c.is_own.ensures.answer ∙ c.if-is_own.true))
      ∙ (sym (has_own c.self.inside.own.items c.self.inside.rest.keys c.args.file.now)
      ∙ ap (λ (set : KeySet RipeFile). has_key goes_by_group c.args.file.now set.keys) c.self.view_is)));
}
  where
    yes : (own have : Bool) → own ≡ true → own ≡ (own || have)
    yes true have is = refl
    yes false have is = absurd (never is)
      where
        never : false ≡ true → ⊥
        never is = cc

pub returns-else-is_own : goal.returns-else-is_own
returns-else-is_own c = record {
  answer = c.has.ensures.answer
      ∙ (no (is_own c.self.inside.own.items c.args.file.now) (has_key goes_by_group c.args.file.now c.self.inside.rest.keys)
      (ap (λ (own : List Own). is_own own c.args.file.now) (sym c.as_slice.ensures.value) ∙ (sym c.is_own.ensures.answer ∙ c.if-is_own.false))
      ∙ (sym (has_own c.self.inside.own.items c.self.inside.rest.keys c.args.file.now)
      ∙ ap (λ (set : KeySet RipeFile). has_key goes_by_group c.args.file.now set.keys) c.self.view_is));
}
  where
    no : (own have : Bool) → own ≡ false → have ≡ (own || have)
    no true have is = absurd (never is)
      where
        never : true ≡ false → ⊥
        never is = cc
    no false have is = refl
