-- A write whose number is listed fails for that.
use Rattle.std.proofs.Common.{◌≡◌, true, sym, ◌∙◌, ap, inl, subst, List, ℕ}
use Rattle.fts_wire.specs.Memory.{SinkData, is_listed}
use Rattle.fts_wire.proofs.memory.MemorySinkSink.write.Goals as goal

pub returns-then-contains-clause-fails_only : goal.returns-then-contains-clause-fails_only
returns-then-contains-clause-fails_only c =
    let number = c.saturating_add-self-inside.result in
    let listed : is_listed c.self.inside.fail.items number ≡ true =
    sym (ap (λ (xs : List ℕ). is_listed xs number) c.deref.ensures.value) ∙ sym c.contains.ensures.value ∙ c.if-contains.true in
    λ e. inl (subst (λ (s : SinkData). is_listed s.fail number ≡ true) c.self.view_is listed)
