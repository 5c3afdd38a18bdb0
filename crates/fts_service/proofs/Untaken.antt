-- A lock whose passes have taken no turn.
use Rattle.std.proofs.Common.{◌≡◌, ◌⊎◌, ℕ, zero, suc, ◌+◌, ◌<◌, ◌≤◌, List, [], ◌∷◌, ◌++◌, refl, sym, ap, ◌∙◌, subst, inl, inr, ⊎_elim, arith}
use Rattle.fts_turnstile.specs.declared.turn.LoggedTurn.{LoggedTurn}
use Rattle.fts_turnstile.specs.History.{NoneBy, AllGiven, OnlyOthersSince}
use Rattle.fts_turnstile.specs.Passes.{PassView}
use Rattle.fts_passes.specs.Crews.{passes_given, AreSeenBy}

-- a number that isn't below another is it, or above it
or_more : (a b : ℕ) → a ≤ b → (a ≡ b) ⊎ (suc a ≤ b)
or_more zero zero h = inl refl
or_more zero (suc b) h = inr (omega arith)
or_more (suc a) zero h = absurd (omega arith)
or_more (suc a) (suc b) h = ⊎_elim (λ e. inl (ap suc e)) (λ lt. inr (omega arith)) (or_more a b (omega arith))

module _ {I : Type 0} where
  -- the pass of a number that was given has seen no turn, where none has seen any
  seen_at : (turns : List (LoggedTurn I)) (giver : PassView I) (count n : ℕ) → giver.given < n → n ≤ giver.given + count → AreSeenBy turns (passes_given giver count)
      → OnlyOthersSince (n ∷ []) giver.seen turns
  seen_at turns giver zero n low high seen = absurd (omega arith)
  seen_at turns giver (suc more) n low high seen = ⊎_elim
      (λ e. subst (λ m. OnlyOthersSince (m ∷ []) giver.seen turns) (omega (arith, e)) seen.0)
      (λ lt. seen_at turns (record giver { given = suc giver.given }) more n lt (omega arith) seen.1)
      (or_more (suc giver.given) n low)

  -- a turn with a number that is none of these
  no_turn : (turn : LoggedTurn I) (turns since : List (LoggedTurn I)) → turn ∷ turns ≡ since → NoneBy (turn.number ∷ []) since → ⊥
  no_turn turn turns since e none = (subst (NoneBy (turn.number ∷ [])) (sym e) none).0 (inl refl)

  -- no turn was taken, where pass 0 took none and those that it gave have seen none
  pub untaken : (first : PassView I) (turns : List (LoggedTurn I)) → first.seen ≡ [] → NoneBy (0 ∷ []) turns → AllGiven first.given turns
      → AreSeenBy turns (passes_given (record first { given = 0 }) first.given) → turns ≡ []
  untaken first [] unseen none given seen = refl
  untaken first (turn ∷ turns) unseen none given seen = absurd (⊎_elim
      (λ (e : 0 ≡ turn.number). none.0 (inl (sym e)))
      (λ lt. let others = seen_at (turn ∷ turns) (record first { given = 0 }) first.given turn.number lt (omega (arith, given.0)) seen in
      no_turn turn turns others.0 (others.1 ∙ ap (λ l. l ++ others.0) unseen) others.2)
      (or_more 0 turn.number (omega arith)))
