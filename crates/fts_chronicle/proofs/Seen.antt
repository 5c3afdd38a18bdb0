-- Jobs that are seen one after the other are seen all.
use Rattle.std.proofs.Common.{◌≡◌, ℕ, zero, suc, ◌+◌, ◌<◌, ◌≤◌, Bool, true, false, List, [], ◌∷◌, length, get_or, set, refl, sym, ap, ◌∙◌, arith}
use Rattle.std.specs.Prelude.{◌==◌, nat_le, if◌then◌else◌}
use Rattle.std.proofs.lemmas.Bool.{eqb-true, eq-eqb, ne_eqb, leb-true, leb-false, eqb-false}
use Rattle.fts_tables.specs.Tables.{Tables}
use Rattle.fts_chronicle.specs.Finishes.{finish_seen, finishes_seen}

module _ (tables : Tables) (now : ℕ) where
  -- where no number passes, nothing changes
  pub none_seen : (test : ℕ → Bool) (start : ℕ) (finishes : List ℕ) → ((number : ℕ) → start ≤ number → number < start + length finishes → test number ≡ false)
      → finishes_seen test tables now start finishes ≡ finishes
  none_seen test start [] none = refl
  none_seen test start (finish ∷ finishes) none = λ i.
      (if none start (omega arith) (omega arith) i then finish_seen tables now start finish else finish)
      ∷ none_seen test (suc start) finishes (λ number low high. none number (omega (arith, low)) (omega (arith, high))) i

  -- where one number passes, the finish at its place changes
  pub one_seen : (start place : ℕ) (finishes : List ℕ) → place < length finishes
      → (sought : ℕ) → sought ≡ place + start → (behind : ℕ) → behind ≡ finish_seen tables now sought (get_or finishes place 0)
      → finishes_seen (λ other. other == sought) tables now start finishes ≡ set finishes place behind
  one_seen start place [] inside sought at behind is = cc
  one_seen start zero (finish ∷ finishes) inside sought at behind is =
      let here : start ≡ sought = omega (arith, at) in
      (λ i. (if eq-eqb start sought here i then finish_seen tables now start finish else finish)
      ∷ none_seen (λ other. other == sought) (suc start) finishes (λ number low high. ne_eqb number sought (λ same. omega (arith, same, low, here))) i)
      ∙ ap (λ (item : ℕ). item ∷ finishes) (ap (λ (number : ℕ). finish_seen tables now number finish) here ∙ sym is)
  one_seen start (suc place) (finish ∷ finishes) inside sought at behind is =
      (λ i. (if ne_eqb start sought (λ same. omega (arith, same, at)) i then finish_seen tables now start finish else finish)
      ∷ one_seen (suc start) place finishes (omega (arith, inside)) sought (omega (arith, at)) behind is i)

  -- one number more
  pub next_seen : (start last : ℕ) (finishes : List ℕ)
      → finishes_seen (λ other. other == (last + 1)) tables now start (finishes_seen (λ other. nat_le other last) tables now start finishes)
      ≡ finishes_seen (λ other. nat_le other (last + 1)) tables now start finishes
  next_seen start last [] = refl
  next_seen start last (finish ∷ finishes) = λ i.
      head (start == (last + 1)) (nat_le start last) (nat_le start (last + 1)) refl refl refl i ∷ next_seen (suc start) last finishes i
    where
      head : (here before after : Bool) → (start == (last + 1)) ≡ here → nat_le start last ≡ before → nat_le start (last + 1) ≡ after
          → (if here then finish_seen tables now start (if before then finish_seen tables now start finish else finish)
          else (if before then finish_seen tables now start finish else finish))
          ≡ (if after then finish_seen tables now start finish else finish)
      head true true after is low high = absurd (omega (arith, eqb-true start (last + 1) is, leb-true start last low))
      head true false true is low high = refl
      head true false false is low high = absurd (omega (arith, eqb-true start (last + 1) is, leb-false start (last + 1) high))
      head false true true is low high = refl
      head false true false is low high = absurd (omega (arith, leb-true start last low, leb-false start (last + 1) high))
      head false false true is low high =
          absurd (eqb-false start (last + 1) is (omega (arith, leb-false start last low, leb-true start (last + 1) high)))
      head false false false is low high = refl
