-- The rows of a job, cancelled place by place, are all rows with the job's cancelled.
use Rattle.std.proofs.Common.{◌≡◌, ℕ, zero, suc, ◌+◌, ◌-◌, ◌<◌, ◌≤◌, Bool, true, false, cond, List, [], ◌∷◌, map, Option, Some, None, refl, ap, sym, ◌∙◌, arith, inl, inr}
use Rattle.std.specs.Prelude.{◌==◌, ◌⊎◌, slice_get, option_map}
use Rattle.std.proofs.lemmas.Bool.{eqb-true}
use Rattle.std.proofs.lemmas.Option.{same_Some}
use Rattle.fts_tables.specs.Tables.{AreNumberedFrom}
use Rattle.fts_tables.specs.Moves.{cancelled_for}
use Rattle.fts_tables.specs.declared.rows.FileRow.{FileRow}
use Rattle.fts_tables.specs.declared.rows.JobRow.{JobRow}
use Rattle.fts_tables.specs.declared.rows.Reason.{Reason}
use Rattle.fts_desk.specs.Cancels.{cancelled_of}
use Rattle.fts_desk.specs.Places.{change_at}
use Rattle.fts_desk.specs.Standing.{StandTogether}
use Rattle.fts_desk.proofs.Hops.{stands_inside}

-- a change at a place, read there
changed_here : (rows : List FileRow) (place : ℕ) (change : FileRow → FileRow)
    → slice_get (change_at place change rows) place ≡ option_map change (slice_get rows place)
changed_here [] place change = refl
changed_here (row ∷ rows) zero change = refl
changed_here (row ∷ rows) (suc place) change = changed_here rows place change

-- a change at a place, read elsewhere
changed_elsewhere : (rows : List FileRow) (place at : ℕ) (change : FileRow → FileRow) → (at ≡ place → ⊥)
    → slice_get (change_at place change rows) at ≡ slice_get rows at
changed_elsewhere [] place at change apart = refl
changed_elsewhere (row ∷ rows) zero zero change apart = absurd (apart refl)
changed_elsewhere (row ∷ rows) zero (suc at) change apart = refl
changed_elsewhere (row ∷ rows) (suc place) zero change apart = refl
changed_elsewhere (row ∷ rows) (suc place) (suc at) change apart = changed_elsewhere rows place at change (λ is. apart (ap suc is))

-- lists that read alike at each place are one
alike : (one other : List FileRow) → ((at : ℕ) → slice_get one at ≡ slice_get other at) → one ≡ other
alike [] [] same = refl
alike [] (row ∷ other) same = let clash = same 0 in cc
alike (row ∷ one) [] same = let clash = same 0 in cc
alike (row ∷ one) (first ∷ other) same =
    ap (λ (head : FileRow). head ∷ one) (same_Some row first (same 0)) ∙ ap (λ rows. first ∷ rows) (alike one other (λ at. same (suc at)))

-- a mapped list, read at a place
read_mapped : (change : FileRow → FileRow) (rows : List FileRow) (at : ℕ) → slice_get (map change rows) at ≡ option_map change (slice_get rows at)
read_mapped change [] at = refl
read_mapped change (row ∷ rows) zero = refl
read_mapped change (row ∷ rows) (suc at) = read_mapped change rows at

module _ (reason : Reason) (rows : List FileRow) (job : JobRow) (numbered : AreNumberedFrom (λ row. row.id) 1 rows) (stand : StandTogether rows job) where
  -- a row that does not stand among the job's rows stays as it is
  others_stay : (at : ℕ) → ((job.first - 1 ≤ at) × (at < job.first - 1 + job.count) → ⊥)
      → option_map (cancelled_of reason job.number) (slice_get rows at) ≡ slice_get rows at
  others_stay at outside = by_row (slice_get rows at) refl
    where
      by_test : (row : FileRow) (answer : Bool) → (row.job == job.number) ≡ answer → slice_get rows at ≡ Some row
          → cond answer (cancelled_for reason row) row ≡ row
      by_test row false other there = refl
      by_test row true same there = absurd (outside (stands_inside rows job at row numbered stand there (eqb-true row.job job.number same)))

      by_row : (found : Option FileRow) → slice_get rows at ≡ found → option_map (cancelled_of reason job.number) found ≡ found
      by_row None there = refl
      by_row (Some row) there = ap (λ (other : FileRow). Some other) (by_test row (row.job == job.number) refl there)

  -- before the job's first row all is as it would be cancelled
  pub cancelled_before : (at : ℕ) → at < job.first - 1 → slice_get rows at ≡ option_map (cancelled_of reason job.number) (slice_get rows at)
  cancelled_before at before = sym (others_stay at (λ inside. omega (arith, inside.0, before)))

  -- where the rows up to behind the job's last are done, all are
  pub cancelled_all : (after : List FileRow) (place : ℕ) → job.first - 1 + job.count ≤ place
      → ((at : ℕ) → at < place → slice_get after at ≡ option_map (cancelled_of reason job.number) (slice_get rows at))
      → ((at : ℕ) → place ≤ at → slice_get after at ≡ slice_get rows at)
      → after ≡ map (cancelled_of reason job.number) rows
  cancelled_all after place past done rest =
      alike after (map (cancelled_of reason job.number) rows)
      (λ at. by_place at (less_or_not at place) ∙ sym (read_mapped (cancelled_of reason job.number) rows at))
    where
      less_or_not : (one other : ℕ) → (one < other) ⊎ (other ≤ one)
      less_or_not one other = grind arith

      by_place : (at : ℕ) → (at < place) ⊎ (place ≤ at) → slice_get after at ≡ option_map (cancelled_of reason job.number) (slice_get rows at)
      by_place at (inl before) = done at before
      by_place at (inr behind) = rest at behind ∙ sym (others_stay at (λ inside. omega (arith, inside.1, behind, past)))

-- a turn: one place more is done
pub cancelled_turn_done : (reason : Reason) (rows now : List FileRow) (number place : ℕ)
    → ((at : ℕ) → at < place → slice_get now at ≡ option_map (cancelled_of reason number) (slice_get rows at))
    → ((at : ℕ) → place ≤ at → slice_get now at ≡ slice_get rows at)
    → (at : ℕ) → at < place + 1 → slice_get (change_at place (cancelled_of reason number) now) at ≡ option_map (cancelled_of reason number) (slice_get rows at)
cancelled_turn_done reason rows now number place done rest at before = by_place (less_or_same at place before)
  where
    less_or_same : (one other : ℕ) → one < other + 1 → (one < other) ⊎ (one ≡ other)
    less_or_same one other less = grind arith

    by_place : (at < place) ⊎ (at ≡ place)
        → slice_get (change_at place (cancelled_of reason number) now) at ≡ option_map (cancelled_of reason number) (slice_get rows at)
    by_place (inl less) = changed_elsewhere now place at (cancelled_of reason number) (λ is. omega (arith, is, less)) ∙ done at less
    by_place (inr same) =
        ap (slice_get (change_at place (cancelled_of reason number) now)) same
        ∙ (changed_here now place (cancelled_of reason number)
        ∙ ap (option_map (cancelled_of reason number)) (rest place (omega arith) ∙ ap (slice_get rows) (sym same)))

-- and the others are as they were
pub cancelled_turn_rest : (reason : Reason) (rows now : List FileRow) (number place : ℕ)
    → ((at : ℕ) → place ≤ at → slice_get now at ≡ slice_get rows at)
    → (at : ℕ) → place + 1 ≤ at → slice_get (change_at place (cancelled_of reason number) now) at ≡ slice_get rows at
cancelled_turn_rest reason rows now number place rest at behind =
    changed_elsewhere now place at (cancelled_of reason number) (λ is. omega (arith, is, behind)) ∙ rest at (omega (arith, behind))
