-- A claim is one attempt more: of the row that it picks, which stands at one place alone.
use Rattle.std.proofs.Common.{◌≡◌, ℕ, zero, suc, ◌+◌, ◌-◌, ◌≤◌, ◌<◌, true, false, List, [], ◌∷◌, Some, refl, ap, ◌∙◌, arith}
use Rattle.std.specs.Prelude.{◌==◌, slice_get, if◌then◌else◌}
use Rattle.std.proofs.lemmas.Bool.{eq-eqb, ne_eqb}
use Rattle.fts_tables.specs.Tables.{AreNumberedFrom}
use Rattle.fts_tables.specs.Moves.{change_row, claimed}
use Rattle.fts_tables.specs.declared.rows.FileRow.{FileRow}
use Rattle.fts_laws.specs.Attempts.{attempts_in}
use Rattle.fts_laws.proofs.Changes.{attempts_in-cons}

-- an id below the first is nobody's: no row is claimed
claimed_none : (start : ℕ) (rows : List FileRow) (id : ℕ) → AreNumberedFrom (λ row. row.id) start rows → id < start
    → attempts_in (change_row id claimed rows) ≡ attempts_in rows
claimed_none start [] id numbered lt = refl
claimed_none start (row ∷ rows) id numbered lt =
    let no : (row.id == id) ≡ false = ne_eqb row.id id (λ is. omega (arith, numbered.0)) in
    ap (λ answer. attempts_in ((if answer then claimed row else row) ∷ change_row id claimed rows)) no
    ∙ omega (arith, attempts_in-cons row (change_row id claimed rows), attempts_in-cons row rows, claimed_none (suc start) rows id numbered.1 (omega arith))

-- the row at a place of a numbered list is claimed, and no other
claimed_at : (start : ℕ) (rows : List FileRow) (id place : ℕ) (picked : FileRow) → AreNumberedFrom (λ row. row.id) start rows
    → slice_get rows place ≡ Some picked → id ≡ start + place → attempts_in (change_row id claimed rows) ≡ attempts_in rows + 1
claimed_at start [] id zero picked numbered at is = cc
claimed_at start [] id (suc place) picked numbered at is = cc
claimed_at start (row ∷ rows) id zero picked numbered at is =
    let yes : (row.id == id) ≡ true = eq-eqb row.id id (omega (arith, numbered.0)) in
    ap (λ answer. attempts_in ((if answer then claimed row else row) ∷ change_row id claimed rows)) yes
    ∙ omega (
      arith,
      attempts_in-cons (claimed row) (change_row id claimed rows),
      attempts_in-cons row rows,
      claimed_none (suc start) rows id numbered.1 (omega arith),
    )
claimed_at start (row ∷ rows) id (suc place) picked numbered at is =
    let no : (row.id == id) ≡ false = ne_eqb row.id id (λ same. omega (arith, numbered.0)) in
    ap (λ answer. attempts_in ((if answer then claimed row else row) ∷ change_row id claimed rows)) no
    ∙ omega (
      arith,
      attempts_in-cons row (change_row id claimed rows),
      attempts_in-cons row rows,
      claimed_at (suc start) rows id place picked numbered.1 at (omega arith),
    )

-- the row that stands at the place before its id is claimed: one attempt more
pub attempts_in-claimed : (rows : List FileRow) (picked : FileRow) → AreNumberedFrom (λ row. row.id) 1 rows → 1 ≤ picked.id
    → slice_get rows (picked.id - 1) ≡ Some picked → attempts_in (change_row picked.id claimed rows) ≡ attempts_in rows + 1
attempts_in-claimed rows picked numbered above at = claimed_at 1 rows picked.id (picked.id - 1) picked numbered at (omega arith)
