-- In a numbered list an item stands at the place before its number.
use Rattle.std.proofs.Common.{◌≡◌, ℕ, zero, suc, ◌+◌, ◌-◌, ◌<◌, ◌≤◌, Bool, true, false, cond, List, [], ◌∷◌, map, Some, None, refl, ap, sym, ◌∙◌, arith}
use Rattle.std.specs.Prelude.{◌==◌, find, slice_get, option_map}
use Rattle.std.proofs.lemmas.Bool.{eqb-true, eqb-false}
use Rattle.fts_tables.specs.Tables.{AreNumberedFrom, row_at}
use Rattle.fts_tables.specs.declared.rows.FileRow.{FileRow}

-- rows whose ids go on from a number
abbrev AreRowsFrom : ℕ → List FileRow → Type 0
AreRowsFrom start rows = AreNumberedFrom (λ (row : FileRow). row.id) start rows

-- an id below the first is that of no row
find-below : (start : ℕ) (rows : List FileRow) (id : ℕ) → AreRowsFrom start rows → id < start → find (λ row. row.id == id) rows ≡ None
find-below start [] id numbered below = refl
find-below start (row ∷ rows) id numbered below = by_head (find-below (suc start) rows id numbered.1 (omega arith)) (row.id == id) refl
  where
    by_head : find (λ row. row.id == id) rows ≡ None → (answer : Bool) → (row.id == id) ≡ answer
        → cond answer (Some row) (find (λ row. row.id == id) rows) ≡ None
    by_head behind true same = absurd (omega (arith, eqb-true row.id id same, numbered.0))
    by_head behind false other = behind

-- an id is that of the row which stands as far behind the first as it is above the first's
find-at : (start : ℕ) (rows : List FileRow) (id place : ℕ) → AreRowsFrom start rows → id ≡ start + place
    → find (λ row. row.id == id) rows ≡ slice_get rows place
find-at start [] id zero numbered is = refl
find-at start [] id (suc place) numbered is = refl
find-at start (row ∷ rows) id zero numbered is = by_head (row.id == id) refl
  where
    by_head : (answer : Bool) → (row.id == id) ≡ answer → cond answer (Some row) (find (λ row. row.id == id) rows) ≡ Some row
    by_head true same = refl
    by_head false other = absurd (eqb-false row.id id other (omega (arith, numbered.0)))
find-at start (row ∷ rows) id (suc place) numbered is =
    by_head (find-at (suc start) rows id place numbered.1 (omega arith)) (row.id == id) refl
  where
    by_head : find (λ row. row.id == id) rows ≡ slice_get rows place → (answer : Bool) → (row.id == id) ≡ answer
        → cond answer (Some row) (find (λ row. row.id == id) rows) ≡ slice_get rows place
    by_head behind true same = absurd (omega (arith, eqb-true row.id id same, numbered.0))
    by_head behind false other = behind

-- what is told of each row, at a place
told_at : (told : FileRow → ℕ) (rows : List FileRow) (place : ℕ) → slice_get (map told rows) place ≡ option_map told (slice_get rows place)
told_at told [] zero = refl
told_at told [] (suc place) = refl
told_at told (row ∷ rows) zero = refl
told_at told (row ∷ rows) (suc place) = told_at told rows place

-- what is told of the row of an id stands at the place before that
pub told_of : (told : FileRow → ℕ) (rows : List FileRow) (numbers : List ℕ) (id : ℕ) → AreRowsFrom 1 rows → numbers ≡ map told rows → 1 ≤ id
    → slice_get numbers (id - 1) ≡ option_map told (row_at rows id)
told_of told rows numbers id numbered are above =
    ap (λ (told_all : List ℕ). slice_get told_all (id - 1)) are ∙ told_at told rows (id - 1)
    ∙ ap (option_map told) (sym (find-at 1 rows id (id - 1) numbered (omega (arith, above))))

-- no row has the id 0
pub told_of_none : (told : FileRow → ℕ) (rows : List FileRow) (id : ℕ) → AreRowsFrom 1 rows → id < 1 → option_map told (row_at rows id) ≡ None
told_of_none told rows id numbered below = ap (option_map told) (find-below 1 rows id numbered below)
