-- A row changed at its place: by writing there, by its id, and behind other rows.
use Rattle.std.proofs.Common.{◌≡◌, ◌≢◌, ℕ, zero, suc, ◌+◌, ◌<◌, ◌≤◌, cond, List, [], ◌∷◌, ◌++◌, length, get_or, set, take, drop, Option, Some, None, refl, ap, sym, ◌∙◌, arith, add-zero, inl, inr}
use Rattle.std.specs.Prelude.{◌⊎◌, slice_get}
use Rattle.std.proofs.lemmas.Bool.{ne_eqb, eq-eqb}
use Rattle.std.proofs.lemmas.Option.{same_Some, slice_get_cases}
use Rattle.fts_tables.specs.Tables.{AreNumberedFrom}
use Rattle.fts_tables.specs.Moves.{change_row, submit_chosen}
use Rattle.fts_tables.specs.declared.rows.FileRow.{FileRow}
use Rattle.fts_claims.specs.Changes.{all_but}
use Rattle.fts_desk.specs.Places.{change_at, woken}

-- what was written at a place is a change of the row that stood there
pub change_at-set : (rows : List FileRow) (place : ℕ) (change : FileRow → FileRow) (default changed : FileRow) → place < length rows
    → changed ≡ change (get_or rows place default)
    → set rows place changed ≡ change_at place change rows
change_at-set [] place change default changed inside is = absurd (omega arith)
change_at-set (row ∷ rows) zero change default changed inside is = ap (λ first. first ∷ rows) is
change_at-set (row ∷ rows) (suc place) change default changed inside is =
    ap (λ after. row ∷ after) (change_at-set rows place change default changed (omega arith) is)

-- behind the last row there is nothing to change
pub change_at-past : (rows : List FileRow) (place : ℕ) (change : FileRow → FileRow) → length rows ≤ place → change_at place change rows ≡ rows
change_at-past [] place change past = refl
change_at-past (row ∷ rows) zero change past = absurd (omega arith)
change_at-past (row ∷ rows) (suc place) change past = ap (λ after. row ∷ after) (change_at-past rows place change (omega arith))

-- a row of another id is passed
change_row-past : (row : FileRow) (rows : List FileRow) (id : ℕ) (change : FileRow → FileRow) → row.id ≢ id
    → change_row id change (row ∷ rows) ≡ row ∷ change_row id change rows
change_row-past row rows id change apart = ap (λ answer. cond answer (change row) row ∷ change_row id change rows) (ne_eqb row.id id apart)

-- no row has an id below the first one
change_none : (start : ℕ) (rows : List FileRow) (id : ℕ) (change : FileRow → FileRow) → AreNumberedFrom (λ row. row.id) start rows → id < start
    → change_row id change rows ≡ rows
change_none start [] id change numbered below = refl
change_none start (row ∷ rows) id change numbered below =
    change_row-past row rows id change (λ is. omega (arith, numbered.0))
    ∙ ap (λ after. row ∷ after) (change_none (suc start) rows id change numbered.1 (omega arith))

-- in a numbered list the row of an id stands as far behind the first as its id is above the first number
pub change_row-place : (start : ℕ) (rows : List FileRow) (place id : ℕ) (change : FileRow → FileRow) → AreNumberedFrom (λ row. row.id) start rows
    → id ≡ start + place
    → change_row id change rows ≡ change_at place change rows
change_row-place start [] place id change numbered is = refl
change_row-place start (row ∷ rows) zero id change numbered is =
    ap (λ answer. cond answer (change row) row ∷ change_row id change rows) (eq-eqb row.id id (omega (arith, numbered.0)))
    ∙ ap (λ after. change row ∷ after) (change_none (suc start) rows id change numbered.1 (omega arith))
change_row-place start (row ∷ rows) (suc place) id change numbered is =
    change_row-past row rows id change (λ same. omega (arith, numbered.0))
    ∙ ap (λ after. row ∷ after) (change_row-place (suc start) rows place id change numbered.1 (omega arith))

-- a change behind other rows
pub change_at-behind : (before after : List FileRow) (place number : ℕ) (change : FileRow → FileRow) → number ≡ length before + place
    → change_at number change (before ++ after) ≡ before ++ change_at place change after
change_at-behind [] after place number change is =
    let same : number ≡ place = omega arith in
    ap (λ other. change_at other change after) same
change_at-behind (row ∷ before) after place zero change is = absurd (omega arith)
change_at-behind (row ∷ before) after place (suc number) change is = ap (λ rows. row ∷ rows) (change_at-behind before after place number change (omega arith))

-- in a numbered list the item at a place has the number that lies as far above the first
pub number_at_place : {Item : Type 0} (number_of : Item → ℕ) (start : ℕ) (items : List Item) (place : ℕ) (item : Item) → AreNumberedFrom number_of start items
    → slice_get items place ≡ Some item
    → number_of item ≡ start + place
number_at_place number_of start [] place item numbered at = cc
number_at_place number_of start (first ∷ items) zero item numbered at = ap number_of (sym (same_Some first item at)) ∙ numbered.0 ∙ sym (add-zero start)
number_at_place number_of start (first ∷ items) (suc place) item numbered at =
    let next : suc start + place ≡ start + suc place = omega arith in
    number_at_place number_of (suc start) items place item numbered.1 at ∙ next

-- and so has a row its id
pub id_at : (start : ℕ) (rows : List FileRow) (place : ℕ) (row : FileRow) → AreNumberedFrom (λ other. other.id) start rows → slice_get rows place ≡ Some row
    → row.id ≡ start + place
id_at start rows place row numbered at = number_at_place (λ (other : FileRow). other.id) start rows place row numbered at

-- the row that was chosen at a place is woken there
pub submit_chosen-place : (start : ℕ) (rows : List FileRow) (place : ℕ) (chosen : Option FileRow) → AreNumberedFrom (λ row. row.id) start rows
    → place < length rows → slice_get rows place ≡ chosen
    → submit_chosen chosen rows ≡ change_at place woken rows
submit_chosen-place start rows place None numbered inside at = absurd (past (slice_get_cases rows place).1)
  where
    past : ((row : FileRow) × (place < length rows) × (slice_get rows place ≡ Some row) × (get_or rows place row ≡ row))
        ⊎ ((length rows ≤ place) × (slice_get rows place ≡ None)) → ⊥
    past (inl found) =
        let clash : Some found.0 ≡ None = sym found.2 ∙ at in
        cc
    past (inr none) = omega (arith, none.0)
submit_chosen-place start rows place (Some row) numbered inside at =
    change_row-place start rows place row.id woken numbered (id_at start rows place row numbered at)

-- what was written at a place of a numbered list is a change of the row with the id behind it
pub change_row-set : (rows : List FileRow) (place : ℕ) (change : FileRow → FileRow) (default changed : FileRow) → AreNumberedFrom (λ row. row.id) 1 rows
    → place < length rows
    → changed ≡ change (get_or rows place default) → set rows place changed ≡ change_row (place + 1) change rows
change_row-set rows place change default changed numbered inside is =
    let next : place + 1 ≡ 1 + place = omega arith in
    change_at-set rows place change default changed inside is ∙ sym (change_row-place 1 rows place (place + 1) change numbered next)

-- the rows but that at a place behind the first
all_but-cons : (place : ℕ) (first : FileRow) (rows : List FileRow) → all_but (suc place) (first ∷ rows) ≡ first ∷ all_but place rows
all_but-cons place first rows =
    let next : suc place + 1 ≡ suc (place + 1) = omega arith in
    ap (λ from. take (suc place) (first ∷ rows) ++ drop from (first ∷ rows)) next

-- the rows but that at a place are as they were, whatever is written there
pub all_but-set : (rows : List FileRow) (place : ℕ) (row : FileRow) → all_but place (set rows place row) ≡ all_but place rows
all_but-set [] place row = refl
all_but-set (first ∷ rows) zero row = refl
all_but-set (first ∷ rows) (suc place) row =
    all_but-cons place first (set rows place row) ∙ ap (λ others. first ∷ others) (all_but-set rows place row) ∙ sym (all_but-cons place first rows)
