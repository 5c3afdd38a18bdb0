-- New rows behind those that were there, of which one begins to wait.
use Rattle.std.proofs.Common.{◌≡◌, ℕ, ◌+◌, ◌-◌, ◌<◌, List, ◌++◌, length, take, drop, Option, Some, None, refl, ap, sym, ◌∙◌, arith}
use Rattle.std.specs.Prelude.{◌==◌, if◌then◌else◌, slice_get}
use Rattle.std.proofs.lemmas.List.{take_at, drop_at, take_rest, length-map}
use Rattle.fts_tables.specs.Tables.{AreNumberedFrom}
use Rattle.fts_tables.specs.Moves.{submit_if_not_used, submit_chosen}
use Rattle.fts_tables.specs.declared.rows.FileRow.{FileRow}
use Rattle.fts_desk.specs.Places.{change_at, woken}
use Rattle.fts_desk.proofs.ChangedRows.{change_at-behind, change_row-place, submit_chosen-place}

-- the first new row is woken by its id
pub first_woken : (before added after : List FileRow) (place id : ℕ) → AreNumberedFrom (λ row. row.id) id added → place ≡ length before
    → after ≡ change_at place woken (before ++ added)
    → after ≡ before ++ submit_if_not_used id added
first_woken before added after place id numbered at is =
    let behind : place ≡ length before + 0 = omega arith in
    let first : id ≡ id + 0 = omega arith in
    is ∙ change_at-behind before added 0 place woken behind ∙ ap (λ rows. before ++ rows) (sym (change_row-place id added 0 id woken numbered first))

-- the new row that was chosen is woken at its place
pub chosen_woken : (before added after : List FileRow) (place number start : ℕ) (chosen : Option FileRow) → AreNumberedFrom (λ row. row.id) start added
    → number ≡ length before + place
    → place < length added → slice_get added place ≡ chosen → after ≡ change_at number woken (before ++ added) → after ≡ before ++ submit_chosen chosen added
chosen_woken before added after place number start chosen numbered at inside found is =
    is ∙ change_at-behind before added place number woken at
    ∙ ap (λ rows. before ++ rows) (sym (submit_chosen-place start added place chosen numbered inside found))

-- the rows that were there, out of all
pub rows_before : (before added all : List FileRow) (first : ℕ) → all ≡ before ++ added → first ≡ length before → take first all ≡ before
rows_before before added all first is at = ap (take first) is ∙ take_at before added first (sym at)

-- the new rows, out of all
pub rows_behind : (before added all : List FileRow) (first : ℕ) → all ≡ before ++ added → first ≡ length before
    → take (length all - first) (drop first all) ≡ added
rows_behind before added all first is at = take_rest all first ∙ ap (drop first) is ∙ drop_at before added first (sym at)

-- a row that is woken is one row still
pub length-submit_if_not_used : (id : ℕ) (rows : List FileRow) → length (submit_if_not_used id rows) ≡ length rows
length-submit_if_not_used id rows = length-map rows (λ row. if row.id == id then woken row else row)

-- whichever row was chosen, there are as many
pub length-submit_chosen : (chosen : Option FileRow) (rows : List FileRow) → length (submit_chosen chosen rows) ≡ length rows
length-submit_chosen None rows = refl
length-submit_chosen (Some row) rows = length-submit_if_not_used row.id rows
