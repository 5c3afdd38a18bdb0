-- The rows that a job adds, one after another.
use Rattle.std.proofs.Common.{◌≡◌, ℕ, suc, ◌+◌, List, [], ◌∷◌, ◌++◌, length, ap, sym, ◌∙◌, refl, arith, add-zero, append_assoc}
use Rattle.fts_tables.specs.Tables.{AreNumberedFrom}
use Rattle.fts_tables.specs.Moves.{new_row, new_rows}
use Rattle.fts_tables.specs.declared.rows.NewFile.{NewFile}
use Rattle.fts_tables.specs.declared.rows.FileRow.{FileRow}
use Rattle.fts_tables.specs.declared.rows.FileState.{FileState}

-- there is a row for each file
pub length-new_rows : (job id : ℕ) (state : FileState) (files : List NewFile) → length (new_rows job id state files) ≡ length files
length-new_rows job id state [] = refl
length-new_rows job id state (f ∷ fs) = ap suc (length-new_rows job (suc id) state fs)

-- one file more
pub new_rows-push : (job id : ℕ) (state : FileState) (files : List NewFile) (f : NewFile)
    → new_rows job id state (files ++ f ∷ []) ≡ new_rows job id state files ++ new_row job (id + length files) state f ∷ []
new_rows-push job id state [] f = ap (λ n. new_row job n state f ∷ []) (sym (add-zero id))
new_rows-push job id state (g ∷ gs) f =
    let e : suc id + length gs ≡ id + length (g ∷ gs) = omega arith in
    ap (λ (rows : List FileRow). new_row job id state g ∷ rows)
    (new_rows-push job (suc id) state gs f ∙ ap (λ n. new_rows job (suc id) state gs ++ new_row job n state f ∷ []) e)

-- a turn of the loop that adds them
pub add_step : (was rows : List FileRow) (done : List NewFile) (job id k : ℕ) (state : FileState) (f : NewFile)
    → rows ≡ was ++ new_rows job id state done → k ≡ id + length done
    → rows ++ new_row job k state f ∷ [] ≡ was ++ new_rows job id state (done ++ f ∷ [])
add_step was rows done job id k state f e n =
    ap (λ (xs : List FileRow). xs ++ new_row job k state f ∷ []) e
    ∙ append_assoc was (new_rows job id state done) (new_row job k state f ∷ [])
    ∙ ap (λ m. was ++ (new_rows job id state done ++ new_row job m state f ∷ [])) n
    ∙ ap (λ (xs : List FileRow). was ++ xs) (sym (new_rows-push job id state done f))

-- the rows are numbered from the first one's id on
pub new_rows-numbered : (job id : ℕ) (state : FileState) (files : List NewFile) → AreNumberedFrom (λ row. row.id) id (new_rows job id state files)
new_rows-numbered job id state [] = tt
new_rows-numbered job id state (f ∷ fs) = (refl, new_rows-numbered job (suc id) state fs)
