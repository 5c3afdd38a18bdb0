-- One file more of a job is made.
use Rattle.std.proofs.Common.{◌≡◌, ℕ, ◌+◌, ◌<◌, Bool, List, ◌++◌, length, drop, get_or, map, refl, ap, sym, ◌∙◌, append_assoc, add-one}
use Rattle.std.proofs.lemmas.List.{get_or-map, length-map}
use Rattle.serde_json.specs.View.{view}
use Rattle.serde_json.specs.declared.value.Value.{Value}
use Rattle.fts_tables.specs.declared.rows.NewFile.{NewFile}
use Rattle.fts_jobdoc.specs.Ends.{ends_of}
use Rattle.fts_jobdoc.specs.Documents.{new_files, files_from}
use Rattle.fts_jobdoc.specs.declared.ends.FileEnds.{FileEnds}
use Rattle.fts_jobdoc.proofs.Left.{data_left}

-- the ends at a place are those of the file there
ends_at : (files : List Value) (all : List FileEnds) (i : ℕ) (file : Value) (ends : FileEnds) → all ≡ map ends_of (map view files) → i < length files
    → file ≡ get_or files i file → ends ≡ get_or all i ends → ends ≡ ends_of (view file)
ends_at files all i file ends e inside here there =
    let inner : i < length (map view files) = rw (length-map files view) inside in
    there ∙ ap (λ xs. get_or xs i ends) e ∙ get_or-map ends_of (map view files) i (view file) ends inner
    ∙ ap ends_of (get_or-map view files i file (view file) inside ∙ sym (ap view here))

-- what was made, before what is to be made of the rest, stays the whole
pub files_step : (verified : Bool) (files : List Value) (all : List FileEnds) (i : ℕ) (file : Value) (ends : FileEnds) (made whole : List NewFile)
    → all ≡ map ends_of (map view files) → i < length files → file ≡ get_or files i file → ends ≡ get_or all i ends
    → made ++ files_from verified i (map view (drop i files)) ≡ whole
    → (made ++ new_files verified i (view file) ends) ++ files_from verified (i + 1) (map view (drop (i + 1) files)) ≡ whole
files_step verified files all i file ends made whole e inside here there left =
    let same : files_from verified i (map view (drop i files))
    ≡ new_files verified i (view file) ends ++ files_from verified (i + 1) (map view (drop (i + 1) files)) =
    rw (data_left files i file inside here, ends_at files all i file ends e inside here there, add-one) refl in
    append_assoc made (new_files verified i (view file) ends) (files_from verified (i + 1) (map view (drop (i + 1) files)))
    ∙ ap (λ rest. made ++ rest) (sym same) ∙ left
