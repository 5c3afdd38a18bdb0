-- No command changes the link of a row, and the links of new rows are those of their files.
use Rattle.std.proofs.Common.{◌≡◌, ℕ, suc, Bool, true, false, List, [], ◌∷◌, map, Option, Some, None, refl, ap, ◌∙◌}
use Rattle.std.specs.Prelude.{◌==◌, if◌then◌else◌}
use Rattle.fts_tables.specs.Tables.{is_not_used}
use Rattle.fts_tables.specs.JobData.{JobData}
use Rattle.fts_tables.specs.Choice.{next_alternative}
use Rattle.fts_tables.specs.Moves.{submitted, new_rows, submit_if_not_used, submit_chosen, rows_of_kind}
use Rattle.fts_tables.specs.declared.rows.NewFile.{NewFile}
use Rattle.fts_tables.specs.declared.rows.FileRow.{FileRow}
use Rattle.fts_tables.specs.declared.rows.JobKind.{JobKind}
use Rattle.fts_tables.specs.declared.rows.JobKind.TheVariants.{Plain, Replica, Multihop}
use Rattle.fts_tables.specs.declared.rows.FileState.{FileState}
use Rattle.fts_tables.specs.declared.rows.FileState.TheVariants.{Submitted, NotUsed}
use Rattle.fts_index.specs.LiveLinks.{link_of_row}
use Rattle.fts_desk.specs.Loaded.{link_of_file}
use Rattle.fts_desk.specs.Places.{woken}

-- of two rows of one link each answer of a test gives that link
either_link : (one other row : FileRow) (answer : Bool) → link_of_row one ≡ link_of_row row → link_of_row other ≡ link_of_row row
    → link_of_row (if answer then one else other) ≡ link_of_row row
either_link one other row true is_one is_other = is_one
either_link one other row false is_one is_other = is_other

-- a row that is woken
pub link_woken : (row : FileRow) → link_of_row (woken row) ≡ link_of_row row
link_woken row = either_link (submitted row) row row (is_not_used row.state) refl refl

-- new rows, all in one state
links_new_rows : (job id : ℕ) (state : FileState) (files : List NewFile) → map link_of_row (new_rows job id state files) ≡ map link_of_file files
links_new_rows job id state [] = refl
links_new_rows job id state (file ∷ files) = ap (λ links. link_of_file file ∷ links) (links_new_rows job (suc id) state files)

-- rows of which one is woken by its id
links_submitted : (id : ℕ) (rows : List FileRow) → map link_of_row (submit_if_not_used id rows) ≡ map link_of_row rows
links_submitted id [] = refl
links_submitted id (row ∷ rows) =
    ap (λ link. link ∷ map link_of_row (submit_if_not_used id rows)) (either_link (woken row) row row (row.id == id) (link_woken row) refl)
    ∙ ap (λ links. link_of_row row ∷ links) (links_submitted id rows)

-- rows of which the chosen one is woken
links_chosen : (chosen : Option FileRow) (rows : List FileRow) → map link_of_row (submit_chosen chosen rows) ≡ map link_of_row rows
links_chosen None rows = refl
links_chosen (Some row) rows = links_submitted row.id rows

-- the rows of a new job of any kind
pub links_of_kind : (kind : JobKind) (rows : List FileRow) (number id : ℕ) (job : JobData)
    → map link_of_row (rows_of_kind kind rows number id job) ≡ map link_of_file job.files
links_of_kind Plain rows number id job = links_new_rows number id Submitted job.files
links_of_kind Multihop rows number id job = links_submitted id (new_rows number id NotUsed job.files) ∙ links_new_rows number id NotUsed job.files
links_of_kind Replica rows number id job =
    links_chosen (next_alternative job.strategy rows (new_rows number id NotUsed job.files)) (new_rows number id NotUsed job.files)
    ∙ links_new_rows number id NotUsed job.files
