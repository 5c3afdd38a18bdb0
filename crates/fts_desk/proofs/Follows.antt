-- The row that follows a report, by its place.
use Rattle.std.proofs.Common.{◌≡◌, ℕ, zero, suc, ◌+◌, ◌-◌, ◌<◌, cond, List, [], ◌∷◌, take, drop, refl, ap, sym, ◌∙◌, arith}
use Rattle.std.specs.Prelude.{slice_get}
use Rattle.std.proofs.Math.Seq.{drop-nil}
use Rattle.std.proofs.lemmas.Bool.{lt-ltb}
use Rattle.fts_tables.specs.Tables.{AreNumberedFrom, rows_of_job}
use Rattle.fts_tables.specs.Choice.{next_alternative}
use Rattle.fts_tables.specs.Moves.{submit_if_not_used, followed_finish, followed_failure}
use Rattle.fts_tables.specs.declared.rows.FileRow.{FileRow}
use Rattle.fts_tables.specs.declared.rows.JobRow.{JobRow}
use Rattle.fts_tables.specs.declared.rows.JobKind.TheVariants.{Multihop, Replica}
use Rattle.fts_desk.specs.Places.{change_at, woken}
use Rattle.fts_desk.specs.Standing.{StandTogether}
use Rattle.fts_desk.proofs.ChangedRows.{change_row-place, submit_chosen-place}

-- the hop behind a row was woken at its place
pub hop_woken : (rows after : List FileRow) (job : JobRow) (row : FileRow) (place : ℕ) → AreNumberedFrom (λ other. other.id) 1 rows → row.id ≡ place + 1
    → place + 2 < job.first + job.count
    → after ≡ change_at (place + 1) woken rows → after ≡ followed_finish Multihop job row rows
hop_woken rows after job row place numbered at inside is =
    let next : row.id + 1 ≡ 1 + (place + 1) = omega arith in
    is ∙ sym (change_row-place 1 rows (place + 1) (row.id + 1) woken numbered next)
    ∙ sym (ap (λ answer. cond answer (submit_if_not_used (row.id + 1) rows) rows) (lt-ltb (row.id + 1) (job.first + job.count) (omega arith)))

-- in the front of a list
head_at : (count place : ℕ) (rows : List FileRow) → place < count → slice_get (take count rows) place ≡ slice_get rows place
head_at zero place rows inside = absurd (omega arith)
head_at (suc count) place [] inside = refl
head_at (suc count) zero (row ∷ rows) inside = refl
head_at (suc count) (suc place) (row ∷ rows) inside = head_at count place rows (omega arith)

-- in a part of a list
pub part_at : (from count place : ℕ) (rows : List FileRow) → place < count → slice_get (take count (drop from rows)) place ≡ slice_get rows (from + place)
part_at zero count place rows inside =
    let same : place ≡ 0 + place = omega arith in
    head_at count place rows inside ∙ ap (slice_get rows) same
part_at (suc from) count place [] inside = ap (λ (none : List FileRow). slice_get (take count none) place) (drop-nil (suc from)) ∙ head_at count place [] inside
part_at (suc from) count place (row ∷ rows) inside =
    let next : suc (from + place) ≡ suc from + place = omega arith in
    part_at from count place rows inside ∙ ap (slice_get (row ∷ rows)) next

-- the next alternative was woken at its place
pub alternative_woken : (rows of_job after : List FileRow) (job : JobRow) (place : ℕ) → AreNumberedFrom (λ row. row.id) 1 rows → StandTogether rows job
    → of_job ≡ rows_of_job rows job.number
    → place < job.count → slice_get of_job place ≡ next_alternative job.strategy rows of_job → after ≡ change_at (job.first - 1 + place) woken rows
    → after ≡ followed_failure Replica job rows
alternative_woken rows of_job after job place numbered stand these inside chosen is =
    let there : slice_get rows (job.first - 1 + place) ≡ next_alternative job.strategy rows (rows_of_job rows job.number) =
    sym (ap (λ (some : List FileRow). slice_get some place) (these ∙ stand.taken) ∙ part_at (job.first - 1) job.count place rows inside)
    ∙ chosen ∙ ap (next_alternative job.strategy rows) these in
    is ∙ sym (submit_chosen-place 1 rows (job.first - 1 + place) (next_alternative job.strategy rows (rows_of_job rows job.number)) numbered
    (omega (arith, stand.inside)) there)
