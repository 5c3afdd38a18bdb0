-- What holds of the outcome of a step by cases: by a test, and for a job or a file that may be missing.
use Rattle.std.proofs.Common.{◌≡◌, ℕ, Bool, true, false, cond, map, Option, Some, None, Ok, Err, refl}
use Rattle.std.specs.Prelude.{not, ◌&&◌, ◌==◌, if◌then◌else◌}
use Rattle.std.specs.List.{list_any}
use Rattle.fts_tables.specs.Tables.{Tables, rows_of_job}
use Rattle.fts_tables.specs.Moves.{change_row, cancelled, is_cancellable, is_settled_job}
use Rattle.fts_tables.specs.Step.{Outcomes, with_rows, cancel_rows, cancel_row, cancel_one, cancel_file}
use Rattle.fts_tables.specs.declared.commands.Answer.TheVariants.{Cancelled}
use Rattle.fts_tables.specs.declared.commands.Refusal.TheVariants.{NoJob, NoFile, Unchanged}
use Rattle.fts_tables.proofs.Declared.{FileRow, JobRow, JobKind, Plain, Replica, Multihop}

-- one of two steps, by a test
pub holds_if : (Holds : Outcomes → Type 0) (answer : Bool) (one other : Outcomes) → (answer ≡ true → Holds one) → (answer ≡ false → Holds other)
    → Holds (cond answer one other)
holds_if Holds true one other where_true where_false = where_true refl
holds_if Holds false one other where_true where_false = where_false refl

-- a step on a job that may be missing
pub holds_on_job : (Holds : Outcomes → Type 0) → Holds (Err NoJob) → (found : Option JobRow) (act : JobRow → Outcomes) → ((job : JobRow) → Holds (act job))
    → Holds (elim found [ None ↦ Err NoJob | Some job ↦ act job ])
holds_on_job Holds missing None act each = missing
holds_on_job Holds missing (Some job) act each = each job

-- a cancellation of a job, which may change nothing
pub holds_on_rows : (Holds : Outcomes → Type 0) (tables : Tables) (now : ℕ) (job : JobRow) → Holds (Err (Unchanged job.number))
    → Holds (Ok (with_rows tables now (map (λ row. if row.job == job.number then cancelled row else row) tables.rows), Cancelled job.number))
    → Holds (cancel_rows tables now job)
holds_on_rows Holds tables now job unchanged done =
    let of_job = rows_of_job tables.rows job.number in
    holds_if Holds (not (is_settled_job of_job) && list_any is_cancellable of_job) _ _ (λ is. done) (λ is. unchanged)

-- a cancellation of a row, which may change nothing
pub holds_on_row : (Holds : Outcomes → Type 0) (tables : Tables) (now : ℕ) (job : JobRow) (row : FileRow) → Holds (Err (Unchanged job.number))
    → Holds (Ok (with_rows tables now (change_row row.id cancelled tables.rows), Cancelled job.number)) → Holds (cancel_row tables now job row)
holds_on_row Holds tables now job row unchanged done = holds_if Holds (is_cancellable row) _ _ (λ is. done) (λ is. unchanged)

-- a cancellation of a file, by the kind of its job
pub holds_on_one : (Holds : Outcomes → Type 0) (tables : Tables) (now : ℕ) (job : JobRow) (row : FileRow) → Holds (cancel_row tables now job row)
    → Holds (cancel_rows tables now job) → (kind : JobKind) → Holds (cancel_one tables now job row kind)
holds_on_one Holds tables now job row of_row of_job Plain = of_row
holds_on_one Holds tables now job row of_row of_job Replica = of_job
holds_on_one Holds tables now job row of_row of_job Multihop = of_job

-- a cancellation of a file that may be missing
pub holds_on_file : (Holds : Outcomes → Type 0) → Holds (Err NoFile) → (tables : Tables) (now : ℕ) (job : JobRow)
    → ((row : FileRow) → Holds (cancel_one tables now job row job.kind)) → (found : Option FileRow) → Holds (cancel_file tables now job found)
holds_on_file Holds missing tables now job each None = missing
holds_on_file Holds missing tables now job each (Some row) = holds_if Holds (row.job == job.number) _ _ (λ is. each row) (λ is. missing)
