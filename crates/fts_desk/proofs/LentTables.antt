-- What was lent of the tables is theirs: a job that was found in it, the job's rows, and what stands beside them.
use Rattle.std.proofs.Common.{◌≡◌, ◌<◌, ℕ, List, length, get_or, Some, ap, sym, ◌∙◌, subst}
use Rattle.std.specs.Prelude.{slice_get}
use Rattle.fts_tables.specs.Tables.{Tables, AreWellFormed, job_at, rows_of_job}
use Rattle.fts_tables.specs.declared.rows.FileRow.{FileRow}
use Rattle.fts_tables.specs.declared.rows.JobRow.{JobRow}
use Rattle.fts_desk.specs.Standing.{StandTogether}
use Rattle.fts_desk.proofs.Numbered.{number_at, stand_together}
use Rattle.fts_desk.proofs.Reported.{found_there}

-- what holds of a job's rows where they were lent
together_in : {tables : Tables} → AreWellFormed tables → (number : ℕ) {job : JobRow} → job_at tables.jobs number ≡ Some job → {rows : List FileRow}
    → rows ≡ tables.rows → StandTogether rows job
together_in {tables} formed number {job} found lent = subst (λ rows. StandTogether rows job) (sym lent) (stand_together tables number job formed found)

-- a job that was found in the jobs that were lent
module _ {tables : Tables} (formed : AreWellFormed tables) (number : ℕ) {jobs : List JobRow} {job : JobRow} (same : jobs ≡ tables.jobs)
    (found : Some job ≡ job_at jobs number) where
  -- it is the tables'
  pub job_lent : job_at tables.jobs number ≡ Some job
  job_lent = sym (found ∙ ap (λ jobs. job_at jobs number) same)

  -- its rows stand together
  pub together_lent : {rows : List FileRow} → rows ≡ tables.rows → StandTogether rows job
  together_lent lent = together_in formed number job_lent lent

  -- they are those of its number
  pub rows_lent : {rows : List FileRow} → rows ≡ tables.rows → rows_of_job rows job.number ≡ rows_of_job tables.rows number
  rows_lent lent = ap (λ (rows : List FileRow). rows_of_job rows job.number) lent
      ∙ ap (rows_of_job tables.rows) (number_at tables.jobs number job job_lent)

-- a job that was read at the place that a look-up gave
module _ {tables : Tables} (formed : AreWellFormed tables) (number : ℕ) (place : ℕ) (job : JobRow) {jobs : List JobRow} (same : jobs ≡ tables.jobs)
    (found : slice_get jobs place ≡ job_at jobs number) (inside : place < length jobs) (read : job ≡ get_or tables.jobs place job) where
  -- it is the tables'
  pub job_there : job_at tables.jobs number ≡ Some job
  job_there = found_there (λ (jobs : List JobRow). job_at jobs number) place job same found inside read

  -- its rows stand together
  pub together_there : {rows : List FileRow} → rows ≡ tables.rows → StandTogether rows job
  together_there lent = together_in formed number job_there lent

-- what holds of jobs and rows that were lent holds of those that they were lent from
pub holds_there : (Holds : List JobRow → List FileRow → Type 0) {lent jobs : List JobRow} {read rows : List FileRow} → lent ≡ jobs → read ≡ rows
    → Holds lent read → Holds jobs rows
holds_there Holds {jobs} {read} same_jobs same_rows holds = subst (Holds jobs) same_rows (subst (λ some. Holds some read) same_jobs holds)
