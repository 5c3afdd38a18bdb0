-- A report leaves the row's file as it is, so numbers and the rows of each job stay where they are.
use Rattle.std.proofs.Common.{◌≡◌, ℕ, suc, ◌+◌, ◌-◌, ◌≤◌, Bool, true, false, cond, List, [], ◌∷◌, map, take, drop, refl, ap, sym, ◌∙◌, subst}
use Rattle.std.specs.Prelude.{◌==◌, ◌&&◌, nat_lt, min, if◌then◌else◌}
use Rattle.std.proofs.lemmas.List.{length-map, take-map, drop-map}
use Rattle.fts_tables.specs.Tables.{AreNumberedFrom, rows_of_job}
use Rattle.fts_tables.specs.Moves.{canceled, is_retryable, reported, reported_failure, reported_without_cancel}
use Rattle.fts_tables.specs.Laws.{FileOfRow, file_of}
use Rattle.fts_tables.specs.declared.limits.TheConstants.{LAST_MOMENT}
use Rattle.fts_tables.specs.declared.rows.FileRow.{FileRow}
use Rattle.fts_tables.specs.declared.rows.JobRow.{JobRow}
use Rattle.fts_tables.specs.declared.rows.FileState.TheVariants.{Submitted, Failed}
use Rattle.fts_tables.specs.declared.rows.Reason.TheVariants.{Ended}
use Rattle.fts_tables.specs.declared.rows.Outcome.{Outcome}
use Rattle.fts_tables.specs.declared.rows.Outcome.TheVariants.{Verified}
use Rattle.fts_desk.specs.Standing.{StandTogether, AreFormed}

-- a failure that may be tried again, or not, is the same file's
tried_file : (row : FileRow) (again : Bool) (retries moment : ℕ) (outcome : Outcome)
    → file_of (if again then record row { state = Submitted; retries = retries; not_before = moment; reason = Ended outcome } else record row {
      state = Failed;
      reason = Ended outcome;
    }) ≡ file_of row
tried_file row true retries moment outcome = refl
tried_file row false retries moment outcome = refl

-- a failure is the same file's
failed_file : (job : JobRow) (now : ℕ) (outcome : Outcome) (row : FileRow) → file_of (reported_failure job now outcome row) ≡ file_of row
failed_file job now outcome row =
    tried_file row (is_retryable outcome && nat_lt row.retries job.retry) (row.retries + 1) (min (now + job.delay) LAST_MOMENT) outcome

-- each outcome leaves the file
ended_file : (job : JobRow) (now : ℕ) (outcome : Outcome) (row : FileRow) → file_of (reported_without_cancel job now outcome row) ≡ file_of row
ended_file job now (Verified size digest) row = refl
ended_file job now other row = failed_file job now other row

-- a cancellation leaves it as well
asked_file : (job : JobRow) (now : ℕ) (outcome : Outcome) (row : FileRow) (asked : Bool)
    → file_of (if asked then canceled row else reported_without_cancel job now outcome row) ≡ file_of row
asked_file job now outcome row true = refl
asked_file job now outcome row false = ended_file job now outcome row

-- a report leaves the file
pub reported_file : (job : JobRow) (now : ℕ) (outcome : Outcome) (row : FileRow) → file_of (reported job now outcome row) ≡ file_of row
reported_file job now outcome row = asked_file job now outcome row row.cancel_asked

-- a change of each row that leaves its file
module _ (change : FileRow → FileRow) (keeps : (row : FileRow) → file_of (change row) ≡ file_of row) where
  -- the numbers stay
  pub numbered-map : (start : ℕ) (rows : List FileRow) → AreNumberedFrom (λ row. row.id) start rows → AreNumberedFrom (λ row. row.id) start (map change rows)
  numbered-map start [] numbered = tt
  numbered-map start (row ∷ rows) numbered = (ap (λ (file : FileOfRow). file.id) (keeps row) ∙ numbered.0, numbered-map (suc start) rows numbered.1)

  -- and so do the jobs
  owned-map : (rows : List FileRow) → map (λ (row : FileRow). row.job) (map change rows) ≡ map (λ (row : FileRow). row.job) rows
  owned-map [] = refl
  owned-map (row ∷ rows) =
      ap (λ job. job ∷ map (λ (row : FileRow). row.job) (map change rows)) (ap (λ (file : FileOfRow). file.job) (keeps row))
      ∙ ap (λ jobs. row.job ∷ jobs) (owned-map rows)

  -- so jobs and rows keep their form
  pub formed-map : (jobs : List JobRow) (rows : List FileRow) → AreFormed jobs rows → AreFormed jobs (map change rows)
  formed-map jobs rows formed = record {
    jobs = formed.jobs;
    rows = numbered-map 1 rows formed.rows;
    follow = record { firsts = formed.follow.firsts; owners = owned-map rows ∙ formed.follow.owners };
  }

  -- the rows of a job are those that they were, changed
  rows_of_job-map : (rows : List FileRow) (number : ℕ) → rows_of_job (map change rows) number ≡ map change (rows_of_job rows number)
  rows_of_job-map [] number = refl
  rows_of_job-map (row ∷ rows) number =
      ap (λ job. cond (job == number) (change row ∷ rows_of_job (map change rows) number) (rows_of_job (map change rows) number))
      (ap (λ (file : FileOfRow). file.job) (keeps row))
      ∙ by_head (row.job == number) (rows_of_job-map rows number)
    where
      by_head : (answer : Bool) → rows_of_job (map change rows) number ≡ map change (rows_of_job rows number)
          → cond answer (change row ∷ rows_of_job (map change rows) number) (rows_of_job (map change rows) number)
          ≡ map change (cond answer (row ∷ rows_of_job rows number) (rows_of_job rows number))
      by_head true behind = ap (λ after. change row ∷ after) behind
      by_head false behind = behind

  -- they stand together as before
  pub together-map : (rows : List FileRow) (job : JobRow) → StandTogether rows job → StandTogether (map change rows) job
  together-map rows job stand = record {
    first = stand.first;
    inside = subst (λ count. job.first - 1 + job.count ≤ count) (sym (length-map rows change)) stand.inside;
    taken = rows_of_job-map rows job.number ∙ ap (map change) stand.taken
        ∙ sym (ap (take job.count) (drop-map change (job.first - 1) rows) ∙ take-map change job.count (drop (job.first - 1) rows));
  }

-- a change of the row with an id leaves each row's file where it leaves that of every row
pub one_file : (id : ℕ) (change : FileRow → FileRow) → ((row : FileRow) → file_of (change row) ≡ file_of row) → (row : FileRow)
    → file_of (if row.id == id then change row else row) ≡ file_of row
one_file id change keeps row = by_test (row.id == id)
  where
    by_test : (answer : Bool) → file_of (if answer then change row else row) ≡ file_of row
    by_test true = keeps row
    by_test false = refl
