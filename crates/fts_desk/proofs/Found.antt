-- What a command makes of the job that it names, where that is found; and the answer of a cancellation that is accepted.
use Rattle.std.proofs.Common.{◌≡◌, ℕ, zero, suc, ◌+◌, ◌-◌, ◌<◌, ◌≤◌, Bool, true, false, cond, List, [], ◌∷◌, length, get_or, set, map, arith, Option, Some, None, Ok, Err, refl, ap, sym, ◌∙◌}
use Rattle.std.specs.Prelude.{◌==◌, option_map}
use Rattle.std.proofs.lemmas.Bool.{eq-eqb, ne_eqb}
use Rattle.fts_tables.specs.Tables.{Tables, job_at, row_at, rows_of_job, AreNumberedFrom}
use Rattle.fts_tables.specs.Moves.{change_row, cancelled, is_settled_job}
use Rattle.fts_tables.specs.Step.{Outcomes, on_job, with_rows, cancel_rows, cancel_row, cancel_one, cancel_file, with_priority, set_priority}
use Rattle.fts_tables.specs.History.{IsAccepted}
use Rattle.fts_tables.specs.declared.rows.FileRow.{FileRow}
use Rattle.fts_tables.specs.declared.rows.JobRow.{JobRow}
use Rattle.fts_tables.specs.declared.rows.JobKind.{JobKind}
use Rattle.fts_tables.specs.declared.rows.JobKind.TheVariants.{Plain, Replica, Multihop}
use Rattle.fts_tables.specs.declared.commands.Answer.{Answer}
use Rattle.fts_tables.specs.declared.commands.Refusal.{Refusal}
use Rattle.fts_tables.specs.declared.commands.Answer.TheVariants.{Cancelled, PrioritySet}
use Rattle.fts_tables.specs.declared.rows.Reason.TheVariants.{Cancelled as CancelledReason}
use Rattle.fts_tables.specs.declared.commands.Refusal.TheVariants.{NoJob, NoFile, Unchanged}
use Rattle.fts_desk.specs.Cancels.{cancelled_of, after_file}
use Rattle.fts_desk.specs.Standing.{prioritized}
use Rattle.fts_desk.proofs.Numbered.{found-number, number_at, within_found}

-- what a command makes of a job that may be missing
abbrev pub on_option : (JobRow → Outcomes) → Option JobRow → Outcomes
on_option act found = elim found [ None ↦ Err NoJob | Some job ↦ act job ]

-- a command is done to the job that is found
pub on_found : (tables : Tables) (number : ℕ) (act : JobRow → Outcomes) (job : JobRow) → job_at tables.jobs number ≡ Some job
    → on_job tables number act ≡ act job
on_found tables number act job is = ap (λ (found : Option JobRow). elim found [ None ↦ Err NoJob | Some job ↦ act job ]) is

-- rows and moments that are equal make equal tables
pub rows_done : (tables : Tables) (answer : Answer) (moment other : ℕ) (rows after : List FileRow) → moment ≡ other → rows ≡ after
    → ◌≡◌ {A = Outcomes} (Ok (with_rows tables moment rows, answer)) (Ok (with_rows tables other after, answer))
rows_done tables answer moment other rows after same is =
    ap (λ number. Ok (with_rows tables number rows, answer)) same ∙ ap (λ (items : List FileRow). Ok (with_rows tables other items, answer)) is

-- jobs and moments that are equal make equal tables
pub jobs_done : (tables : Tables) (answer : Answer) (moment other : ℕ) (jobs after : List JobRow) → moment ≡ other → jobs ≡ after
    → ◌≡◌ {A = Outcomes} (Ok (record tables { moment = moment; jobs = jobs }, answer)) (Ok (record tables { moment = other; jobs = after }, answer))
jobs_done tables answer moment other jobs after same is =
    ap (λ number. Ok (record tables { moment = number; jobs = jobs }, answer)) same
    ∙ ap (λ (items : List JobRow). Ok (record tables { moment = other; jobs = items }, answer)) is

-- where what a test lets through is accepted, it was let through
pub passed : (answer : Bool) (done : Tables × Answer) (refusal : Refusal) → IsAccepted (cond {A = Outcomes} answer (Ok done) (Err refusal))
    → cond {A = Outcomes} answer (Ok done) (Err refusal) ≡ Ok done
passed true done refusal accepted = refl
passed false done refusal accepted = absurd accepted

-- what a cancellation of a job's rows leaves, where it is accepted
pub rows_cancelled : (tables : Tables) (now : ℕ) (job : JobRow) → IsAccepted (cancel_rows tables now job)
    → cancel_rows tables now job ≡ Ok (with_rows tables now (map (cancelled_of CancelledReason job.number) tables.rows), Cancelled job.number)
rows_cancelled tables now job accepted = passed _ _ _ accepted

-- what a cancellation of a job leaves, where it is accepted
pub job_cancelled : (tables : Tables) (now number : ℕ) → IsAccepted (on_job tables number (cancel_rows tables now))
    → on_job tables number (cancel_rows tables now) ≡ Ok (with_rows tables now (map (cancelled_of CancelledReason number) tables.rows), Cancelled number)
job_cancelled tables now number accepted = by_job (job_at tables.jobs number) refl accepted
  where
    by_job : (found : Option JobRow) → job_at tables.jobs number ≡ found → IsAccepted (on_option (cancel_rows tables now) found)
        → on_option (cancel_rows tables now) found ≡ Ok (with_rows tables now (map (cancelled_of CancelledReason number) tables.rows), Cancelled number)
    by_job None is accepted = absurd accepted
    by_job (Some job) is accepted = rows_cancelled tables now job accepted
        ∙ ap (λ other. Ok (with_rows tables now (map (cancelled_of CancelledReason other) tables.rows), Cancelled other)) (number_at tables.jobs number job is)

-- the row that is found by an id has it
pub id_at : (rows : List FileRow) (id : ℕ) (row : FileRow) → row_at rows id ≡ Some row → row.id ≡ id
id_at rows id row is = found-number (λ (other : FileRow). other.id) rows id row is

-- the row that is cancelled alone
row_cancelled : (tables : Tables) (now : ℕ) (job : JobRow) (row : FileRow) → IsAccepted (cancel_row tables now job row)
    → cancel_row tables now job row ≡ Ok (with_rows tables now (change_row row.id cancelled tables.rows), Cancelled job.number)
row_cancelled tables now job row accepted = passed _ _ _ accepted

-- what a cancellation of a file leaves, by the kind of its job
one_cancelled : (tables : Tables) (now file : ℕ) (job : JobRow) (row : FileRow) (kind : JobKind) → row.id ≡ file
    → IsAccepted (cancel_one tables now job row kind)
    → cancel_one tables now job row kind ≡ Ok (with_rows tables now (after_file CancelledReason (Some kind) job.number file tables.rows), Cancelled job.number)
one_cancelled tables now file job row Plain same accepted = row_cancelled tables now job row accepted
    ∙ ap (λ id. Ok (with_rows tables now (change_row id cancelled tables.rows), Cancelled job.number)) same
one_cancelled tables now file job row Replica same accepted = rows_cancelled tables now job accepted
one_cancelled tables now file job row Multihop same accepted = rows_cancelled tables now job accepted

module _ (tables : Tables) (now number file : ℕ) where
  -- an accepted cancellation of a file names a row
  pub file_found : (found : Option JobRow) (row : Option FileRow) → IsAccepted (on_option (λ job. cancel_file tables now job row) found)
      → (named : FileRow) × (row ≡ Some named)
  file_found None row accepted = absurd accepted
  file_found (Some job) None accepted = absurd accepted
  file_found (Some job) (Some row) accepted = (row, refl)

  -- what it leaves
  after_found : (job : JobRow) (row : FileRow) → job.number ≡ number → row.id ≡ file → IsAccepted (cancel_file tables now job (Some row))
      → cancel_file tables now job (Some row) ≡ Ok (with_rows tables now (after_file CancelledReason (Some job.kind) number file tables.rows), Cancelled number)
  after_found job row is same accepted = by_test (row.job == job.number) accepted
    where
      by_test : (answer : Bool) → IsAccepted (cond answer (cancel_one tables now job row job.kind) (Err NoFile))
          → cond answer (cancel_one tables now job row job.kind) (Err NoFile)
          ≡ Ok (with_rows tables now (after_file CancelledReason (Some job.kind) number file tables.rows), Cancelled number)
      by_test true accepted = one_cancelled tables now file job row job.kind same accepted
          ∙ ap (λ other. Ok (with_rows tables now (after_file CancelledReason (Some job.kind) other file tables.rows), Cancelled other)) is
      by_test false accepted = absurd accepted

  -- what an accepted cancellation of a file leaves
  pub file_cancelled : IsAccepted (on_option (λ job. cancel_file tables now job (row_at tables.rows file)) (job_at tables.jobs number))
      → on_option (λ job. cancel_file tables now job (row_at tables.rows file)) (job_at tables.jobs number)
      ≡ Ok (
        with_rows tables now (after_file CancelledReason (option_map (λ (job : JobRow). job.kind) (job_at tables.jobs number)) number file tables.rows),
        Cancelled number,
      )
  file_cancelled accepted = by_found (job_at tables.jobs number) (row_at tables.rows file) refl refl accepted
    where
      by_found : (found : Option JobRow) (row : Option FileRow) → job_at tables.jobs number ≡ found → row_at tables.rows file ≡ row
          → IsAccepted (on_option (λ job. cancel_file tables now job row) found)
          → on_option (λ job. cancel_file tables now job row) found
          ≡ Ok (with_rows tables now (after_file CancelledReason (option_map (λ (job : JobRow). job.kind) found) number file tables.rows), Cancelled number)
      by_found None row is at accepted = absurd accepted
      by_found (Some job) None is at accepted = absurd accepted
      by_found (Some job) (Some row) is at accepted = after_found job row (number_at tables.jobs number job is) (id_at tables.rows file row at) accepted

-- the job of a number is changed alone
only_one : (start : ℕ) (jobs : List JobRow) (place number priority : ℕ) (default changed : JobRow) → AreNumberedFrom (λ job. job.number) start jobs
    → place < length jobs → number ≡ start + place
    → changed ≡ with_priority priority (get_or jobs place default) → set jobs place changed ≡ map (prioritized number priority) jobs
only_one start [] place number priority default changed numbered inside is same = absurd (omega arith)
only_one start (job ∷ jobs) zero number priority default changed numbered inside is same =
    let here : (job.number == number) ≡ true = eq-eqb job.number number (omega (arith, numbered.0)) in
    let below : number < suc start = omega arith in
    ap (λ (first : JobRow). first ∷ jobs) same
    ∙ (ap (λ (others : List JobRow). with_priority priority job ∷ others) (sym (none_below (suc start) jobs number priority numbered.1 below))
    ∙ ap (λ answer. cond answer (with_priority priority job) job ∷ map (prioritized number priority) jobs) (sym here))
  where
    none_below : (start : ℕ) (jobs : List JobRow) (number priority : ℕ) → AreNumberedFrom (λ job. job.number) start jobs → number < start
        → map (prioritized number priority) jobs ≡ jobs
    none_below start [] number priority numbered below = refl
    none_below start (job ∷ jobs) number priority numbered below =
        let differs : (job.number == number) ≡ false = ne_eqb job.number number (λ same. omega (arith, numbered.0)) in
        let behind : number < suc start = omega arith in
        ap (λ answer. cond answer (with_priority priority job) job ∷ map (prioritized number priority) jobs) differs
        ∙ ap (λ (others : List JobRow). job ∷ others) (none_below (suc start) jobs number priority numbered.1 behind)
only_one start (job ∷ jobs) (suc place) number priority default changed numbered inside is same =
    let differs : (job.number == number) ≡ false = ne_eqb job.number number (λ equal. omega (arith, numbered.0)) in
    let behind : number ≡ suc start + place = omega arith in
    ap (λ (others : List JobRow). job ∷ others) (only_one (suc start) jobs place number priority default changed numbered.1 (omega arith) behind same)
    ∙ ap (λ answer. cond answer (with_priority priority job) job ∷ map (prioritized number priority) jobs) (sym differs)

-- what was written at the place of a job's number
pub job_changed : (jobs : List JobRow) (number priority : ℕ) (default changed : JobRow) → AreNumberedFrom (λ job. job.number) 1 jobs → 1 ≤ number
    → number ≤ length jobs
    → changed ≡ with_priority priority (get_or jobs (number - 1) default) → set jobs (number - 1) changed ≡ map (prioritized number priority) jobs
job_changed jobs number priority default changed numbered first last same =
    let is : number ≡ 1 + (number - 1) = omega (arith, first) in
    only_one 1 jobs (number - 1) number priority default changed numbered (omega (arith, first, last)) is same

-- an accepted change of a priority names a job, which stands among the jobs
pub job_inside : (tables : Tables) (now number priority : ℕ) → AreNumberedFrom (λ job. job.number) 1 tables.jobs
    → IsAccepted (on_option (λ job. set_priority tables now job priority) (job_at tables.jobs number)) → (1 ≤ number) × (number ≤ length tables.jobs)
job_inside tables now number priority numbered accepted = by_job (job_at tables.jobs number) refl accepted
  where
    by_job : (found : Option JobRow) → job_at tables.jobs number ≡ found → IsAccepted (on_option (λ job. set_priority tables now job priority) found)
        → (1 ≤ number) × (number ≤ length tables.jobs)
    by_job None is accepted = absurd accepted
    by_job (Some job) is accepted = within_found (λ (job : JobRow). job.number) tables.jobs number job numbered is

-- what an accepted change of a priority leaves
pub priority_set : (tables : Tables) (now number priority : ℕ)
    → IsAccepted (on_option (λ job. set_priority tables now job priority) (job_at tables.jobs number))
    → on_option (λ job. set_priority tables now job priority) (job_at tables.jobs number)
    ≡ Ok (record tables { moment = now; jobs = map (prioritized number priority) tables.jobs }, PrioritySet number)
priority_set tables now number priority accepted = by_job (job_at tables.jobs number) refl accepted
  where
    by_test : (job : JobRow) (answer : Bool)
        → IsAccepted (cond {A = Outcomes} answer (Err (Unchanged job.number))
        (Ok (record tables { moment = now; jobs = map (prioritized job.number priority) tables.jobs }, PrioritySet job.number)))
        → cond {A = Outcomes} answer (Err (Unchanged job.number))
        (Ok (record tables { moment = now; jobs = map (prioritized job.number priority) tables.jobs }, PrioritySet job.number))
        ≡ Ok (record tables { moment = now; jobs = map (prioritized job.number priority) tables.jobs }, PrioritySet job.number)
    by_test job true accepted = absurd accepted
    by_test job false accepted = refl

    by_job : (found : Option JobRow) → job_at tables.jobs number ≡ found → IsAccepted (on_option (λ job. set_priority tables now job priority) found)
        → on_option (λ job. set_priority tables now job priority) found
        ≡ Ok (record tables { moment = now; jobs = map (prioritized number priority) tables.jobs }, PrioritySet number)
    by_job None is accepted = absurd accepted
    by_job (Some job) is accepted = by_test job (is_settled_job (rows_of_job tables.rows job.number)) accepted
        ∙ ap (λ other. Ok (record tables { moment = now; jobs = map (prioritized other priority) tables.jobs }, PrioritySet other))
        (number_at tables.jobs number job is)
