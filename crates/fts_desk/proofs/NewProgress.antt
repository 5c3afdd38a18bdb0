-- How jobs stand where a job comes in behind them, with its rows behind theirs.
use Rattle.std.proofs.Common.{◌≡◌, ◌≢◌, ℕ, suc, ◌+◌, ◌≤◌, Bool, true, false, cond, List, [], ◌∷◌, ◌++◌, length, map, replicate, Some, None, refl, ap, sym, ◌∙◌, arith, append-nil, append_assoc, length-append}
use Rattle.std.specs.Prelude.{◌&&◌, ◌==◌, count_by}
use Rattle.std.specs.List.{AllByRecursion}
use Rattle.std.proofs.lemmas.Bool.{eq-eqb, ne_eqb}
use Rattle.std.proofs.lemmas.List.{map-append, length-replicate, length-map}
use Rattle.fts_tables.specs.Tables.{Tables, AreNumberedFrom, AreFirstsFrom, AreWellFormed, RowsFollow, owners, is_live, job_at, rows_of_job}
use Rattle.fts_tables.specs.Moves.{state_of_job}
use Rattle.fts_tables.specs.declared.rows.FileRow.{FileRow}
use Rattle.fts_tables.specs.declared.rows.FileState.{FileState}
use Rattle.fts_tables.specs.declared.rows.JobRow.{JobRow}
use Rattle.fts_desk.specs.Counted.{has_begun, is_of, count_in, progress_in, progress_of, AreStatesOf}
use Rattle.fts_desk.specs.JobLists.{JobList}
use Rattle.fts_desk.specs.declared.job_states.Progress.{Progress}
use Rattle.fts_desk.proofs.Numbered.{none_of_job}
use Rattle.fts_desk.proofs.JobProgress.{count_by-cons, as_they_are}

-- the rows of a job that are in a state of some are counted among its rows
count_of_job : (are : FileState → Bool) (rows : List FileRow) (number : ℕ) → count_by (is_of number are) rows ≡ count_in are (rows_of_job rows number)
count_of_job are [] number = refl
count_of_job are (row ∷ rows) number =
    count_by-cons (is_of number are) row rows ∙ by_head (row.job == number) (count_of_job are rows number)
  where
    by_head : (answer : Bool) → count_by (is_of number are) rows ≡ count_in are (rows_of_job rows number)
        → cond (answer && are row.state) 1 0 + count_by (is_of number are) rows
        ≡ count_in are (cond answer (row ∷ rows_of_job rows number) (rows_of_job rows number))
    by_head true behind =
        ap (λ count. cond (are row.state) 1 0 + count) behind
        ∙ sym (count_by-cons (λ (other : FileRow). are other.state) row (rows_of_job rows number))
    by_head false behind = omega (arith, behind)

-- so a job stands as its rows say
stands_by : (rows of_job : List FileRow) (job : JobRow) → rows_of_job rows job.number ≡ of_job
    → progress_of rows job ≡ progress_in of_job job.kind
stands_by rows of_job job same =
    as_they_are (progress_of rows job) (progress_in of_job job.kind) (ap (state_of_job job.kind) same)
    (count_of_job is_live rows job.number ∙ ap (count_in is_live) same) (count_of_job has_begun rows job.number ∙ ap (count_in has_begun) same)

-- the rows of a job among rows and those behind them
rows-append : (rows more : List FileRow) (number : ℕ) → rows_of_job (rows ++ more) number ≡ rows_of_job rows number ++ rows_of_job more number
rows-append [] more number = refl
rows-append (row ∷ rows) more number = by_head (row.job == number) (rows-append rows more number)
  where
    by_head : (answer : Bool) → rows_of_job (rows ++ more) number ≡ rows_of_job rows number ++ rows_of_job more number
        → cond answer (row ∷ rows_of_job (rows ++ more) number) (rows_of_job (rows ++ more) number)
        ≡ cond answer (row ∷ rows_of_job rows number) (rows_of_job rows number) ++ rows_of_job more number
    by_head true behind = ap (λ rest. row ∷ rest) behind
    by_head false behind = behind

-- rows that are all of one job are its rows
own-rows : (number : ℕ) (more : List FileRow) → AllByRecursion (λ row. row.job ≡ number) more → rows_of_job more number ≡ more
own-rows number [] owned = refl
own-rows number (row ∷ more) owned =
    ap (λ answer. cond answer (row ∷ rows_of_job more number) (rows_of_job more number)) (eq-eqb row.job number owned.0)
    ∙ ap (λ rest. row ∷ rest) (own-rows number more owned.1)

-- and no other's
no-rows : (number other : ℕ) (more : List FileRow) → number ≢ other → AllByRecursion (λ row. row.job ≡ number) more → rows_of_job more other ≡ []
no-rows number other [] apart owned = refl
no-rows number other (row ∷ more) apart owned =
    ap (λ answer. cond answer (row ∷ rows_of_job more other) (rows_of_job more other)) (ne_eqb row.job other (λ same. apart (sym owned.0 ∙ same)))
    ∙ no-rows number other more apart owned.1

-- jobs of lesser numbers stand as before
before_stand : (one other : JobRow → Progress) (number start : ℕ) → ((job : JobRow) → number ≢ job.number → one job ≡ other job) → (jobs : List JobRow)
    → AreNumberedFrom (λ job. job.number) start jobs → start + length jobs ≤ number → map one jobs ≡ map other jobs
before_stand one other number start apart [] numbered less = refl
before_stand one other number start apart (job ∷ jobs) numbered less =
    ap (λ head. head ∷ map one jobs) (apart job (λ same. omega (arith, same, numbered.0, less)))
    ∙ ap (λ rest. other job ∷ rest) (before_stand one other number (suc start) apart jobs numbered.1 (omega (arith, less)))

-- no job has a number behind all
none_behind : (start number : ℕ) (jobs : List JobRow) → AreNumberedFrom (λ job. job.number) start jobs → start + length jobs ≤ number
    → job_at jobs number ≡ None
none_behind start number [] numbered less = refl
none_behind start number (job ∷ jobs) numbered less =
    ap (λ answer. cond answer (Some job) (job_at jobs number)) (ne_eqb job.number number (λ same. omega (arith, same, numbered.0, less)))
    ∙ none_behind (suc start) number jobs numbered.1 (omega (arith, less))

-- the first rows and the owners with a job more
firsts-more : (next : ℕ) (jobs : List JobRow) (job : JobRow) → AreFirstsFrom next jobs → job.first ≡ next + length (owners jobs)
    → AreFirstsFrom next (jobs ++ job ∷ [])
firsts-more next [] job are first = (omega (arith, first), tt)
firsts-more next (head ∷ jobs) job are first = (
  are.0,
  firsts-more (next + head.count) jobs job are.1
      (omega (arith, first, length-append (replicate head.count head.number) (owners jobs), length-replicate head.count head.number)),
)

owners-more : (jobs : List JobRow) (job : JobRow) → owners (jobs ++ job ∷ []) ≡ owners jobs ++ replicate job.count job.number
owners-more [] job = append-nil (replicate job.count job.number)
owners-more (head ∷ jobs) job =
    ap (λ rest. replicate head.count head.number ++ rest) (owners-more jobs job)
    ∙ sym (append_assoc (replicate head.count head.number) (owners jobs) (replicate job.count job.number))

owned-more : (number : ℕ) (more : List FileRow) → AllByRecursion (λ row. row.job ≡ number) more
    → map (λ (row : FileRow). row.job) more ≡ replicate (length more) number
owned-more number [] owned = refl
owned-more number (row ∷ more) owned =
    ap (λ job. job ∷ map (λ (row : FileRow). row.job) more) owned.0 ∙ ap (λ rest. number ∷ rest) (owned-more number more owned.1)

-- with a job more behind the others, and its rows behind theirs
module _ (tables : Tables) (formed : AreWellFormed tables) (job : JobRow) (more : List FileRow) (list : JobList)
    (number : job.number ≡ length tables.jobs + 1) (owned : AllByRecursion (λ row. row.job ≡ job.number) more) (count : job.count ≡ length more)
    (first : job.first ≡ length tables.rows + 1) (states : AreStatesOf tables.jobs tables.rows list) where
  -- the others stand as before
  others_stand : map (progress_of tables.rows) tables.jobs ≡ map (progress_of (tables.rows ++ more)) tables.jobs
  others_stand =
      before_stand (progress_of tables.rows) (progress_of (tables.rows ++ more)) job.number 1
      (λ some apart. sym (stands_by (tables.rows ++ more) (rows_of_job tables.rows some.number) some
      (rows-append tables.rows more some.number
      ∙ (ap (λ rest. rows_of_job tables.rows some.number ++ rest) (no-rows job.number some.number more apart owned)
      ∙ append-nil (rows_of_job tables.rows some.number)))
      ∙ sym (stands_by tables.rows (rows_of_job tables.rows some.number) some refl)))
      tables.jobs formed.jobs (omega (arith, number))

  -- and the new one as its rows say
  new_stands : progress_of (tables.rows ++ more) job ≡ progress_in more job.kind
  new_stands =
      stands_by (tables.rows ++ more) more job
      (rows-append tables.rows more job.number
      ∙ (ap (λ front. front ++ rows_of_job more job.number)
      (none_of_job tables job.number formed (none_behind 1 job.number tables.jobs formed.jobs (omega (arith, number))))
      ∙ own-rows job.number more owned))

  -- the rows follow the jobs
  follow_more : RowsFollow (tables.jobs ++ job ∷ []) (tables.rows ++ more)
  follow_more = record {
    firsts = firsts-more 1 tables.jobs job states.follow.firsts
        (omega (arith, first, ap length states.follow.owners, length-map tables.rows (λ (row : FileRow). row.job)));
    owners = map-append (λ (row : FileRow). row.job) tables.rows more
        ∙ (ap (λ rest. map (λ (row : FileRow). row.job) tables.rows ++ rest) (owned-more job.number more owned)
        ∙ (ap (λ front. front ++ replicate (length more) job.number) states.follow.owners
        ∙ (ap (λ count. owners tables.jobs ++ replicate count job.number) (sym count) ∙ sym (owners-more tables.jobs job))));
  }

  -- all stand as the rows say
  pub states_more : (new : Progress) (after : JobList) → new ≡ progress_in more job.kind
      → after ≡ record list { jobs = list.jobs ++ new ∷ [] } → AreStatesOf (tables.jobs ++ job ∷ []) (tables.rows ++ more) after
  states_more new after is done = record {
    stand = ap (λ (list : JobList). list.jobs) done
        ∙ (ap (λ front. front ++ new ∷ []) (states.stand ∙ others_stand)
        ∙ (ap (λ (last : Progress). map (progress_of (tables.rows ++ more)) tables.jobs ++ last ∷ []) (is ∙ sym new_stands)
        ∙ sym (map-append (progress_of (tables.rows ++ more)) tables.jobs (job ∷ []))));
    follow = follow_more;
  }
