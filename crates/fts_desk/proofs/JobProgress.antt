-- How jobs stand, where a row changes at its place and keeps its job: that job stands as its rows say then, and all others as before.
use Rattle.std.proofs.Common.{◌≡◌, ◌≢◌, ℕ, zero, suc, ◌+◌, ◌<◌, Bool, true, false, cond, List, [], ◌∷◌, length, map, get_or, set, Some, None, refl, ap, sym, ◌∙◌, subst, arith, inl, inr}
use Rattle.std.specs.Prelude.{not, ◌&&◌, ◌||◌, ◌==◌, count_by, slice_get}
use Rattle.std.specs.List.{list_any}
use Rattle.std.proofs.lemmas.Bool.{eq-eqb, ne_eqb}
use Rattle.std.proofs.lemmas.Option.{same_Some, slice_get_cases, slice_get-get_or}
use Rattle.std.proofs.lemmas.List.Sums.{sum_by-cons}
use Rattle.fts_tables.specs.Tables.{AreNumberedFrom, RowsFollow, is_live, is_canceled, job_at, rows_of_job}
use Rattle.fts_tables.specs.Moves.{settled_state, state_of_job}
use Rattle.fts_tables.specs.declared.rows.FileRow.{FileRow}
use Rattle.fts_tables.specs.declared.rows.FileState.{FileState}
use Rattle.fts_tables.specs.declared.rows.JobRow.{JobRow}
use Rattle.fts_tables.specs.declared.rows.JobKind.{JobKind}
use Rattle.fts_tables.specs.declared.rows.JobState.TheVariants.{Submitted, Active, Canceled}
use Rattle.fts_desk.specs.Counted.{has_begun, is_of, progress_of, AreStatesOf, AreStatesBefore}
use Rattle.fts_desk.specs.JobLists.{JobList}
use Rattle.fts_desk.proofs.Numbered.{number_at}
use Rattle.fts_desk.specs.declared.counts.Tally.{Tally}
use Rattle.fts_desk.specs.declared.job_states.Progress.{Progress}

-- the first item and the others
pub count_by-cons : {Item : Type 0} (test : Item → Bool) (item : Item) (items : List Item)
    → count_by test (item ∷ items) ≡ cond (test item) 1 0 + count_by test items
count_by-cons test item items = sum_by-cons (λ other. cond (test other) 1 0) item items

-- an item that changes counts for itself, in place of what stood there
pub count_by-set : {Item : Type 0} (test : Item → Bool) (items : List Item) (place : ℕ) (before after : Item) → slice_get items place ≡ Some before
    → count_by test (set items place after) + cond (test before) 1 0 ≡ count_by test items + cond (test after) 1 0
count_by-set test [] place before after at = cc
count_by-set test (item ∷ items) zero before after at =
    let same : ◌≡◌ {A = ℕ} (cond (test item) 1 0) (cond (test before) 1 0) = ap (λ some. cond (test some) 1 0) (same_Some item before at) in
    omega (arith, count_by-cons test item items, count_by-cons test after items, same)
count_by-set test (item ∷ items) (suc place) before after at =
    omega (arith, count_by-cons test item items, count_by-cons test item (set items place after), count_by-set test items place before after at)

-- the jobs of the rows stay
owners-set : (rows : List FileRow) (place : ℕ) (row after : FileRow) → slice_get rows place ≡ Some row → after.job ≡ row.job
    → map (λ (row : FileRow). row.job) (set rows place after) ≡ map (λ (row : FileRow). row.job) rows
owners-set [] place row after at same = cc
owners-set (first ∷ rows) zero row after at same =
    ap (λ job. job ∷ map (λ (row : FileRow). row.job) rows) (same ∙ ap (λ (row : FileRow). row.job) (sym (same_Some first row at)))
owners-set (first ∷ rows) (suc place) row after at same = ap (λ jobs. first.job ∷ jobs) (owners-set rows place row after at same)

-- the rows of another job stay
others-set : (rows : List FileRow) (place number : ℕ) (row after : FileRow) → slice_get rows place ≡ Some row → after.job ≡ row.job
    → (row.job == number) ≡ false → rows_of_job (set rows place after) number ≡ rows_of_job rows number
others-set [] place number row after at same apart = cc
others-set (first ∷ rows) zero number row after at same apart =
    ap (λ job. cond (job == number) (after ∷ rows_of_job rows number) (rows_of_job rows number)) same
    ∙ (ap (λ answer. cond answer (after ∷ rows_of_job rows number) (rows_of_job rows number)) apart
    ∙ sym (ap (λ job. cond (job == number) (first ∷ rows_of_job rows number) (rows_of_job rows number)) (ap (λ (row : FileRow). row.job) (same_Some first row at))
    ∙ ap (λ answer. cond answer (first ∷ rows_of_job rows number) (rows_of_job rows number)) apart))
others-set (first ∷ rows) (suc place) number row after at same apart =
    ap (λ rest. cond (first.job == number) (first ∷ rest) rest) (others-set rows place number row after at same apart)

-- how a job stands is its state, its live rows and those that have begun
pub as_they_are : (one other : Progress) → one.state ≡ other.state → one.live ≡ other.live → one.begun ≡ other.begun → one ≡ other
as_they_are one other state live begun =
    ap (λ some. record one { state = some }) state
    ∙ (ap (λ some. record other { live = some; begun = one.begun }) live ∙ ap (λ some. record other { begun = some }) begun)

-- a job of another number stands as before
other_stands : (rows : List FileRow) (place : ℕ) (row after : FileRow) (job : JobRow) → slice_get rows place ≡ Some row → after.job ≡ row.job
    → (row.job == job.number) ≡ false → progress_of (set rows place after) job ≡ progress_of rows job
other_stands rows place row after job at same apart =
    as_they_are (progress_of (set rows place after) job) (progress_of rows job)
    (ap (state_of_job job.kind) (others-set rows place job.number row after at same apart)) (as_many is_live) (as_many has_begun)
  where
    not_counted : (are : FileState → Bool) (some : FileRow) → (some.job == job.number) ≡ false → ◌≡◌ {A = ℕ} (cond (is_of job.number are some) 1 0) 0
    not_counted are some is = ap (λ answer. cond (answer && are some.state) 1 0) is

    as_many : (are : FileState → Bool) → count_by (is_of job.number are) (set rows place after) ≡ count_by (is_of job.number are) rows
    as_many are = omega (
      arith,
      count_by-set (is_of job.number are) rows place row after at,
      not_counted are row apart,
      not_counted are after (ap (λ some. some == job.number) same ∙ apart),
    )

-- where all jobs of other numbers stand as before
module _ (number : ℕ) (one other : JobRow → Progress) (apart : (job : JobRow) → (number == job.number) ≡ false → one job ≡ other job) where
  -- jobs of greater numbers do
  behind_stand : (start : ℕ) (jobs : List JobRow) → AreNumberedFrom (λ job. job.number) start jobs → number < start → map one jobs ≡ map other jobs
  behind_stand start [] numbered less = refl
  behind_stand start (job ∷ jobs) numbered less =
      ap (λ head. head ∷ map one jobs) (apart job (ne_eqb number job.number (λ same. omega (arith, same, numbered.0, less))))
      ∙ ap (λ rest. other job ∷ rest) (behind_stand (suc start) jobs numbered.1 (omega (arith, less)))

  -- all do where no job has the number
  pub none_stands : (jobs : List JobRow) → job_at jobs number ≡ None → map one jobs ≡ map other jobs
  none_stands [] none = refl
  none_stands (job ∷ jobs) none = by_head (none_stands jobs) (job.number == number) refl none
    where
      flipped : (job.number == number) ≡ false → (number == job.number) ≡ false
      flipped is = ne_eqb number job.number (λ same. clash (sym (eq-eqb job.number number (sym same)) ∙ is))
        where
          clash : true ≡ false → ⊥
          clash same = cc

      by_head : (job_at jobs number ≡ None → map one jobs ≡ map other jobs) → (answer : Bool) → (job.number == number) ≡ answer
          → cond answer (Some job) (job_at jobs number) ≡ None → one job ∷ map one jobs ≡ other job ∷ map other jobs
      by_head behind true same at = cc
      by_head behind false is at =
          ap (λ head. head ∷ map one jobs) (apart job (flipped is)) ∙ ap (λ rest. other job ∷ rest) (behind at)

  -- and the job of the number stands as it does then
  pub one_stands : (start : ℕ) (jobs : List JobRow) (at : ℕ) (job : JobRow) → AreNumberedFrom (λ job. job.number) start jobs → number ≡ start + at
      → slice_get jobs at ≡ Some job → set (map one jobs) at (other job) ≡ map other jobs
  one_stands start [] at job numbered is there = cc
  one_stands start (head ∷ jobs) zero job numbered is there =
      ap (λ some. other some ∷ map one jobs) (sym (same_Some head job there))
      ∙ ap (λ rest. other head ∷ rest) (behind_stand (suc start) jobs numbered.1 (omega (arith, is)))
  one_stands start (head ∷ jobs) (suc at) job numbered is there =
      ap (λ some. some ∷ set (map one jobs) at (other job)) (apart head (ne_eqb number head.number (λ same. omega (arith, same, numbered.0, is))))
      ∙ ap (λ rest. other head ∷ rest) (one_stands (suc start) jobs at job numbered.1 (omega (arith, is)) there)

-- what stands at a place of a mapped list
pub mapped_at : {One Other : Type 0} (change : One → Other) (items : List One) (place : ℕ) (item : One) → slice_get items place ≡ Some item
    → slice_get (map change items) place ≡ Some (change item)
mapped_at change [] place item at = cc
mapped_at change (first ∷ items) zero item at = ap (λ some. Some (change some)) (same_Some first item at)
mapped_at change (first ∷ items) (suc place) item at = mapped_at change items place item at

-- where rows of a job are counted, some of its rows are
any_counted : (are : FileState → Bool) (rows : List FileRow) (number : ℕ) → count_by (is_of number are) rows ≢ 0
    → list_any (λ (row : FileRow). are row.state) (rows_of_job rows number) ≡ true
any_counted are [] number some = absurd (some refl)
any_counted are (row ∷ rows) number some =
    by_head (row.job == number) (any_counted are rows number) (λ none. some (count_by-cons (is_of number are) row rows ∙ none))
  where
    by_state : (answer : Bool) → (count_by (is_of number are) rows ≢ 0 → list_any (λ (row : FileRow). are row.state) (rows_of_job rows number) ≡ true)
        → (cond answer 1 0 + count_by (is_of number are) rows ≢ 0)
        → (answer || list_any (λ (row : FileRow). are row.state) (rows_of_job rows number)) ≡ true
    by_state true behind some = refl
    by_state false behind some = behind (λ none. some (omega (arith, none)))

    by_head : (own : Bool) → (count_by (is_of number are) rows ≢ 0 → list_any (λ (row : FileRow). are row.state) (rows_of_job rows number) ≡ true)
        → (cond (own && are row.state) 1 0 + count_by (is_of number are) rows ≢ 0)
        → list_any (λ (row : FileRow). are row.state) (cond own (row ∷ rows_of_job rows number) (rows_of_job rows number)) ≡ true
    by_head true behind some = by_state (are row.state) behind some
    by_head false behind some = behind (λ none. some (omega (arith, none)))

-- and where none are counted, none is
none_counted : (are : FileState → Bool) (rows : List FileRow) (number : ℕ) → count_by (is_of number are) rows ≡ 0
    → list_any (λ (row : FileRow). are row.state) (rows_of_job rows number) ≡ false
none_counted are [] number none = refl
none_counted are (row ∷ rows) number none =
    by_head (row.job == number) (none_counted are rows number) (sym (count_by-cons (is_of number are) row rows) ∙ none)
  where
    by_state : (answer : Bool) → (count_by (is_of number are) rows ≡ 0 → list_any (λ (row : FileRow). are row.state) (rows_of_job rows number) ≡ false)
        → cond answer 1 0 + count_by (is_of number are) rows ≡ 0
        → (answer || list_any (λ (row : FileRow). are row.state) (rows_of_job rows number)) ≡ false
    by_state true behind none = absurd (omega (arith, none))
    by_state false behind none = behind (omega (arith, none))

    by_head : (own : Bool) → (count_by (is_of number are) rows ≡ 0 → list_any (λ (row : FileRow). are row.state) (rows_of_job rows number) ≡ false)
        → cond (own && are row.state) 1 0 + count_by (is_of number are) rows ≡ 0
        → list_any (λ (row : FileRow). are row.state) (cond own (row ∷ rows_of_job rows number) (rows_of_job rows number)) ≡ false
    by_head true behind none = by_state (are row.state) behind none
    by_head false behind none = behind (omega (arith, none))

-- a job of which some row is live is ACTIVE where one has begun, and SUBMITTED where none has
state_by : (kind : JobKind) (of_job : List FileRow) (begun : Bool) → list_any (λ (row : FileRow). is_live row.state) of_job ≡ true
    → list_any (λ (row : FileRow). has_begun row.state) of_job ≡ begun → state_of_job kind of_job ≡ cond begun Active Submitted
state_by kind of_job begun live is =
    ap (λ any. cond (not any) (cond (list_any (λ (row : FileRow). is_canceled row.state) of_job) Canceled (settled_state kind of_job))
    (cond (list_any (λ (row : FileRow). has_begun row.state) of_job) Active Submitted)) live
    ∙ ap (λ any. cond any Active Submitted) is

pub some_begun : (kind : JobKind) (rows : List FileRow) (number : ℕ) → count_by (is_of number is_live) rows ≢ 0 → count_by (is_of number has_begun) rows ≢ 0
    → Active ≡ state_of_job kind (rows_of_job rows number)
some_begun kind rows number live begun =
    sym (state_by kind (rows_of_job rows number) true (any_counted is_live rows number live) (any_counted has_begun rows number begun))

pub none_begun : (kind : JobKind) (rows : List FileRow) (number : ℕ) → count_by (is_of number is_live) rows ≢ 0 → count_by (is_of number has_begun) rows ≡ 0
    → Submitted ≡ state_of_job kind (rows_of_job rows number)
none_begun kind rows number live none =
    sym (state_by kind (rows_of_job rows number) false (any_counted is_live rows number live) (none_counted has_begun rows number none))

-- a row that stands among its job's rows
pub own_rows : (rows : List FileRow) (place number : ℕ) (row : FileRow) → slice_get rows place ≡ Some row → row.job ≡ number
    → 0 < length (rows_of_job rows number)
own_rows [] place number row at own = cc
own_rows (first ∷ rows) zero number row at own =
    let here : (first.job == number) ≡ true = eq-eqb first.job number (ap (λ (row : FileRow). row.job) (same_Some first row at) ∙ own) in
    subst (λ answer. 0 < length (cond answer (first ∷ rows_of_job rows number) (rows_of_job rows number))) (sym here) (omega arith)
own_rows (first ∷ rows) (suc place) number row at own = by_head (first.job == number) (own_rows rows place number row at own)
  where
    by_head : (answer : Bool) → 0 < length (rows_of_job rows number)
        → 0 < length (cond answer (first ∷ rows_of_job rows number) (rows_of_job rows number))
    by_head true behind = omega arith
    by_head false behind = behind

-- so a job has rows where one stands at a place
pub job_has_rows : (rows : List FileRow) (place number : ℕ) → place < length rows
    → ((row : FileRow) → slice_get rows place ≡ Some row → row.job ≡ number) → 0 < length (rows_of_job rows number)
job_has_rows rows place number inside own = elim (slice_get_cases rows place).1 [
  | inl found ↦ own_rows rows place number found.0 found.2 (own found.0 found.2)
  | inr past ↦ absurd (omega (arith, past.0, inside))
]

-- jobs that stood as their rows said before one of them changed
module _ {jobs : List JobRow} {rows : List FileRow} {place : ℕ} {was : Tally} {list : JobList} (numbered : AreNumberedFrom (λ job. job.number) 1 jobs)
    (earlier : AreStatesBefore jobs rows place was list) {row : FileRow} (at_row : slice_get rows place ≡ Some row) where
  -- the rows follow the jobs as before
  pub follow_now : RowsFollow jobs rows
  follow_now = record {
    firsts = earlier.of_rows.follow.firsts;
    owners = sym (owners-set rows place row earlier.before at_row (earlier.job row at_row)) ∙ earlier.of_rows.follow.owners;
  }

  -- how many rows of the job are in a state of some, with the one that changed
  counted_now : (are : FileState → Bool) (number : ℕ) → row.job ≡ number
      → count_by (is_of number are) (set rows place earlier.before) + cond (are row.state) 1 0
      ≡ count_by (is_of number are) rows + cond (are earlier.before.state) 1 0
  counted_now are number own =
      let was = counts earlier.before (earlier.job row at_row ∙ own) in
      omega (arith, count_by-set (is_of number are) rows place row earlier.before at_row, counts row own, was)
    where
      counts : (some : FileRow) → some.job ≡ number → ◌≡◌ {A = ℕ} (cond (is_of number are some) 1 0) (cond (are some.state) 1 0)
      counts some is = ap (λ answer. cond (answer && are some.state) 1 0) (eq-eqb some.job number is)

  -- what is kept of the job at a place
  kept_at : (at : ℕ) (job : JobRow) (kept : Progress) → slice_get jobs at ≡ Some job → slice_get list.jobs at ≡ Some kept
      → kept ≡ progress_of (set rows place earlier.before) job
  kept_at at job kept there is =
      same_Some kept (progress_of (set rows place earlier.before) job)
      (sym is ∙ (ap (λ (all : List Progress). slice_get all at) earlier.of_rows.stand
      ∙ mapped_at (progress_of (set rows place earlier.before)) jobs at job there))

  -- the job stands as it does now
  pub restated : (at : ℕ) (job : JobRow) (after : JobList) → row.job ≡ at + 1 → slice_get jobs at ≡ Some job
      → after ≡ record list { jobs = set list.jobs at (progress_of rows job) } → AreStatesOf jobs rows after
  restated at job after own there is = record {
    stand = ap (λ (list : JobList). list.jobs) is
        ∙ (ap (λ (all : List Progress). set all at (progress_of rows job)) earlier.of_rows.stand
        ∙ one_stands row.job (progress_of (set rows place earlier.before)) (progress_of rows)
        (λ job apart. other_stands rows place row earlier.before job at_row (earlier.job row at_row) apart) 1 jobs at job numbered (omega (arith, own)) there);
    follow = follow_now;
  }

  -- the job, read at its place
  module _ (at : ℕ) (default : JobRow) (inside : at < length jobs) (is : slice_get jobs at ≡ job_at jobs row.job) where
    abbrev job_read : JobRow
    job_read = get_or jobs at default

    there_read : slice_get jobs at ≡ Some job_read
    there_read = slice_get-get_or jobs at default inside

    pub found_read : job_at jobs row.job ≡ Some job_read
    found_read = sym is ∙ there_read

    pub own_read : row.job ≡ job_read.number
    own_read = sym (number_at jobs row.job job_read found_read)

    -- what was counted of its rows, beside what is
    counted_read : (are : FileState → Bool) (count : ℕ) (did : Bool) → count ≡ count_by (is_of job_read.number are) (set rows place earlier.before)
        → did ≡ are earlier.before.state → (some : FileRow) → slice_get rows place ≡ Some some
        → count + cond (are some.state) 1 0 ≡ count_by (is_of job_read.number are) rows + cond did 1 0
    counted_read are count did kept before some at_some =
        let same_row : some ≡ row = same_Some some row (sym at_some ∙ at_row) in
        let now : ◌≡◌ {A = ℕ} (cond (are some.state) 1 0) (cond (are row.state) 1 0) =
        ap (λ (row : FileRow). cond (are row.state) 1 0) same_row in
        let was : ◌≡◌ {A = ℕ} (cond did 1 0) (cond (are earlier.before.state) 1 0) = ap (λ answer. cond answer 1 0) before in
        omega (arith, now, was, kept, counted_now are job_read.number own_read)

    pub live_read : (kept : Progress) → slice_get list.jobs at ≡ Some kept → (some : FileRow) → slice_get rows place ≡ Some some
        → kept.live + cond (is_live some.state) 1 0 ≡ count_by (is_of job_read.number is_live) rows + cond was.live 1 0
    live_read kept read =
        counted_read is_live kept.live was.live (ap (λ (progress : Progress). progress.live) (kept_at at job_read kept there_read read)) earlier.counted.live

    pub begun_read : (kept : Progress) → slice_get list.jobs at ≡ Some kept → (some : FileRow) → slice_get rows place ≡ Some some
        → kept.begun + cond (has_begun some.state) 1 0 ≡ count_by (is_of job_read.number has_begun) rows + cond was.begun 1 0
    begun_read kept read =
        counted_read has_begun kept.begun was.begun (ap (λ (progress : Progress). progress.begun) (kept_at at job_read kept there_read read))
        earlier.counted.begun

    pub restated_read : (after : JobList) → row.job ≡ at + 1 → (new : Progress) → new ≡ progress_of rows job_read
        → after ≡ record list { jobs = set list.jobs at new } → AreStatesOf jobs rows after
    restated_read after own new now done =
        restated at job_read after own there_read (done ∙ ap (λ (new : Progress). record list { jobs = set list.jobs at new }) now)

  -- where the row has no job, each stands as before
  pub restated_none : job_at jobs row.job ≡ None → AreStatesOf jobs rows list
  restated_none none = record {
    stand = earlier.of_rows.stand ∙ none_stands row.job (progress_of (set rows place earlier.before)) (progress_of rows)
        (λ job apart. other_stands rows place row earlier.before job at_row (earlier.job row at_row) apart) jobs none;
    follow = follow_now;
  }
