-- In a numbered list an item stands at the place before its number, and the rows of a job stand together.
use Rattle.std.proofs.Common.{◌≡◌, ◌≢◌, ℕ, zero, suc, ◌+◌, ◌-◌, ◌<◌, ◌≤◌, Bool, true, false, cond, List, [], ◌∷◌, ◌++◌, length, map, take, drop, Some, None, refl, ap, sym, ◌∙◌, arith, subst, append-nil, length-drop}
use Rattle.std.specs.Prelude.{◌==◌, ◌&&◌, nat_le, find, replicate, slice_get, option_and_then}
use Rattle.std.proofs.Math.Seq.{drop-nil}
use Rattle.std.proofs.lemmas.Bool.{eqb-true, eqb-false, eq-eqb, ne_eqb, leb-false, leb-true, and_parts}
use Rattle.std.proofs.lemmas.Option.{same_Some}
use Rattle.fts_tables.specs.Tables.{Tables, AreNumberedFrom, AreFirstsFrom, AreWellFormed, owners, job_at, rows_of_job}
use Rattle.fts_tables.specs.declared.rows.FileRow.{FileRow}
use Rattle.fts_tables.specs.declared.rows.JobRow.{JobRow}
use Rattle.fts_tables.specs.declared.limits.TheConstants.{MAX_FILES}
use Rattle.fts_desk.specs.Standing.{place_in, StandTogether}
use Rattle.fts_desk.specs.Bounds.{HaveFiles}

module _ {Item : Type 0} (number_of : Item → ℕ) where
  -- an item of another number is passed
  find-past : (item : Item) (items : List Item) (number : ℕ) → number_of item ≢ number
      → find (λ item. number_of item == number) (item ∷ items) ≡ find (λ item. number_of item == number) items
  find-past item items number apart =
      ap (λ answer. cond answer (Some item) (find (λ item. number_of item == number) items)) (ne_eqb (number_of item) number apart)

  -- a number below the first is found nowhere
  pub find-below : (start : ℕ) (items : List Item) (number : ℕ) → AreNumberedFrom number_of start items → number < start
      → find (λ item. number_of item == number) items ≡ None
  find-below start [] number numbered below = refl
  find-below start (item ∷ items) number numbered below =
      find-past item items number (λ same. omega (arith, numbered.0)) ∙ find-below (suc start) items number numbered.1 (omega arith)

  -- a number is found as far behind the first as it is above it
  pub find-at : (start : ℕ) (items : List Item) (number place : ℕ) → AreNumberedFrom number_of start items → number ≡ start + place
      → find (λ item. number_of item == number) items ≡ slice_get items place
  find-at start [] number zero numbered is = refl
  find-at start [] number (suc place) numbered is = refl
  find-at start (item ∷ items) number zero numbered is =
      ap (λ answer. cond answer (Some item) (find (λ item. number_of item == number) items)) (eq-eqb (number_of item) number (omega (arith, numbered.0)))
  find-at start (item ∷ items) number (suc place) numbered is =
      find-past item items number (λ same. omega (arith, numbered.0)) ∙ find-at (suc start) items number place numbered.1 (omega arith)

  -- what is found by a number has it
  pub found-number : (items : List Item) (number : ℕ) (found : Item) → find (λ item. number_of item == number) items ≡ Some found → number_of found ≡ number
  found-number [] number found is = cc
  found-number (item ∷ items) number found is = by_head (found-number items number found) (number_of item == number) refl is
    where
      by_head : (find (λ item. number_of item == number) items ≡ Some found → number_of found ≡ number) → (answer : Bool) → (number_of item == number) ≡ answer
          → cond answer (Some item) (find (λ item. number_of item == number) items) ≡ Some found → number_of found ≡ number
      by_head behind true same here = ap number_of (sym (same_Some item found here)) ∙ eqb-true (number_of item) number same
      by_head behind false other there = behind there

  -- past the end there is nothing
  slice_get-beyond : (items : List Item) (place : ℕ) → length items ≤ place → slice_get items place ≡ None
  slice_get-beyond [] zero past = refl
  slice_get-beyond [] (suc place) past = refl
  slice_get-beyond (item ∷ items) zero past = absurd (omega arith)
  slice_get-beyond (item ∷ items) (suc place) past = slice_get-beyond items place (omega arith)

  -- what stands at the place of a number is what is found by it
  pub found_at : (items : List Item) (number : ℕ) → AreNumberedFrom number_of 1 items → option_and_then (slice_get items) (place_in number (length items))
      ≡ find (λ item. number_of item == number) items
  found_at items number numbered = by_test (nat_le 1 number) (nat_le number (length items)) refl refl
    where
      by_test : (low high : Bool) → nat_le 1 number ≡ low → nat_le number (length items) ≡ high
          → option_and_then (slice_get items) (cond (low && high) (Some (number - 1)) None) ≡ find (λ item. number_of item == number) items
      by_test false high is inside = sym (find-below 1 items number numbered (omega (arith, leb-false 1 number is)))
      by_test true true is inside = sym (find-at 1 items number (number - 1) numbered (omega (arith, leb-true 1 number is)))
      by_test true false is past =
          let above = leb-true 1 number is in
          sym (find-at 1 items number (number - 1) numbered (omega (arith, above))
          ∙ slice_get-beyond items (number - 1) (omega (arith, above, leb-false number (length items) past)))

  -- a number that is found is one of those that the items have
  pub within_found : (items : List Item) (number : ℕ) (found : Item) → AreNumberedFrom number_of 1 items
      → find (λ item. number_of item == number) items ≡ Some found → (1 ≤ number) × (number ≤ length items)
  within_found items number found numbered is = by_test (nat_le 1 number) (nat_le number (length items)) refl refl
    where
      none : find (λ item. number_of item == number) items ≡ None → ⊥
      none absent = cc

      by_test : (low high : Bool) → nat_le 1 number ≡ low → nat_le number (length items) ≡ high → (1 ≤ number) × (number ≤ length items)
      by_test false high low_is high_is = absurd (none (find-below 1 items number numbered (omega (arith, leb-false 1 number low_is))))
      by_test true true low_is high_is = (leb-true 1 number low_is, leb-true number (length items) high_is)
      by_test true false low_is high_is =
          let above = leb-true 1 number low_is in
          absurd (none (find-at 1 items number (number - 1) numbered (omega (arith, above))
          ∙ slice_get-beyond items (number - 1) (omega (arith, above, leb-false number (length items) high_is))))

-- the first items of equal lists are equal
heads_alike : (one other : ℕ) (ones others : List ℕ) → ◌≡◌ {A = List ℕ} (one ∷ ones) (other ∷ others) → one ≡ other
heads_alike one other ones others same = cc

-- the others of equal lists are equal
tails_alike : (one other : ℕ) (ones others : List ℕ) → ◌≡◌ {A = List ℕ} (one ∷ ones) (other ∷ others) → ones ≡ others
tails_alike one other ones others same = cc

-- the rows that a job owns come first: there are enough of them, and the others follow
front_is : (count number : ℕ) (others : List ℕ) (rows : List FileRow) → map (λ row. row.job) rows ≡ replicate count number ++ others
    → (count ≤ length rows) × (map (λ row. row.job) (drop count rows) ≡ others)
front_is zero number others rows owned = (omega arith, owned)
front_is (suc count) number others [] owned = cc
front_is (suc count) number others (row ∷ rows) owned =
    let behind = front_is count number others rows cc in
    (omega (arith, behind.0), behind.1)

-- of the rows in front that another job owns none is taken
front_passed : (count number wanted : ℕ) (others : List ℕ) (rows : List FileRow) → map (λ row. row.job) rows ≡ replicate count number ++ others
    → number ≢ wanted
    → rows_of_job rows wanted ≡ rows_of_job (drop count rows) wanted
front_passed zero number wanted others rows owned apart = refl
front_passed (suc count) number wanted others [] owned apart = cc
front_passed (suc count) number wanted others (row ∷ rows) owned apart =
    let owner = heads_alike row.job number (map (λ other. other.job) rows) (replicate count number ++ others) owned in
    ap (λ answer. cond answer (row ∷ rows_of_job rows wanted) (rows_of_job rows wanted)) (ne_eqb row.job wanted (λ same. apart (sym owner ∙ same)))
    ∙ front_passed count number wanted others rows (tails_alike row.job number (map (λ other. other.job) rows) (replicate count number ++ others) owned) apart

-- of the rows in front that the job owns each is taken
front_taken : (count number : ℕ) (others : List ℕ) (rows : List FileRow) → map (λ row. row.job) rows ≡ replicate count number ++ others
    → rows_of_job rows number ≡ take count rows ++ rows_of_job (drop count rows) number
front_taken zero number others rows owned = refl
front_taken (suc count) number others [] owned = cc
front_taken (suc count) number others (row ∷ rows) owned =
    ap (λ answer. cond answer (row ∷ rows_of_job rows number) (rows_of_job rows number)) (same_number row.job number cc)
    ∙ ap (λ (taken : List FileRow). row ∷ taken) (front_taken count number others rows cc)
  where
    same_number : (one other : ℕ) → one ≡ other → (one == other) ≡ true
    same_number one other is = grind (arith, is)

-- where all jobs have greater numbers, no row is of this one
none_owned : (start : ℕ) (jobs : List JobRow) (rows : List FileRow) (wanted : ℕ) → AreNumberedFrom (λ job. job.number) start jobs
    → map (λ row. row.job) rows ≡ owners jobs → wanted < start
    → rows_of_job rows wanted ≡ []
none_owned start [] [] wanted numbered owned below = refl
none_owned start [] (row ∷ rows) wanted numbered owned below = cc
none_owned start (job ∷ jobs) rows wanted numbered owned below =
    front_passed job.count job.number wanted (owners jobs) rows owned (λ same. omega (arith, numbered.0))
    ∙ none_owned (suc start) jobs (drop job.count rows) wanted numbered.1 (front_is job.count job.number (owners jobs) rows owned).1 (omega arith)

-- the job that is found by a number has it
pub number_at : (jobs : List JobRow) (number : ℕ) (job : JobRow) → job_at jobs number ≡ Some job → job.number ≡ number
number_at jobs number job is = found-number (λ (other : JobRow). other.number) jobs number job is

-- what is left of a list behind some items and behind others more
drop-drop : {Item : Type 0} (some more : ℕ) (items : List Item) → drop more (drop some items) ≡ drop (some + more) items
drop-drop zero more items =
    let same : more ≡ 0 + more = omega arith in
    ap (λ place. drop place items) same
drop-drop (suc some) more [] = drop-nil more ∙ sym (drop-nil (suc some + more))
drop-drop (suc some) more (item ∷ items) =
    let one_more : suc (some + more) ≡ suc some + more = omega arith in
    drop-drop some more items ∙ ap (λ place. drop place (item ∷ items)) one_more

-- the rows of a job, where the jobs begin with a number and their rows with an id
record StandFrom (next : ℕ) (rows : List FileRow) (job : JobRow) : Type 0 where
  first : next ≤ job.first
  inside : job.first - next + job.count ≤ length rows
  taken : rows_of_job rows job.number ≡ take job.count (drop (job.first - next) rows)

stand_from : (start next : ℕ) (jobs : List JobRow) (rows : List FileRow) (number : ℕ) (job : JobRow) → AreNumberedFrom (λ job. job.number) start jobs
    → AreFirstsFrom next jobs
    → map (λ row. row.job) rows ≡ owners jobs → job_at jobs number ≡ Some job → StandFrom next rows job
stand_from start next [] rows number job numbered firsts owned is = cc
stand_from start next (head ∷ jobs) rows number job numbered firsts owned is =
    by_head (stand_from (suc start) (next + head.count) jobs (drop head.count rows) number job numbered.1 firsts.1
    (front_is head.count head.number (owners jobs) rows owned).1) (head.number == number) refl is
  where
    front : (head.count ≤ length rows) × (map (λ row. row.job) (drop head.count rows) ≡ owners jobs)
    front = front_is head.count head.number (owners jobs) rows owned

    of_head : head ≡ job → StandFrom next rows job
    of_head same = subst (StandFrom next rows) same (record {
      first = omega (arith, firsts.0);
      inside = omega (arith, firsts.0, front.0);
      taken =
          front_taken head.count head.number (owners jobs) rows owned
          ∙ (ap (λ (others : List FileRow). take head.count rows ++ others)
          (none_owned (suc start) jobs (drop head.count rows) head.number numbered.1 front.1 (omega (arith, numbered.0)))
          ∙ (append-nil (take head.count rows) ∙ ap (λ place. take head.count (drop place rows)) zero_is));
    })
      where
        zero_is : 0 ≡ head.first - next
        zero_is = omega (arith, firsts.0)

    of_others : (job_at jobs number ≡ Some job → StandFrom (next + head.count) (drop head.count rows) job) → (head.number == number) ≡ false
        → job_at jobs number ≡ Some job → StandFrom next rows job
    of_others stand other at =
        let behind = stand at in
        let found = number_at jobs number job at in
        let place : head.count + (job.first - (next + head.count)) ≡ job.first - next = omega (arith, behind.first) in
        record {
          first = omega (arith, behind.first);
          inside = omega (arith, behind.inside, behind.first, front.0, length-drop head.count rows);
          taken =
              front_passed head.count head.number job.number (owners jobs) rows owned (λ same. eqb-false head.number number other (same ∙ found))
              ∙ (behind.taken ∙ (ap (take job.count) (drop-drop head.count (job.first - (next + head.count)) rows)
              ∙ ap (λ place. take job.count (drop place rows)) place));
        }

    by_head : (job_at jobs number ≡ Some job → StandFrom (next + head.count) (drop head.count rows) job) → (answer : Bool) → (head.number == number) ≡ answer
        → cond answer (Some head) (job_at jobs number) ≡ Some job → StandFrom next rows job
    by_head stand true same at = of_head (same_Some head job at)
    by_head stand false other at = of_others stand other at

-- in well-formed tables the rows of each job stand together
pub stand_together : (tables : Tables) (number : ℕ) (job : JobRow) → AreWellFormed tables → job_at tables.jobs number ≡ Some job → StandTogether tables.rows job
stand_together tables number job formed is =
    let stand = stand_from 1 1 tables.jobs tables.rows number job formed.jobs formed.follow.firsts formed.follow.owners is in
    record { first = stand.first; inside = stand.inside; taken = stand.taken }

-- where no job has a number, no row is of it
none_from : (start next : ℕ) (jobs : List JobRow) (rows : List FileRow) (number : ℕ) → AreNumberedFrom (λ job. job.number) start jobs
    → map (λ row. row.job) rows ≡ owners jobs → job_at jobs number ≡ None
    → rows_of_job rows number ≡ []
none_from start next [] [] number numbered owned is = refl
none_from start next [] (row ∷ rows) number numbered owned is = cc
none_from start next (head ∷ jobs) rows number numbered owned is =
    by_head (none_from (suc start) (next + head.count) jobs (drop head.count rows) number numbered.1
    (front_is head.count head.number (owners jobs) rows owned).1) (head.number == number) refl is
  where
    by_head : (job_at jobs number ≡ None → rows_of_job (drop head.count rows) number ≡ []) → (answer : Bool) → (head.number == number) ≡ answer
        → cond answer (Some head) (job_at jobs number) ≡ None → rows_of_job rows number ≡ []
    by_head behind true same at = cc
    by_head behind false other at = front_passed head.count head.number number (owners jobs) rows owned (eqb-false head.number number other) ∙ behind at

-- in well-formed tables no row is of a job that isn't there
pub none_of_job : (tables : Tables) (number : ℕ) → AreWellFormed tables → job_at tables.jobs number ≡ None → rows_of_job tables.rows number ≡ []
none_of_job tables number formed is = none_from 1 1 tables.jobs tables.rows number formed.jobs formed.follow.owners is

-- a job that is found has files
pub files_at : (jobs : List JobRow) (number : ℕ) (job : JobRow) → HaveFiles jobs → job_at jobs number ≡ Some job → 1 ≤ job.count
files_at [] number job files is = cc
files_at (head ∷ jobs) number job files is = by_head (files_at jobs number job files.1) (head.number == number) is
  where
    first : 1 ≤ head.count
    first = leb-true 1 head.count (and_parts (nat_le 1 head.count) (nat_le head.count MAX_FILES) files.0).0

    by_head : (job_at jobs number ≡ Some job → 1 ≤ job.count) → (answer : Bool) → cond answer (Some head) (job_at jobs number) ≡ Some job → 1 ≤ job.count
    by_head behind true at = subst (λ (found : JobRow). 1 ≤ found.count) (same_Some head job at) first
    by_head behind false at = behind at
