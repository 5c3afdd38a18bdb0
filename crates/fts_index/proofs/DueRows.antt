-- The moments of rows against the rows: where a row changes, where rows and jobs come in, and what stands in the list.
use Rattle.std.proofs.Common.{◌≡◌, ℕ, zero, suc, ◌+◌, ◌<◌, ◌≤◌, Bool, true, false, cond, List, [], ◌∷◌, ◌++◌, length, map, set, Option, Some, None, refl, ap, sym, ◌∙◌, subst, arith}
use Rattle.std.specs.Prelude.{not, ◌&&◌, ◌||◌, ◌==◌, nat_le, count_by, slice_get, is_some, IfSome, IsTrue}
use Rattle.std.specs.List.{AllByRecursion, list_any}
use Rattle.std.specs.Option.{option_map_or}
use Rattle.std.proofs.lemmas.Bool.{and_parts, eq-eqb, leb-true}
use Rattle.std.proofs.lemmas.List.Sums.{sum_by-le-sum_by}
use Rattle.std.specs.Option.{option_or}
use Rattle.std.proofs.lemmas.List.Folds.{find-append}
use Rattle.std.proofs.lemmas.Option.{same_Some}
use Rattle.fts_tables.specs.Tables.{AreNumberedFrom, is_submitted, job_at}
use Rattle.fts_tables.specs.Waits.{overdue_from, row_overdue_from}
use Rattle.fts_tables.specs.Dues.{Due, is_due_before, is_due_like}
use Rattle.fts_tables.specs.declared.rows.FileRow.{FileRow}
use Rattle.fts_tables.specs.declared.rows.JobRow.{JobRow}
use Rattle.ordered.specs.Orders.{differs, has_key}
use Rattle.ordered.proofs.Members.{one_of, itself}
use Rattle.fts_index.specs.DueOrder.{dues_are_ordered}
use Rattle.fts_index.specs.DueLists.{DueList, due_at, passes_at, counted, MayChange, HasChanged}
use Rattle.fts_index.specs.RowDues.{due_from, is_limited, comes_in, AreDuesOf, MayAdd, HasAdded, HasDueRow}
use Rattle.fts_index.proofs.TableLists.{count_by-cons, count_by-append}
use Rattle.fts_index.proofs.CountedDues.{count_all}
use Rattle.fts_index.proofs.RowsComing.{is_of, comes_with, none_past, one_alone}

-- a row counts by its moment, where it waits and has one
like_due : (test : Due → Bool) (jobs : List JobRow) (row : FileRow) → is_due_like test jobs row ≡ passes_at test row.id (due_from jobs row)
like_due test jobs row = by_state (is_submitted row.state)
  where
    by_state : (answer : Bool) → (answer && passes_at test row.id (row_overdue_from jobs row))
        ≡ passes_at test row.id (cond answer (row_overdue_from jobs row) None)
    by_state true = refl
    by_state false = refl

-- and so does a row of another number
like_at : (test : Due → Bool) (jobs : List JobRow) (row : FileRow) (file : ℕ) → row.id ≡ file
    → is_due_like test jobs row ≡ passes_at test file (due_from jobs row)
like_at test jobs row file same = like_due test jobs row ∙ ap (λ number. passes_at test number (due_from jobs row)) same

-- a row that changes counts as it does then, in place of how it did before
count_set : (passes : FileRow → Bool) (rows : List FileRow) (place : ℕ) (before after : FileRow) → slice_get rows place ≡ Some before
    → count_by passes (set rows place after) + cond (passes before) 1 0 ≡ count_by passes rows + cond (passes after) 1 0
count_set passes [] place before after at = cc
count_set passes (row ∷ rows) zero before after at =
    let same : ◌≡◌ {A = ℕ} (cond (passes row) 1 0) (cond (passes before) 1 0) =
    ap (λ (some : FileRow). cond (passes some) 1 0) (same_Some row before at) in
    omega (arith, count_by-cons passes row rows, count_by-cons passes after rows, same)
count_set passes (row ∷ rows) (suc place) before after at =
    omega (arith, count_by-cons passes row rows, count_by-cons passes row (set rows place after), count_set passes rows place before after at)

-- a row that a test passes is counted
count_some : (passes : FileRow → Bool) (rows : List FileRow) (place : ℕ) (row : FileRow) → slice_get rows place ≡ Some row → passes row ≡ true
    → 0 < count_by passes rows
count_some passes [] place row at is = cc
count_some passes (first ∷ rows) zero row at is =
    let one : ◌≡◌ {A = ℕ} (cond (passes first) 1 0) 1 = ap (λ answer. cond answer 1 0) (ap passes (same_Some first row at) ∙ is) in
    omega (arith, count_by-cons passes first rows, one)
count_some passes (first ∷ rows) (suc place) row at is =
    omega (arith, count_by-cons passes first rows, count_some passes rows place row at is)

-- of tests of which each row that passes the one passes the other, the one counts at most as many
less_at : (fewer more : FileRow → Bool) (row : FileRow) → ((some : FileRow) → fewer some ≡ true → more some ≡ true)
    → cond (fewer row) 1 0 ≤ cond (more row) 1 0
less_at fewer more row whoever = by_answer (fewer row) refl
  where
    by_answer : (answer : Bool) → fewer row ≡ answer → cond answer 1 0 ≤ cond (more row) 1 0
    by_answer false is = omega arith
    by_answer true is =
        let one : ◌≡◌ {A = ℕ} (cond (more row) 1 0) 1 = ap (λ answer. cond answer 1 0) (whoever row is) in
        omega (arith, one)

-- and where a row passes the other, fewer, or the one counts it too
count_fewer : (fewer more : FileRow → Bool) (rows : List FileRow) (place : ℕ) (row : FileRow) → ((some : FileRow) → fewer some ≡ true → more some ≡ true)
    → slice_get rows place ≡ Some row → more row ≡ true → count_by fewer rows + 1 ≤ count_by more rows + cond (fewer row) 1 0
count_fewer fewer more [] place row whoever at is = cc
count_fewer fewer more (first ∷ rows) zero row whoever at is =
    let same = same_Some first row at in
    let one : ◌≡◌ {A = ℕ} (cond (more first) 1 0) 1 = ap (λ answer. cond answer 1 0) (ap more same ∙ is) in
    let other : ◌≡◌ {A = ℕ} (cond (fewer first) 1 0) (cond (fewer row) 1 0) = ap (λ (some : FileRow). cond (fewer some) 1 0) same in
    let less = sum_by-le-sum_by (λ (some : FileRow). cond (fewer some) 1 0) (λ (some : FileRow). cond (more some) 1 0) rows
    (λ some. less_at fewer more some whoever) in
    omega (arith, count_by-cons fewer first rows, count_by-cons more first rows, one, other, less)
count_fewer fewer more (first ∷ rows) (suc place) row whoever at is =
    omega (
      arith,
      count_by-cons fewer first rows,
      count_by-cons more first rows,
      less_at fewer more first whoever,
      count_fewer fewer more rows place row whoever at is,
    )

-- tests that agree on each row count alike
count_same : (one other : FileRow → Bool) (rows : List FileRow) → AllByRecursion (λ row. one row ≡ other row) rows → count_by one rows ≡ count_by other rows
count_same one other [] same = refl
count_same one other (row ∷ rows) same =
    let here : ◌≡◌ {A = ℕ} (cond (one row) 1 0) (cond (other row) 1 0) = ap (λ answer. cond answer 1 0) same.0 in
    omega (arith, count_by-cons one row rows, count_by-cons other row rows, here, count_same one other rows same.1)

-- a row that a test counts, with its place
record IsCounted (passes : FileRow → Bool) (rows : List FileRow) : Type 0 where
  place : ℕ
  row : FileRow
  there : slice_get rows place ≡ Some row
  is : passes row ≡ true

-- there is one, where any is counted
some_counted : (passes : FileRow → Bool) (rows : List FileRow) → 0 < count_by passes rows → IsCounted passes rows
some_counted passes [] some = absurd (omega (arith, some))
some_counted passes (row ∷ rows) some = by_answer (some_counted passes rows) (count_by-cons passes row rows) (passes row) refl
  where
    by_answer : (0 < count_by passes rows → IsCounted passes rows) → count_by passes (row ∷ rows) ≡ cond (passes row) 1 0 + count_by passes rows
        → (answer : Bool) → passes row ≡ answer → IsCounted passes (row ∷ rows)
    by_answer behind split true is = record { place = 0; row = row; there = refl; is = is }
    by_answer behind split false is =
        let none : ◌≡◌ {A = ℕ} (cond (passes row) 1 0) 0 = ap (λ answer. cond answer 1 0) is in
        let later = behind (omega (arith, some, split, none)) in
        record { place = suc later.place; row = later.row; there = later.there; is = later.is }

-- some item passes exactly where one is counted
any_counted : {Item : Type 0} (test : Item → Bool) (items : List Item) → 0 < count_by test items → list_any test items ≡ true
any_counted test [] some = absurd (omega (arith, some))
any_counted test (item ∷ items) some = by_answer (any_counted test items) (count_by-cons test item items) (test item) refl
  where
    by_answer : (0 < count_by test items → list_any test items ≡ true) → count_by test (item ∷ items) ≡ cond (test item) 1 0 + count_by test items
        → (answer : Bool) → test item ≡ answer → (answer || list_any test items) ≡ true
    by_answer behind split true is = refl
    by_answer behind split false is =
        let none : ◌≡◌ {A = ℕ} (cond (test item) 1 0) 0 = ap (λ answer. cond answer 1 0) is in
        behind (omega (arith, some, split, none))

counted_any : {Item : Type 0} (test : Item → Bool) (items : List Item) → list_any test items ≡ true → 0 < count_by test items
counted_any test [] any = cc
counted_any test (item ∷ items) any = by_answer (counted_any test items) (count_by-cons test item items) (test item) refl any
  where
    by_answer : (list_any test items ≡ true → 0 < count_by test items) → count_by test (item ∷ items) ≡ cond (test item) 1 0 + count_by test items
        → (answer : Bool) → test item ≡ answer → (answer || list_any test items) ≡ true → 0 < count_by test (item ∷ items)
    by_answer behind split true is any =
        let one : ◌≡◌ {A = ℕ} (cond (test item) 1 0) 1 = ap (λ answer. cond answer 1 0) is in
        omega (arith, split, one)
    by_answer behind split false is any = omega (arith, split, behind any)

-- a file's own moment is one, and all are
passes_own : (file : ℕ) (moment : Option ℕ) → passes_at (is_of file) file moment ≡ is_some moment
passes_own file None = refl
passes_own file (Some from) = eq-eqb file file refl

passes_all : (file : ℕ) (moment : Option ℕ) → passes_at (λ due. true) file moment ≡ is_some moment
passes_all file None = refl
passes_all file (Some from) = refl

-- a row that waits with a moment is limited
limited_like : (jobs : List JobRow) (row : FileRow) → is_due_like (λ due. true) jobs row ≡ true → is_limited jobs row ≡ true
limited_like jobs row is =
    sym (passes_all row.id (row_overdue_from jobs row))
    ∙ (and_parts (is_submitted row.state) (passes_at (λ due. true) row.id (row_overdue_from jobs row)) is).1

limited_due : (jobs : List JobRow) (row : FileRow) (moment : ℕ) → due_from jobs row ≡ Some moment → is_limited jobs row ≡ true
limited_due jobs row moment = by_state (is_submitted row.state)
  where
    by_state : (answer : Bool) → cond answer (row_overdue_from jobs row) None ≡ Some moment → is_limited jobs row ≡ true
    by_state true is = ap is_some is
    by_state false is = cc

-- a row at a place changes, and keeps its number and its job
module _ (jobs : List JobRow) (rows : List FileRow) (place : ℕ) (before after : FileRow) (file : ℕ) (at : slice_get rows place ≡ Some before)
    (own : before.id ≡ file) (kept : after.id ≡ file) (of_job : after.job ≡ before.job) where
  -- its time is limited as before
  limited_same : is_limited jobs after ≡ is_limited jobs before
  limited_same = ap (λ number. is_some (option_map_or overdue_from (job_at jobs number) None)) of_job

  -- its file's moment may change
  pub changed_may : (list : DueList) → AreNumberedFrom (λ (row : FileRow). row.id) 1 rows → AreDuesOf jobs rows list
      → MayChange file (due_from jobs before) (due_from jobs after) list
  changed_may list numbered of = record {
    there = stands (due_from jobs before) refl;
    once = of.index.counts (is_of file)
        ∙ (one_alone (is_due_like (is_of file) jobs) 1 rows place before numbered
        (λ other is. comes_with file (row_overdue_from jobs other) other is ∙ sym own) at
        ∙ ap (λ answer. cond answer 1 0) (like_at (is_of file) jobs before file own ∙ passes_own file (due_from jobs before)));
    fewer = leaves (due_from jobs after) refl;
  }
    where
      stands : (moment : Option ℕ) → due_from jobs before ≡ moment → IfSome moment (λ from. IsTrue (has_key is_due_before (due_at file from) list.dues))
      stands None is = tt
      stands (Some from) is =
          let test : Due → Bool = λ other. not (differs is_due_before other (due_at file from)) in
          let passes : is_due_like test jobs before ≡ true =
          like_at test jobs before file own ∙ (ap (passes_at test file) is ∙ itself is_due_before dues_are_ordered (due_at file from)) in
          any_counted test list.dues
          (subst (λ count. 0 < count) (sym (of.index.counts test)) (count_some (is_due_like test jobs) rows place before at passes))

      leaves : (moment : Option ℕ) → due_from jobs after ≡ moment
          → IfSome moment (λ from. length list.dues < list.files + cond (is_some (due_from jobs before)) 1 0)
      leaves None is = tt
      leaves (Some from) is =
          let limited : is_limited jobs before ≡ true = sym limited_same ∙ limited_due jobs after from is in
          let one : ◌≡◌ {A = ℕ} (cond (is_due_like (λ due. true) jobs before) 1 0) (cond (is_some (due_from jobs before)) 1 0) =
          ap (λ answer. cond answer 1 0) (like_due (λ due. true) jobs before ∙ passes_all before.id (due_from jobs before)) in
          omega (
            arith,
            count_all list.dues,
            of.index.counts (λ due. true),
            count_fewer (is_due_like (λ due. true) jobs) (is_limited jobs) rows place before (limited_like jobs) at limited,
            one,
            of.files,
          )

  -- and where it has, the list is that of the rows
  pub changed_done : (old new : DueList) → AreDuesOf jobs rows old → HasChanged file (due_from jobs before) (due_from jobs after) old new
      → AreDuesOf jobs (set rows place after) new
  changed_done old new of changed = record {
    index = record {
      ordered = changed.order;
      counts = λ test.
          let was : ◌≡◌ {A = ℕ} (cond (is_due_like test jobs before) 1 0) (counted test file (due_from jobs before)) =
          ap (λ answer. cond answer 1 0) (like_at test jobs before file own) in
          let is : ◌≡◌ {A = ℕ} (cond (is_due_like test jobs after) 1 0) (counted test file (due_from jobs after)) =
          ap (λ answer. cond answer 1 0) (like_at test jobs after file kept) in
          omega (arith, changed.counts test, of.index.counts test, count_set (is_due_like test jobs) rows place before after at, was, is);
    };
    files =
        let same : ◌≡◌ {A = ℕ} (cond (is_limited jobs after) 1 0) (cond (is_limited jobs before) 1 0) = ap (λ answer. cond answer 1 0) limited_same in
        omega (arith, of.files, changed.files, count_set (is_limited jobs) rows place before after at, same);
  }

-- of rows in two parts both are numbered
numbered_front : (first : ℕ) (rows more : List FileRow) → AreNumberedFrom (λ (row : FileRow). row.id) first (rows ++ more)
    → AreNumberedFrom (λ (row : FileRow). row.id) first rows
numbered_front first [] more numbered = tt
numbered_front first (row ∷ rows) more numbered = (numbered.0, numbered_front (suc first) rows more numbered.1)

numbered_back : (first : ℕ) (rows more : List FileRow) → AreNumberedFrom (λ (row : FileRow). row.id) first (rows ++ more)
    → AreNumberedFrom (λ (row : FileRow). row.id) (first + length rows) more
numbered_back first [] more numbered = subst (λ number. AreNumberedFrom (λ (row : FileRow). row.id) number more) {x = first} {y = first + 0} (omega arith) numbered
numbered_back first (row ∷ rows) more numbered =
    subst (λ number. AreNumberedFrom (λ (some : FileRow). some.id) number more) {x = suc first + length rows} {y = first + suc (length rows)} (omega arith)
    (numbered_back (suc first) rows more numbered.1)

-- a row whose file stands from a number on has such a number
like_past : (bound : ℕ) (jobs : List JobRow) (row : FileRow) → is_due_like (λ (due : Due). nat_le bound due.file) jobs row ≡ true → bound ≤ row.id
like_past bound jobs row is = by_moment (row_overdue_from jobs row) is
  where
    by_moment : (moment : Option ℕ) → (is_submitted row.state && passes_at (λ (due : Due). nat_le bound due.file) row.id moment) ≡ true → bound ≤ row.id
    by_moment None is =
        let never : false ≡ true = (and_parts (is_submitted row.state) false is).1 in
        cc
    by_moment (Some from) is = leb-true bound row.id (and_parts (is_submitted row.state) (nat_le bound row.id) is).1

-- new rows count as they come in, by the moment of their job
come_like : (test : Due → Bool) (jobs : List JobRow) (moment : Option ℕ) (rows : List FileRow)
    → AllByRecursion (λ row. row_overdue_from jobs row ≡ moment) rows → count_by (is_due_like test jobs) rows ≡ count_by (comes_in test moment) rows
come_like test jobs moment [] all = refl
come_like test jobs moment (row ∷ rows) all =
    let here : ◌≡◌ {A = ℕ} (cond (is_due_like test jobs row) 1 0) (cond (comes_in test moment row) 1 0) =
    ap (λ (some : Option ℕ). cond (comes_in test some row) 1 0) all.0 in
    omega (
      arith,
      count_by-cons (is_due_like test jobs) row rows,
      count_by-cons (comes_in test moment) row rows,
      here,
      come_like test jobs moment rows all.1,
    )

-- and all of them are limited, or none
come_limited : (jobs : List JobRow) (moment : Option ℕ) (rows : List FileRow) → AllByRecursion (λ row. row_overdue_from jobs row ≡ moment) rows
    → count_by (is_limited jobs) rows ≡ cond (is_some moment) (length rows) 0
come_limited jobs moment [] all = by_answer (is_some moment)
  where
    by_answer : (answer : Bool) → ◌≡◌ {A = ℕ} 0 (cond answer 0 0)
    by_answer true = refl
    by_answer false = refl
come_limited jobs moment (row ∷ rows) all = by_answer (is_some moment) (ap is_some all.0) (come_limited jobs moment rows all.1)
  where
    by_answer : (answer : Bool) → is_limited jobs row ≡ answer → count_by (is_limited jobs) rows ≡ cond answer (length rows) 0
        → count_by (is_limited jobs) (row ∷ rows) ≡ cond answer (suc (length rows)) 0
    by_answer true is behind =
        let one : ◌≡◌ {A = ℕ} (cond (is_limited jobs row) 1 0) 1 = ap (λ answer. cond answer 1 0) is in
        omega (arith, count_by-cons (is_limited jobs) row rows, one, behind)
    by_answer false is behind =
        let none : ◌≡◌ {A = ℕ} (cond (is_limited jobs row) 1 0) 0 = ap (λ answer. cond answer 1 0) is in
        omega (arith, count_by-cons (is_limited jobs) row rows, none, behind)

-- rows that are numbered on may come in
pub added_may : (jobs : List JobRow) (rows more : List FileRow) (moment : Option ℕ) (list : DueList)
    → AreNumberedFrom (λ (row : FileRow). row.id) 1 (rows ++ more) → AreDuesOf jobs rows list
    → (is_some moment ≡ true → list.files + length more ≤ list.room) → MayAdd more moment list
added_may jobs rows more moment list numbered of room = record {
  first = 1 + length rows;
  numbered = numbered_back 1 rows more numbered;
  behind = of.index.counts (λ (due : Due). nat_le (1 + length rows) due.file)
      ∙ none_past (is_due_like (λ (due : Due). nat_le (1 + length rows) due.file) jobs) (1 + length rows) 1 rows (numbered_front 1 rows more numbered)
      (like_past (1 + length rows) jobs) (omega arith);
  room = room;
}

-- and where they have, the list is that of all
pub added_done : (jobs : List JobRow) (rows more : List FileRow) (moment : Option ℕ) (old new : DueList) → AreDuesOf jobs rows old
    → AllByRecursion (λ row. row_overdue_from jobs row ≡ moment) more → HasAdded more moment old new → AreDuesOf jobs (rows ++ more) new
added_done jobs rows more moment old new of all added = record {
  index = record {
    ordered = added.order;
    counts = λ test.
        omega (
          arith,
          added.counts test,
          of.index.counts test,
          come_like test jobs moment more all,
          count_by-append (is_due_like test jobs) rows more,
        );
  };
  files = omega (arith, of.files, added.files, come_limited jobs moment more all, count_by-append (is_limited jobs) rows more);
}

-- where no row's moment changes with the jobs, the list stays that of the rows
pub same_done : (jobs other : List JobRow) (rows : List FileRow) (list : DueList)
    → AllByRecursion (λ row. row_overdue_from other row ≡ row_overdue_from jobs row) rows → AreDuesOf jobs rows list → AreDuesOf other rows list
same_done jobs other rows list same of = record {
  index = record {
    ordered = of.index.ordered;
    counts = λ test. of.index.counts test
        ∙ sym (count_same (is_due_like test other) (is_due_like test jobs) rows
        (all_by (λ row is. ap (λ (moment : Option ℕ). comes_in test moment row) is) rows same));
  };
  files = subst (λ count. count ≤ list.files) (sym (count_same (is_limited other) (is_limited jobs) rows (all_by (λ row is. ap is_some is) rows same))) of.files;
}
  where
    all_by : {P Q : FileRow → Type 0} → ((row : FileRow) → P row → Q row) → (some : List FileRow) → AllByRecursion P some → AllByRecursion Q some
    all_by weaker [] all = tt
    all_by weaker (row ∷ some) all = (weaker row all.0, all_by weaker some all.1)

-- a row's moment stays where jobs come in behind its own
more_same : (jobs more : List JobRow) (rows : List FileRow) → AllByRecursion (λ row. IsTrue (is_some (job_at jobs row.job))) rows
    → AllByRecursion (λ row. row_overdue_from (jobs ++ more) row ≡ row_overdue_from jobs row) rows
more_same jobs more [] all = tt
more_same jobs more (row ∷ rows) all = (
  ap (λ (job : Option JobRow). option_map_or overdue_from job None) (find-append (λ (job : JobRow). job.number == row.job) jobs more)
      ∙ by_found (job_at jobs row.job) (job_at more row.job) all.0,
  more_same jobs more rows all.1,
)
  where
    by_found : (found other : Option JobRow) → is_some found ≡ true
        → option_map_or overdue_from (option_or found other) None ≡ option_map_or overdue_from found None
    by_found None other is = cc
    by_found (Some job) other is = refl

-- jobs more change nothing
pub more_done : (jobs more : List JobRow) (rows : List FileRow) (list : DueList) → AllByRecursion (λ row. IsTrue (is_some (job_at jobs row.job))) rows
    → AreDuesOf jobs rows list → AreDuesOf (jobs ++ more) rows list
more_done jobs more rows list known of = same_done jobs (jobs ++ more) rows list (more_same jobs more rows known) of

-- a job that is changed is found by its number
overdue_of_changed : (change : JobRow → JobRow) (jobs : List JobRow) (number : ℕ) → ((job : JobRow) → (change job).number ≡ job.number)
    → ((job : JobRow) → overdue_from (change job) ≡ overdue_from job)
    → option_map_or overdue_from (job_at (map change jobs) number) None ≡ option_map_or overdue_from (job_at jobs number) None
overdue_of_changed change [] number numbers moments = refl
overdue_of_changed change (job ∷ jobs) number numbers moments =
    ap (λ (other : ℕ). option_map_or overdue_from (cond (other == number) (Some (change job)) (job_at (map change jobs) number)) None) (numbers job)
    ∙ by_answer (job.number == number) (overdue_of_changed change jobs number numbers moments)
  where
    by_answer : (answer : Bool)
        → option_map_or overdue_from (job_at (map change jobs) number) None ≡ option_map_or overdue_from (job_at jobs number) None
        → option_map_or overdue_from (cond answer (Some (change job)) (job_at (map change jobs) number)) None
        ≡ option_map_or overdue_from (cond answer (Some job) (job_at jobs number)) None
    by_answer true behind = moments job
    by_answer false behind = behind

-- jobs that change and keep numbers and moments change nothing
pub alike_done : (jobs : List JobRow) (change : JobRow → JobRow) (rows : List FileRow) (list : DueList)
    → ((job : JobRow) → (change job).number ≡ job.number) → ((job : JobRow) → overdue_from (change job) ≡ overdue_from job)
    → AreDuesOf jobs rows list → AreDuesOf (map change jobs) rows list
alike_done jobs change rows list numbers moments of = same_done jobs (map change jobs) rows list (each rows) of
  where
    each : (some : List FileRow) → AllByRecursion (λ row. row_overdue_from (map change jobs) row ≡ row_overdue_from jobs row) some
    each [] = tt
    each (row ∷ some) = (overdue_of_changed change jobs row.job numbers moments, each some)

-- a row that waits with a moment stands in the list
pub row_stands : (jobs : List JobRow) (rows : List FileRow) (list : DueList) → AreDuesOf jobs rows list → (place : ℕ) (row : FileRow) (moment : ℕ)
    → slice_get rows place ≡ Some row → due_from jobs row ≡ Some moment → has_key is_due_before (due_at row.id moment) list.dues ≡ true
row_stands jobs rows list of place row moment at is =
    let test : Due → Bool = λ other. not (differs is_due_before other (due_at row.id moment)) in
    let passes : is_due_like test jobs row ≡ true =
    like_due test jobs row ∙ (ap (passes_at test row.id) is ∙ itself is_due_before dues_are_ordered (due_at row.id moment)) in
    any_counted test list.dues
    (subst (λ count. 0 < count) (sym (of.index.counts test)) (count_some (is_due_like test jobs) rows place row at passes))

-- and what stands in the list is a row that waits with the moment
pub due_waits : (jobs : List JobRow) (rows : List FileRow) (list : DueList) → AreDuesOf jobs rows list → (due : Due)
    → has_key is_due_before due list.dues ≡ true → HasDueRow jobs rows due
due_waits jobs rows list of due there =
    let test : Due → Bool = λ other. not (differs is_due_before other due) in
    let some = some_counted (is_due_like test jobs) rows (subst (λ count. 0 < count) (of.index.counts test) (counted_any test list.dues there)) in
    by_moment some.place some.row some.there (due_from jobs some.row) refl (sym (like_due test jobs some.row) ∙ some.is)
  where
    by_moment : (place : ℕ) (row : FileRow) → slice_get rows place ≡ Some row → (moment : Option ℕ) → due_from jobs row ≡ moment
        → passes_at (λ other. not (differs is_due_before other due)) row.id moment ≡ true → HasDueRow jobs rows due
    by_moment place row at None from is = cc
    by_moment place row at (Some moment) from is =
        let same : due_at row.id moment ≡ due = one_of is_due_before dues_are_ordered (due_at row.id moment) due is in
        record {
          place = place;
          row = row;
          there = at;
          file = ap (λ (some : Due). some.file) same;
          from = from ∙ ap (λ (some : Due). Some some.moment) same;
        }

-- and so is the first
pub first_waits : (jobs : List JobRow) (rows : List FileRow) (list : DueList) → AreDuesOf jobs rows list → (due : Due) → slice_get list.dues 0 ≡ Some due
    → HasDueRow jobs rows due
first_waits jobs rows list of due first = due_waits jobs rows list of due (by_list list.dues first)
  where
    by_list : (dues : List Due) → slice_get dues 0 ≡ Some due → has_key is_due_before due dues ≡ true
    by_list [] is = cc
    by_list (some ∷ dues) is =
        ap (λ (key : Due). not (differs is_due_before key due) || has_key is_due_before due dues) (same_Some some due is)
        ∙ ap (λ (answer : Bool). answer || has_key is_due_before due dues) (itself is_due_before dues_are_ordered due)
