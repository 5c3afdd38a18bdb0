-- The first moment that has come: its file waits and is overdue, and once it goes there is a moment less.
use Rattle.std.proofs.Common.{◌≡◌, ℕ, zero, suc, ◌+◌, ◌-◌, ◌<◌, ◌≤◌, Bool, true, false, cond, List, [], ◌∷◌, length, map, Option, Some, None, refl, ap, sym, ◌∙◌, subst, arith}
use Rattle.std.specs.Prelude.{◌&&◌, nat_le, count_by, slice_get, if◌then◌else◌}
use Rattle.std.specs.Option.{option_map_or}
use Rattle.std.proofs.lemmas.List.Sums.{sum_by-cons}
use Rattle.std.proofs.lemmas.Option.{same_Some}
use Rattle.fts_tables.specs.Dues.{Due, is_due_like, is_first_due}
use Rattle.fts_tables.specs.Moves.{cancelled_for}
use Rattle.fts_tables.specs.Tables.{AreNumberedFrom, is_submitted}
use Rattle.fts_tables.specs.Waits.{has_come, row_overdue_from, is_overdue}
use Rattle.fts_tables.specs.declared.rows.FileRow.{FileRow}
use Rattle.fts_tables.specs.declared.rows.JobRow.{JobRow}
use Rattle.fts_tables.specs.declared.rows.Reason.{Reason}
use Rattle.fts_index.specs.DueLists.{DueList}
use Rattle.fts_index.specs.RowDues.{AreDuesOf, HasDueRow}
use Rattle.fts_desk.specs.Cancels.{goes_by, gone_with}
use Rattle.fts_desk.specs.Counted.{first_due_file}
use Rattle.fts_desk.proofs.ChangedRows.{id_at}
use Rattle.fts_desk.proofs.GoneTogether.{goes_itself, waits_no_more}

-- where no file is first, the first moment hasn't come
pub none_first : (now : ℕ) (dues : List Due) → first_due_file now dues ≡ None → is_first_due now dues ≡ false
none_first now [] none = refl
none_first now (due ∷ dues) none = by_answer (nat_le due.moment now) none
  where
    by_answer : (answer : Bool) → cond answer (Some due.file) None ≡ None → answer ≡ false
    by_answer true is = cc
    by_answer false is = refl

-- the first moment has come
pub record IsFirst (now : ℕ) (dues : List Due) (file : ℕ) : Type 0 where
  pub due : Due
  pub first : slice_get dues 0 ≡ Some due
  pub named : due.file ≡ file
  pub come : nat_le due.moment now ≡ true

-- where a file is first
pub first_is : (now : ℕ) (dues : List Due) (file : ℕ) → first_due_file now dues ≡ Some file → IsFirst now dues file
first_is now [] file is = cc
first_is now (due ∷ dues) file is = by_answer (nat_le due.moment now) refl is
  where
    by_answer : (answer : Bool) → nat_le due.moment now ≡ answer → cond answer (Some due.file) None ≡ Some file → IsFirst now (due ∷ dues) file
    by_answer true come same = record { due = due; first = refl; named = same_Some due.file file same; come = come }
    by_answer false come same = cc

-- the row of the file stands at the place before it, waits, and is overdue
pub record IsDueAt (jobs : List JobRow) (rows : List FileRow) (now file : ℕ) : Type 0 where
  pub row : FileRow
  pub above : 1 ≤ file
  pub there : slice_get rows (file - 1) ≡ Some row
  pub limited : is_due_like (λ due. true) jobs row ≡ true
  pub passes : is_overdue jobs now row ≡ true

-- a row with a moment that has come
passes_by : (jobs : List JobRow) (now moment : ℕ) (row : FileRow) → nat_le moment now ≡ true → (waits : Bool)
    → (if waits then row_overdue_from jobs row else None) ≡ Some moment
    → ((waits && option_map_or (λ (moment : ℕ). true) (row_overdue_from jobs row) false) ≡ true)
    × ((waits && has_come now (row_overdue_from jobs row)) ≡ true)
passes_by jobs now moment row come true from =
    (ap (λ found. option_map_or (λ (moment : ℕ). true) found false) from, ap (has_come now) from ∙ come)
passes_by jobs now moment row come false from = absurd (clash from)
  where
    clash : ◌≡◌ {A = Option ℕ} None (Some moment) → ⊥
    clash is = cc

-- where a file is first among the moments of rows
pub due_at_front : (jobs : List JobRow) (rows : List FileRow) (list : DueList) (now file : ℕ)
    → ((jobs : List JobRow) (rows : List FileRow) (list : DueList) → AreDuesOf jobs rows list → (due : Due) → slice_get list.dues 0 ≡ Some due
    → HasDueRow jobs rows due)
    → AreNumberedFrom (λ row. row.id) 1 rows → AreDuesOf jobs rows list → first_due_file now list.dues ≡ Some file → IsDueAt jobs rows now file
due_at_front jobs rows list now file law numbered of_rows is =
    let first = first_is now list.dues file is in
    let found = law jobs rows list of_rows first.due first.first in
    let id = id_at 1 rows found.place found.row numbered found.there in
    let place : found.place ≡ file - 1 = omega (arith, id, found.file, first.named) in
    let both = passes_by jobs now first.due.moment found.row first.come (is_submitted found.row.state) found.from in
    record {
      row = found.row;
      above = omega (arith, id, found.file, first.named);
      there = ap (slice_get rows) (sym place) ∙ found.there;
      limited = both.0;
      passes = both.1;
    }

-- the first item and the others
count_by-cons : {Item : Type 0} (test : Item → Bool) (item : Item) (items : List Item)
    → count_by test (item ∷ items) ≡ cond (test item) 1 0 + count_by test items
count_by-cons test item items = sum_by-cons (λ other. cond (test other) 1 0) item items

-- all items are counted
count_all : (dues : List Due) → count_by (λ (due : Due). true) dues ≡ length dues
count_all [] = refl
count_all (due ∷ dues) = omega (arith, count_by-cons (λ (due : Due). true) due dues, count_all dues)

-- rows of which some are cancelled, where no cancelled row passes a test
module _ (reason : Reason) (reach : FileRow → Bool) (test : FileRow → Bool) (fails : (row : FileRow) → test (cancelled_for reason row) ≡ false) where
  -- those that are reached are cancelled
  abbrev change : FileRow → FileRow
  change row = if reach row then cancelled_for reason row else row

  -- one passes no more than it did
  one_no_more : (row : FileRow) → cond (test (change row)) 1 0 ≤ cond (test row) 1 0
  one_no_more row = by_answer (reach row)
    where
      any : (answer : Bool) → 0 ≤ cond answer 1 0
      any true = omega arith
      any false = omega arith

      by_answer : (answer : Bool) → cond (test (if answer then cancelled_for reason row else row)) 1 0 ≤ cond (test row) 1 0
      by_answer true = subst (λ passed. cond passed 1 0 ≤ cond (test row) 1 0) (sym (fails row)) (any (test row))
      by_answer false = omega arith

  -- no more pass then
  no_more : (rows : List FileRow) → count_by test (map change rows) ≤ count_by test rows
  no_more [] = omega arith
  no_more (row ∷ rows) =
      omega (arith, count_by-cons test row rows, count_by-cons test (change row) (map change rows), one_no_more row, no_more rows)

  -- and one less where one was reached that did
  pub one_fewer : (rows : List FileRow) (place : ℕ) (hit : FileRow) → slice_get rows place ≡ Some hit → test hit ≡ true → reach hit ≡ true
      → count_by test (map change rows) < count_by test rows
  one_fewer [] place hit at passes reached = cc
  one_fewer (row ∷ rows) zero hit at passes reached =
      let here : row ≡ hit = same_Some row hit at in
      let before : ◌≡◌ {A = ℕ} (cond (test row) 1 0) 1 = ap (λ answer. cond answer 1 0) (ap test here ∙ passes) in
      let after : ◌≡◌ {A = ℕ} (cond (test (change row)) 1 0) 0 =
      ap (λ answer. cond {A = ℕ} (test (cond answer (cancelled_for reason row) row)) 1 0) (ap reach here ∙ reached)
      ∙ ap (λ answer. cond {A = ℕ} answer 1 0) (fails row) in
      omega (arith, count_by-cons test row rows, count_by-cons test (change row) (map change rows), before, after, no_more rows)
  one_fewer (row ∷ rows) (suc place) hit at passes reached =
      omega (
        arith,
        count_by-cons test row rows,
        count_by-cons test (change row) (map change rows),
        one_no_more row,
        one_fewer rows place hit at passes reached,
      )

-- once a file with a moment went, there is a moment less
pub moments_fewer : (reason : Reason) (jobs : List JobRow) (rows : List FileRow) (place : ℕ) (hit : FileRow) (old new : DueList)
    → slice_get rows place ≡ Some hit → is_due_like (λ due. true) jobs hit ≡ true → AreDuesOf jobs rows old
    → AreDuesOf jobs (gone_with reason jobs hit rows) new → length new.dues < length old.dues
moments_fewer reason jobs rows place hit old new at limited was is =
    omega (
      arith,
      count_all old.dues,
      count_all new.dues,
      was.index.counts (λ due. true),
      is.index.counts (λ due. true),
      one_fewer reason (goes_by jobs hit) (is_due_like (λ due. true) jobs)
          (waits_no_more reason (λ (row : FileRow). option_map_or (λ (moment : ℕ). true) (row_overdue_from jobs row) false)) rows place hit at limited
          (goes_itself jobs hit),
    )
