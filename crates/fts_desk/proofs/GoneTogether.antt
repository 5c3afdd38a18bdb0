-- Files that pass a test are cancelled one after the other, each with its whole job where that goes as a whole: what is left to go ends in the same rows.
use Rattle.std.proofs.Common.{◌≡◌, ℕ, zero, suc, ◌+◌, Bool, true, false, cond, ◌<◌, ◌≤◌, List, [], ◌∷◌, length, map, take, Option, Some, None, inl, inr, refl, ap, sym, ◌∙◌, subst, arith}
use Rattle.std.specs.Prelude.{◌&&◌, ◌||◌, ◌==◌, slice_get, option_map, if◌then◌else◌}
use Rattle.std.specs.List.{AllByRecursion, list_any}
use Rattle.std.specs.Option.{option_map_or}
use Rattle.std.proofs.lemmas.Bool.{or_parts, eqb-true, eqb-false, eq-eqb, ne_eqb}
use Rattle.std.proofs.lemmas.List.{take-map}
use Rattle.std.proofs.lemmas.Option.{same_Some, slice_get-map, slice_get_within, slice_get_cases}
use Rattle.fts_tables.specs.Tables.{AreNumberedFrom, is_submitted, is_active, is_not_used, job_at}
use Rattle.fts_tables.specs.Moves.{canceled_for, cancelled_for, change_row}
use Rattle.fts_tables.specs.Waits.{goes_as_a_whole, is_of_a_whole, goes_with, rows_cancelled}
use Rattle.fts_tables.specs.declared.rows.FileRow.{FileRow}
use Rattle.fts_tables.specs.declared.rows.JobRow.{JobRow}
use Rattle.fts_tables.specs.declared.rows.JobKind.{JobKind}
use Rattle.fts_tables.specs.declared.rows.JobKind.TheVariants.{Plain, Replica, Multihop}
use Rattle.fts_tables.specs.declared.rows.Reason.{Reason}
use Rattle.fts_desk.specs.Cancels.{cancelled_of, after_file, goes_by, gone_with, IsInside}
use Rattle.fts_desk.specs.Standing.{AreFormed}
use Rattle.fts_desk.proofs.CancelledParts.{file_if_cancelled, cancelled_waits_not}
use Rattle.fts_desk.proofs.ChangedRows.{id_at}
use Rattle.fts_desk.proofs.KeptFiles.{formed-map}
use Rattle.fts_desk.proofs.Numbered.{number_at}

-- a part of a row that no cancellation changes
pub part_kept : {A : Type 0} (part : FileRow → A) (reason : Reason) → ((row : FileRow) → part (canceled_for reason row) ≡ part row)
    → ((row : FileRow) → part (record row { cancel_asked = true }) ≡ part row) → (row : FileRow) → part (cancelled_for reason row) ≡ part row
part_kept part reason canceled asked row = by_tests (is_submitted row.state || is_not_used row.state) (is_active row.state)
  where
    by_tests : (pending active : Bool)
        → part (if pending then canceled_for reason row else (if active then record row { cancel_asked = true } else row)) ≡ part row
    by_tests true active = canceled row
    by_tests false true = asked row
    by_tests false false = refl

-- its job
job_kept : (reason : Reason) (row : FileRow) → (cancelled_for reason row).job ≡ row.job
job_kept reason row = part_kept (λ (other : FileRow). other.job) reason (λ other. refl) (λ other. refl) row

-- to cancel a row twice is to cancel it once
cancelled_twice : (reason : Reason) (row : FileRow) → cancelled_for reason (cancelled_for reason row) ≡ cancelled_for reason row
cancelled_twice reason row = by_tests (is_submitted row.state || is_not_used row.state) (is_active row.state) refl refl
  where
    by_tests : (pending active : Bool) → (is_submitted row.state || is_not_used row.state) ≡ pending → is_active row.state ≡ active
        → cancelled_for reason (if pending then canceled_for reason row else (if active then record row { cancel_asked = true } else row))
        ≡ (if pending then canceled_for reason row else (if active then record row { cancel_asked = true } else row))
    by_tests true active pending runs = refl
    by_tests false true pending runs =
        ap (λ answer. cond answer (canceled_for reason (record row { cancel_asked = true }))
        (cond (is_active row.state) (record row { cancel_asked = true }) (record row { cancel_asked = true }))) pending
        ∙ ap (λ answer. cond answer (record row { cancel_asked = true }) (record row { cancel_asked = true })) runs
    by_tests false false pending runs =
        ap (λ answer. cond answer (canceled_for reason row) (cond (is_active row.state) (record row { cancel_asked = true }) row)) pending
        ∙ ap (λ answer. cond answer (record row { cancel_asked = true }) row) runs

-- a row that is found at a place passes for all
any_at : (test : FileRow → Bool) (rows : List FileRow) (place : ℕ) (row : FileRow) → slice_get rows place ≡ Some row → test row ≡ true
    → list_any test rows ≡ true
any_at test [] place row at passes = cc
any_at test (first ∷ rows) zero row at passes =
    ap (λ answer. answer || list_any test rows) (ap test (same_Some first row at) ∙ passes)
any_at test (first ∷ rows) (suc place) row at passes =
    ap (λ answer. test first || answer) (any_at test rows place row at passes) ∙ or_true (test first)
  where
    or_true : (answer : Bool) → (answer || true) ≡ true
    or_true true = refl
    or_true false = refl

-- rows of which one is reached with some others, and are cancelled then
module _ (reason : Reason) (jobs : List JobRow) (test : FileRow → Bool) (all : List FileRow) (reach : FileRow → Bool) where
  -- a row that is reached is cancelled
  abbrev reached : FileRow → FileRow
  reached row = if reach row then cancelled_for reason row else row

  -- what becomes of a row in the end, among some rows
  abbrev gone : List FileRow → FileRow → FileRow
  gone rows row = if goes_with jobs rows test row then cancelled_for reason row else row

  -- of another job none is reached
  abbrev NoneOf : FileRow → FileRow → Type 0
  NoneOf row other = reach other ≡ true → (other.job == row.job) ≡ false

  -- so of that job as many pass as before
  others_same : (row : FileRow) (some : List FileRow) → AllByRecursion (NoneOf row) some
      → list_any (λ (other : FileRow). (other.job == row.job) && test other) (map reached some)
      ≡ list_any (λ (other : FileRow). (other.job == row.job) && test other) some
  others_same row [] none = refl
  others_same row (other ∷ some) none =
      ap (λ answer. answer || list_any (λ (other : FileRow). (other.job == row.job) && test other) (map reached some)) (head (reach other) none.0)
      ∙ ap (λ answer. ((other.job == row.job) && test other) || answer) (others_same row some none.1)
    where
      head : (answer : Bool) → (answer ≡ true → (other.job == row.job) ≡ false)
          → (((if answer then cancelled_for reason other else other).job == row.job) && test (if answer then cancelled_for reason other else other))
          ≡ ((other.job == row.job) && test other)
      head false apart = refl
      head true apart =
          ap (λ answer. answer && test (cancelled_for reason other)) (ap (λ job. job == row.job) (job_kept reason other) ∙ apart refl)
          ∙ sym (ap (λ answer. answer && test other) (apart refl))

  -- what is reached goes
  abbrev Goes : FileRow → Type 0
  Goes row = reach row ≡ true → goes_with jobs all test row ≡ true

  -- what was reached and what wasn't end as they would have
  gone_after : ((row : FileRow) → is_of_a_whole jobs row ≡ true → reach row ≡ false → AllByRecursion (NoneOf row) all)
      → (some : List FileRow) → AllByRecursion Goes some → map (gone (map reached all)) (map reached some) ≡ map (gone all) some
  gone_after apart [] goes = refl
  gone_after apart (row ∷ some) goes =
      ap (λ first. first ∷ map (gone (map reached all)) (map reached some)) (head (reach row) refl goes.0)
      ∙ ap (λ rest. gone all row ∷ rest) (gone_after apart some goes.1)
    where
      either : (answer : Bool) → cond answer (cancelled_for reason (cancelled_for reason row)) (cancelled_for reason row) ≡ cancelled_for reason row
      either true = cancelled_twice reason row
      either false = refl

      whole_same : (whole : Bool) → is_of_a_whole jobs row ≡ whole → reach row ≡ false
          → (whole && list_any (λ (other : FileRow). (other.job == row.job) && test other) (map reached all))
          ≡ (whole && list_any (λ (other : FileRow). (other.job == row.job) && test other) all)
      whole_same true is not_reached = others_same row all (apart row is not_reached)
      whole_same false is not_reached = refl

      head : (answer : Bool) → reach row ≡ answer → (reach row ≡ true → goes_with jobs all test row ≡ true)
          → gone (map reached all) (if answer then cancelled_for reason row else row) ≡ gone all row
      head true is goes_too =
          either (goes_with jobs (map reached all) test (cancelled_for reason row))
          ∙ sym (ap (λ answer. cond answer (cancelled_for reason row) row) (goes_too is))
      head false is goes_too =
          ap (λ answer. cond (test row || answer) (cancelled_for reason row) row) (whole_same (is_of_a_whole jobs row) refl is)

-- the row of an id is the one that stands at the place before it
one_of_id : (start : ℕ) (rows : List FileRow) (place : ℕ) (hit : FileRow) → AreNumberedFrom (λ row. row.id) start rows → slice_get rows place ≡ Some hit
    → AllByRecursion (λ (row : FileRow). (row.id == hit.id) ≡ true → row ≡ hit) rows
one_of_id start [] place hit numbered at = tt
one_of_id start (first ∷ rows) zero hit numbered at =
    (λ same. same_Some first hit at, behind (suc start) rows numbered.1 (omega (arith, ap (λ (row : FileRow). row.id) (same_Some first hit at), numbered.0)))
  where
    behind : (next : ℕ) (others : List FileRow) → AreNumberedFrom (λ row. row.id) next others → suc hit.id ≤ next
        → AllByRecursion (λ (row : FileRow). (row.id == hit.id) ≡ true → row ≡ hit) others
    behind next [] numbered below = tt
    behind next (other ∷ others) numbered below =
        (λ same. absurd (omega (arith, eqb-true other.id hit.id same, numbered.0, below)), behind (suc next) others numbered.1 (omega (arith, below)))
one_of_id start (first ∷ rows) (suc place) hit numbered at = (
  λ same. absurd (omega (arith, eqb-true first.id hit.id same, numbered.0, id_at (suc start) rows place hit numbered.1 at)),
  one_of_id (suc start) rows place hit numbered.1 at,
)

-- all of a list, by each
all_by : {P Q : FileRow → Type 0} → ((row : FileRow) → P row → Q row) → (rows : List FileRow) → AllByRecursion P rows → AllByRecursion Q rows
all_by step [] all = tt
all_by step (row ∷ rows) all = (step row all.0, all_by step rows all.1)

-- all of a list, whatever it is
all_of : {Q : FileRow → Type 0} → ((row : FileRow) → Q row) → (rows : List FileRow) → AllByRecursion Q rows
all_of step [] = tt
all_of step (row ∷ rows) = (step row, all_of step rows)

-- a row that goes with another, by whether that one's job goes as a whole
abbrev goes_as : Bool → FileRow → FileRow → Bool
goes_as whole hit row = if whole then row.job == hit.job else row.id == hit.id

-- one that passes among the rows, and goes
module _ (reason : Reason) (jobs : List JobRow) (test : FileRow → Bool) (rows : List FileRow) (place : ℕ) (hit : FileRow)
    (at : slice_get rows place ≡ Some hit) (passes : test hit ≡ true) where
  -- it ends as it would have
  abbrev EndsSo : Bool → Type 0
  EndsSo whole = rows_cancelled reason jobs test (map (λ row. if goes_as whole hit row then cancelled_for reason row else row) rows)
      ≡ rows_cancelled reason jobs test rows

  -- alone, where its job doesn't go as a whole
  gone_alone : AreNumberedFrom (λ row. row.id) 1 rows → is_of_a_whole jobs hit ≡ false → EndsSo false
  gone_alone numbered alone =
      gone_after reason jobs test rows (λ row. row.id == hit.id) apart rows
      (all_by (λ row is same. ap (λ (other : FileRow). goes_with jobs rows test other) (is same) ∙ goes) rows (one_of_id 1 rows place hit numbered at))
    where
      goes : goes_with jobs rows test hit ≡ true
      goes = ap (λ answer. answer || (is_of_a_whole jobs hit && list_any (λ (other : FileRow). (other.job == hit.job) && test other) rows)) passes

      clash : true ≡ false → ⊥
      clash is = cc

      by_test : (row other : FileRow) → is_of_a_whole jobs row ≡ true → other ≡ hit → (answer : Bool) → (other.job == row.job) ≡ answer → answer ≡ false
      by_test row other whole is false same = refl
      by_test row other whole is true same =
          let job : row.job ≡ hit.job = sym (eqb-true other.job row.job same) ∙ ap (λ (some : FileRow). some.job) is in
          absurd (clash (sym whole ∙ (ap (λ number. option_map_or (λ (job : JobRow). goes_as_a_whole job.kind) (job_at jobs number) false) job ∙ alone)))

      apart : (row : FileRow) → is_of_a_whole jobs row ≡ true → (row.id == hit.id) ≡ false
          → AllByRecursion (λ (other : FileRow). (other.id == hit.id) ≡ true → (other.job == row.job) ≡ false) rows
      apart row whole not_reached =
          all_by (λ other is same. by_test row other whole (is same) (other.job == row.job) refl) rows (one_of_id 1 rows place hit numbered at)

  -- with its job, where that goes as a whole
  gone_whole : is_of_a_whole jobs hit ≡ true → EndsSo true
  gone_whole whole = gone_after reason jobs test rows (λ row. row.job == hit.job) apart rows (all_of goes rows)
    where
      or_true : (answer : Bool) → (answer || true) ≡ true
      or_true true = refl
      or_true false = refl

      goes : (row : FileRow) → (row.job == hit.job) ≡ true → goes_with jobs rows test row ≡ true
      goes row same =
          let job : row.job ≡ hit.job = eqb-true row.job hit.job same in
          let among : list_any (λ (other : FileRow). (other.job == hit.job) && test other) rows ≡ true =
          any_at (λ (other : FileRow). (other.job == hit.job) && test other) rows place hit at
          (ap (λ answer. answer && test hit) (ap (λ number. number == hit.job) (sym job) ∙ same) ∙ passes) in
          ap (λ number. test row || (option_map_or (λ (job : JobRow). goes_as_a_whole job.kind) (job_at jobs number) false
          && list_any (λ (other : FileRow). (other.job == number) && test other) rows)) job
          ∙ (ap (λ answer. test row || (answer && list_any (λ (other : FileRow). (other.job == hit.job) && test other) rows)) whole
          ∙ (ap (λ answer. test row || answer) among ∙ or_true (test row)))

      apart : (row : FileRow) → is_of_a_whole jobs row ≡ true → (row.job == hit.job) ≡ false
          → AllByRecursion (λ (other : FileRow). (other.job == hit.job) ≡ true → (other.job == row.job) ≡ false) rows
      apart row is not_reached = all_of (λ other same. ne_eqb other.job row.job
          (λ job. eqb-false row.job hit.job not_reached (sym job ∙ eqb-true other.job hit.job same))) rows

  -- whichever it is
  pub gone_by : AreNumberedFrom (λ row. row.id) 1 rows → rows_cancelled reason jobs test (gone_with reason jobs hit rows) ≡ rows_cancelled reason jobs test rows
  gone_by numbered = by_kind (is_of_a_whole jobs hit) refl
    where
      by_kind : (whole : Bool) → is_of_a_whole jobs hit ≡ whole
          → rows_cancelled reason jobs test (gone_with reason jobs hit rows) ≡ rows_cancelled reason jobs test rows
      by_kind true is = ap (λ answer. rows_cancelled reason jobs test
          (map (λ row. if goes_as answer hit row then cancelled_for reason row else row) rows)) is ∙ gone_whole is
      by_kind false is = ap (λ answer. rows_cancelled reason jobs test
          (map (λ row. if goes_as answer hit row then cancelled_for reason row else row) rows)) is ∙ gone_alone numbered is

-- the row at a place stands before its id
pub inside_at : (rows : List FileRow) (place : ℕ) (row : FileRow) → AreNumberedFrom (λ row. row.id) 1 rows → slice_get rows place ≡ Some row
    → IsInside rows row.id
inside_at rows place row numbered at = record {
  numbered = numbered;
  first = omega (arith, id_at 1 rows place row numbered at);
  last = omega (arith, id_at 1 rows place row numbered at, slice_get_within rows place row at);
}

-- the rows after a file was cancelled are those after it went, by the kind of its job
pub gone_of_kind : (reason : Reason) (jobs : List JobRow) (job : JobRow) (row : FileRow) (rows : List FileRow) → job_at jobs row.job ≡ Some job
    → after_file reason (Some job.kind) job.number row.id rows ≡ gone_with reason jobs row rows
gone_of_kind reason jobs job row rows found =
    by_kind job.kind
    ∙ ap (λ whole. map (λ (other : FileRow). if goes_as whole row other then cancelled_for reason other else other) rows)
    (sym (ap (λ (at : Option JobRow). option_map_or (λ (job : JobRow). goes_as_a_whole job.kind) at false) found))
  where
    by_kind : (kind : JobKind) → after_file reason (Some kind) job.number row.id rows
        ≡ map (λ (other : FileRow). if goes_as (goes_as_a_whole kind) row other then cancelled_for reason other else other) rows
    by_kind Plain = refl
    by_kind Replica = ap (λ number. map (cancelled_of reason number) rows) (number_at jobs row.job job found)
    by_kind Multihop = ap (λ number. map (cancelled_of reason number) rows) (number_at jobs row.job job found)

-- and where there is no such job
pub gone_of_none : (reason : Reason) (jobs : List JobRow) (row : FileRow) (rows : List FileRow) → job_at jobs row.job ≡ None
    → change_row row.id (cancelled_for reason) rows ≡ gone_with reason jobs row rows
gone_of_none reason jobs row rows none =
    ap (λ whole. map (λ (other : FileRow). if goes_as whole row other then cancelled_for reason other else other) rows)
    (sym (ap (λ (at : Option JobRow). option_map_or (λ (job : JobRow). goes_as_a_whole job.kind) at false) none))

-- nothing behind a test that fails
and_false : (answer : Bool) → (answer && false) ≡ false
and_false true = refl
and_false false = refl

-- where none passes, none is left to go
pub none_left : (reason : Reason) (jobs : List JobRow) (test : FileRow → Bool) (rows : List FileRow) → list_any test rows ≡ false
    → rows_cancelled reason jobs test rows ≡ rows
none_left reason jobs test rows none = by_rows rows none
  where
    none_of : (row : FileRow) (some : List FileRow) → list_any test some ≡ false
        → list_any (λ (other : FileRow). (other.job == row.job) && test other) some ≡ false
    none_of row [] none = refl
    none_of row (other ∷ some) none =
        let parts = or_parts (test other) (list_any test some) none in
        ap (λ answer. ((other.job == row.job) && answer) || list_any (λ (other : FileRow). (other.job == row.job) && test other) some) parts.0
        ∙ (ap (λ answer. answer || list_any (λ (other : FileRow). (other.job == row.job) && test other) some) (and_false (other.job == row.job))
        ∙ none_of row some parts.1)

    stays : (row : FileRow) → test row ≡ false → goes_with jobs rows test row ≡ false
    stays row off =
        ap (λ answer. answer || (is_of_a_whole jobs row && list_any (λ (other : FileRow). (other.job == row.job) && test other) rows)) off
        ∙ (ap (λ answer. is_of_a_whole jobs row && answer) (none_of row rows none) ∙ and_false (is_of_a_whole jobs row))

    by_rows : (some : List FileRow) → list_any test some ≡ false
        → map (λ row. if goes_with jobs rows test row then cancelled_for reason row else row) some ≡ some
    by_rows [] off = refl
    by_rows (row ∷ some) off =
        let parts = or_parts (test row) (list_any test some) off in
        ap (λ answer. cond answer (cancelled_for reason row) row ∷ map (λ row. if goes_with jobs rows test row then cancelled_for reason row else row) some)
        (stays row parts.0)
        ∙ ap (λ rest. row ∷ rest) (by_rows some parts.1)

-- a row that was cancelled passes no test of those that wait
pub waits_no_more : (reason : Reason) (second : FileRow → Bool) (row : FileRow)
    → (is_submitted (cancelled_for reason row).state && second (cancelled_for reason row)) ≡ false
waits_no_more reason second row = ap (λ answer. answer && second (cancelled_for reason row)) (cancelled_waits_not reason row)

-- a test that no cancelled row passes
abbrev pub FailsThen : Reason → (FileRow → Bool) → Type 0
FailsThen reason test = (row : FileRow) → test (cancelled_for reason row) ≡ false

-- rows of which none passes, some of them cancelled
any_after : (reason : Reason) (test : FileRow → Bool) (reach : FileRow → Bool) → FailsThen reason test → (rows : List FileRow) → list_any test rows ≡ false
    → list_any test (map (λ row. if reach row then cancelled_for reason row else row) rows) ≡ false
any_after reason test reach fails [] none = refl
any_after reason test reach fails (row ∷ rows) none =
    let parts = or_parts (test row) (list_any test rows) none in
    ap (λ answer. answer || list_any test (map (λ row. if reach row then cancelled_for reason row else row) rows)) (head (reach row) parts.0)
    ∙ any_after reason test reach fails rows parts.1
  where
    head : (answer : Bool) → test row ≡ false → test (if answer then cancelled_for reason row else row) ≡ false
    head true off = fails row
    head false off = off

-- one row more of which none passes
any_more : (test : FileRow → Bool) (rows : List FileRow) (place : ℕ) (row : FileRow) → list_any test (take place rows) ≡ false
    → slice_get rows place ≡ Some row → test row ≡ false → list_any test (take (suc place) rows) ≡ false
any_more test [] place row none at off = cc
any_more test (first ∷ rows) zero row none at off = ap (λ answer. answer || false) (ap test (same_Some first row at) ∙ off)
any_more test (first ∷ rows) (suc place) row none at off =
    let parts = or_parts (test first) (list_any test (take place rows)) none in
    ap (λ answer. answer || list_any test (take (suc place) rows)) parts.0 ∙ any_more test rows place row parts.1 at off

-- a row goes with itself
pub goes_itself : (jobs : List JobRow) (hit : FileRow) → goes_by jobs hit hit ≡ true
goes_itself jobs hit = by_kind (is_of_a_whole jobs hit)
  where
    by_kind : (whole : Bool) → (if whole then hit.job == hit.job else hit.id == hit.id) ≡ true
    by_kind true = eq-eqb hit.job hit.job refl
    by_kind false = eq-eqb hit.id hit.id refl

-- a turn of a walk: the row at a place goes with its job where it passes
module _ (reason : Reason) (jobs : List JobRow) (test : FileRow → Bool) (fails : FailsThen reason test) (rows : List FileRow) (place : ℕ) (hit : FileRow)
    (at : slice_get rows place ≡ Some hit) where
  -- the rows behind the turn
  abbrev turned : Bool → List FileRow
  turned answer = if answer then gone_with reason jobs hit rows else rows

  -- what is left ends in the same rows
  pub turn_ends : AreNumberedFrom (λ row. row.id) 1 rows → (answer : Bool) → test hit ≡ answer
      → rows_cancelled reason jobs test (turned answer) ≡ rows_cancelled reason jobs test rows
  turn_ends numbered true passes = gone_by reason jobs test rows place hit at passes numbered
  turn_ends numbered false passes = refl

  -- and one place more is passed
  pub turn_passed : (answer : Bool) → test hit ≡ answer → list_any test (take place rows) ≡ false → list_any test (take (suc place) (turned answer)) ≡ false
  turn_passed true passes none =
      any_more test (gone_with reason jobs hit rows) place (cancelled_for reason hit)
      (ap (list_any test) (take-map (λ (row : FileRow). if goes_by jobs hit row then cancelled_for reason row else row) place rows)
      ∙ any_after reason test (goes_by jobs hit) fails (take place rows) none)
      (slice_get-map (λ (row : FileRow). if goes_by jobs hit row then cancelled_for reason row else row) rows place
      ∙ (ap (option_map (λ (row : FileRow). if goes_by jobs hit row then cancelled_for reason row else row)) at
      ∙ ap (λ answer. Some (cond answer (cancelled_for reason hit) hit)) (goes_itself jobs hit)))
      (fails hit)
  turn_passed false passes none = any_more test rows place hit none at passes

  -- jobs and rows keep their form
  pub turn_formed : (answer : Bool) → AreFormed jobs rows → AreFormed jobs (turned answer)
  turn_formed true formed = formed-map (λ row. if goes_by jobs hit row then cancelled_for reason row else row)
      (λ row. file_if_cancelled reason row (goes_by jobs hit row)) jobs rows formed
  turn_formed false formed = formed

-- what a turn of a walk leaves
pub record IsTurned (reason : Reason) (jobs : List JobRow) (test : FileRow → Bool) (rows : List FileRow) (place : ℕ) (new : List FileRow) : Type 0 where
  pub formed : AreFormed jobs new
  pub ends : rows_cancelled reason jobs test new ≡ rows_cancelled reason jobs test rows
  pub passed : list_any test (take (place + 1) new) ≡ false

-- a turn at a place
pub walk_turn : (reason : Reason) (jobs : List JobRow) (test : FileRow → Bool) → FailsThen reason test → (rows : List FileRow) (place : ℕ)
    → place < length rows → AreFormed jobs rows → list_any test (take place rows) ≡ false → (new : List FileRow)
    → ((row : FileRow) → slice_get rows place ≡ Some row → new ≡ (if test row then gone_with reason jobs row rows else rows))
    → IsTurned reason jobs test rows place new
walk_turn reason jobs test fails rows place inside formed passed new is = elim (slice_get_cases rows place).1 [
  | inl found ↦ here found.0 found.2
  | inr past ↦ absurd (omega (arith, past.0, inside))
]
  where
    here : (row : FileRow) → slice_get rows place ≡ Some row → IsTurned reason jobs test rows place new
    here row at =
        let next : suc place ≡ place + 1 = omega arith in
        subst (IsTurned reason jobs test rows place) (sym (is row at)) (record {
          formed = turn_formed reason jobs test fails rows place row at (test row) formed;
          ends = turn_ends reason jobs test fails rows place row at formed.rows (test row) refl;
          passed = subst (λ count. list_any test (take count (if test row then gone_with reason jobs row rows else rows)) ≡ false) next
              (turn_passed reason jobs test fails rows place row at (test row) refl passed);
        })
