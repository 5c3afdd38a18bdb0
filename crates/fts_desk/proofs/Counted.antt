-- What is counted of rows, where one of them changes at its place and keeps its file.
use Rattle.std.proofs.Common.{◌≡◌, ℕ, zero, suc, ◌<◌, true, false, List, [], ◌∷◌, ◌++◌, replicate, length, map, get_or, set, Some, refl, ap, sym, ◌∙◌, subst, arith, inl, inr}
use Rattle.std.specs.Prelude.{◌+◌, ◌&&◌, ◌==◌, Bool, Option, count_by, slice_get, slice_set, if◌then◌else◌}
use Rattle.std.proofs.lemmas.List.{length-set}
use Rattle.std.proofs.lemmas.Option.{same_Some, slice_get_cases, slice_get-get_or}
use Rattle.fts_tables.specs.Tables.{AreNumberedFrom, AreFirstsFrom, owners}
use Rattle.fts_tables.specs.Waits.{overdue_from}
use Rattle.fts_tables.specs.Step.{with_priority}
use Rattle.fts_tables.specs.Laws.{FileOfRow, file_of}
use Rattle.fts_tables.specs.declared.rows.FileRow.{FileRow}
use Rattle.fts_tables.specs.declared.rows.JobRow.{JobRow}
use Rattle.fts_index.specs.Links.{Link, LinkLists}
use Rattle.fts_index.specs.LiveLinks.{link_of_row}
use Rattle.fts_index.specs.DueLists.{DueList, MayChange, HasChanged}
use Rattle.fts_index.specs.RowDues.{due_from, AreDuesOf}
use Rattle.fts_desk.specs.Loaded.{added_by, AreLoadsOf, MayRecount}
use Rattle.fts_desk.specs.Counted.{AreCountsOf, AreCountsBefore, IsCountedAt, AreStatesOf, AreStatesBefore, progress_of}
use Rattle.fts_desk.specs.JobLists.{JobList}
use Rattle.fts_desk.specs.Places.{change_at}
use Rattle.fts_desk.specs.Standing.{prioritized}
use Rattle.fts_desk.specs.declared.kept.Counts.{Counts}
use Rattle.fts_desk.specs.declared.counts.Tally.{Tally}
use Rattle.fts_desk.proofs.CancelledParts.{read_set, numbered-set}
use Rattle.fts_desk.proofs.ChangedRows.{change_at-set}
use Rattle.fts_desk.proofs.ClaimedParts.{stands-set}
use Rattle.fts_desk.proofs.Loaded.{may_recount, recounted}

-- what was written at a place last stands there
pub set-set : (rows : List FileRow) (place : ℕ) (one other : FileRow) → set (set rows place one) place other ≡ set rows place other
set-set [] place one other = refl
set-set (row ∷ rows) zero one other = refl
set-set (row ∷ rows) (suc place) one other = ap (λ rest. row ∷ rest) (set-set rows place one other)

-- what stands at a place, written there
pub set-same : (rows : List FileRow) (place : ℕ) (row : FileRow) → slice_get rows place ≡ Some row → set rows place row ≡ rows
set-same [] place row at = refl
set-same (first ∷ rows) zero row at = ap (λ other. other ∷ rows) (sym (same_Some first row at))
set-same (first ∷ rows) (suc place) row at = ap (λ rest. first ∷ rest) (set-same rows place row at)

-- a row that changed at its place
module _ (jobs : List JobRow) (rows after : List FileRow) (place : ℕ) (change : FileRow → FileRow)
    (keeps : (row : FileRow) → file_of (change row) ≡ file_of row) (was : Tally) (counts : Counts) (inside : place < length rows)
    (counted : IsCountedAt jobs rows place was) (of_rows : AreCountsOf jobs rows counts) where
  -- where it was written
  pub counts_before : (read : FileRow) → after ≡ set rows place (change (get_or rows place read)) → AreCountsBefore jobs after place was counts
  counts_before read changed =
      let stood = slice_get-get_or rows place read inside in
      record {
        before = get_or rows place read;
        inside = omega (arith, ap length changed, length-set rows place (change (get_or rows place read)), inside);
        file = λ row at. ap file_of (read_set rows place (change (get_or rows place read)) row inside
            (ap (λ (items : List FileRow). slice_get items place) (sym changed) ∙ at)) ∙ keeps (get_or rows place read);
        counted = counted (get_or rows place read) stood;
        of_rows = subst (λ (items : List FileRow). AreCountsOf jobs items counts)
            (sym (ap (λ (items : List FileRow). set items place (get_or rows place read)) changed
            ∙ (set-set rows place (change (get_or rows place read)) (get_or rows place read) ∙ set-same rows place (get_or rows place read) stood))) of_rows;
      }

  -- where it is said by its place
  pub counts_placed : after ≡ change_at place change rows → AreCountsBefore jobs after place was counts
  counts_placed changed = elim (slice_get_cases rows place).1 [
    | inl found ↦ counts_before found.0
        (changed ∙ sym (change_at-set rows place change found.0 (change (get_or rows place found.0)) inside refl))
    | inr past ↦ absurd (omega (arith, past.0, inside))
  ]

-- a row that changed since it was counted, and counts anew
module _ (jobs : List JobRow) (rows : List FileRow) (place : ℕ) (was : Tally) (counts : Counts) (earlier : AreCountsBefore jobs rows place was counts)
    (row : FileRow) (at : slice_get rows place ≡ Some row) where
  -- the rows as they were counted
  abbrev old_rows : List FileRow
  old_rows = set rows place earlier.before

  -- what stood there then
  there : slice_get old_rows place ≡ Some earlier.before
  there = stands-set rows place earlier.before earlier.inside

  -- its file was the same
  same : file_of row ≡ file_of earlier.before
  same = earlier.file row at

  -- its link was
  same_link : link_of_row row ≡ link_of_row earlier.before
  same_link = ap (λ (file : FileOfRow). record { source = file.source.endpoint; dest = file.dest.endpoint }) same

  -- with it as it is now the rows are those that stand
  now_rows : set old_rows place row ≡ rows
  now_rows = set-set rows place earlier.before row ∙ set-same rows place row at

  -- its link may count anew
  pub link_may : MayRecount was.live (link_of_row row) counts.loads
  link_may = may_recount old_rows place earlier.before row was.live counts.loads earlier.of_rows.loads there earlier.counted.live same_link

  -- and has
  pub link_done : (new : LinkLists)
      → ((test : Link → Bool) → count_by test new.links + (if was.live && test (link_of_row row) then 1 else 0)
      ≡ count_by test counts.loads.links + added_by test row)
      → new.known ≡ counts.loads.known → AreLoadsOf rows new
  link_done new more known = subst (λ (items : List FileRow). AreLoadsOf items new) now_rows
      (recounted old_rows place earlier.before row was.live counts.loads new earlier.of_rows.loads there earlier.counted.live same_link more known)

  -- its job may stand anew
  pub states_may : AreStatesBefore jobs rows place was counts.states
  states_may = record {
    before = earlier.before;
    job = λ some there. sym (ap (λ (file : FileOfRow). file.job) (earlier.file some there));
    counted = earlier.counted;
    of_rows = earlier.of_rows.states;
  }

  -- its moment may change
  pub due_may : ((jobs : List JobRow) (rows : List FileRow) (place : ℕ) (before after : FileRow) (file : ℕ) (list : DueList)
      → AreNumberedFrom (λ row. row.id) 1 rows → slice_get rows place ≡ Some before → before.id ≡ file → after.id ≡ file → after.job ≡ before.job
      → AreDuesOf jobs rows list → MayChange file (due_from jobs before) (due_from jobs after) list)
      → AreNumberedFrom (λ row. row.id) 1 rows → (is : Option ℕ) → is ≡ due_from jobs row → MayChange row.id was.due is counts.dues
  due_may law numbered is now =
      let ids : earlier.before.id ≡ row.id = sym (ap (λ (file : FileOfRow). file.id) same) in
      subst (λ moment. MayChange row.id was.due moment counts.dues) (sym now)
      (subst (λ moment. MayChange row.id moment (due_from jobs row) counts.dues) (sym earlier.counted.due)
      (law jobs old_rows place earlier.before row row.id counts.dues (numbered-set 1 rows place row earlier.before at ids numbered) there ids refl
      (ap (λ (file : FileOfRow). file.job) same) earlier.of_rows.dues))

  -- and has
  pub due_done : ((jobs : List JobRow) (rows : List FileRow) (place : ℕ) (before after : FileRow) (file : ℕ) (old new : DueList)
      → slice_get rows place ≡ Some before → before.id ≡ file → after.id ≡ file → after.job ≡ before.job
      → AreDuesOf jobs rows old → HasChanged file (due_from jobs before) (due_from jobs after) old new → AreDuesOf jobs (slice_set rows place after) new)
      → (is : Option ℕ) → is ≡ due_from jobs row → (new : DueList) → HasChanged row.id was.due is counts.dues new → AreDuesOf jobs rows new
  due_done law is now new changed =
      let ids : earlier.before.id ≡ row.id = sym (ap (λ (file : FileOfRow). file.id) same) in
      subst (λ (items : List FileRow). AreDuesOf jobs items new) now_rows
      (law jobs old_rows place earlier.before row row.id counts.dues new there ids refl (ap (λ (file : FileOfRow). file.job) same) earlier.of_rows.dues
      (subst (λ moment. HasChanged row.id (due_from jobs earlier.before) moment counts.dues new) now
      (subst (λ moment. HasChanged row.id moment is counts.dues new) earlier.counted.due changed)))

-- another priority of a job leaves how each stands
states_prioritized : (number priority : ℕ) (jobs : List JobRow) (rows : List FileRow) (list : JobList) → AreStatesOf jobs rows list
    → AreStatesOf (map (prioritized number priority) jobs) rows list
states_prioritized number priority jobs rows list of_rows = record {
  stand = of_rows.stand ∙ stand jobs;
  follow = record { firsts = firsts 1 jobs of_rows.follow.firsts; owners = of_rows.follow.owners ∙ owned jobs };
}
  where
    stands : (job : JobRow) (answer : Bool) → progress_of rows job ≡ progress_of rows (if answer then with_priority priority job else job)
    stands job true = refl
    stands job false = refl

    stand : (some : List JobRow) → map (progress_of rows) some ≡ map (progress_of rows) (map (prioritized number priority) some)
    stand [] = refl
    stand (job ∷ some) =
        ap (λ head. head ∷ map (progress_of rows) some) (stands job (job.number == number))
        ∙ ap (λ rest. progress_of rows (prioritized number priority job) ∷ rest) (stand some)

    by_first : (next : ℕ) (job : JobRow) (some : List JobRow) (answer : Bool)
        → (job.first ≡ next) × AreFirstsFrom (next + job.count) (map (prioritized number priority) some)
        → ((if answer then with_priority priority job else job).first ≡ next)
        × AreFirstsFrom (next + (if answer then with_priority priority job else job).count) (map (prioritized number priority) some)
    by_first next job some true are = are
    by_first next job some false are = are

    firsts : (next : ℕ) (some : List JobRow) → AreFirstsFrom next some → AreFirstsFrom next (map (prioritized number priority) some)
    firsts next [] are = tt
    firsts next (job ∷ some) are = by_first next job some (job.number == number) (are.0, firsts (next + job.count) some are.1)

    own : (job : JobRow) (rest : List ℕ) (answer : Bool) → replicate job.count job.number ++ rest
        ≡ replicate (if answer then with_priority priority job else job).count (if answer then with_priority priority job else job).number ++ rest
    own job rest true = refl
    own job rest false = refl

    owned : (some : List JobRow) → owners some ≡ owners (map (prioritized number priority) some)
    owned [] = refl
    owned (job ∷ some) =
        ap (λ rest. replicate job.count job.number ++ rest) (owned some) ∙ own job (owners (map (prioritized number priority) some)) (job.number == number)

-- another priority of a job leaves what is counted
pub counts_prioritized : ((jobs : List JobRow) (change : JobRow → JobRow) (rows : List FileRow) (list : DueList)
    → ((job : JobRow) → (change job).number ≡ job.number) → ((job : JobRow) → overdue_from (change job) ≡ overdue_from job)
    → AreDuesOf jobs rows list → AreDuesOf (map change jobs) rows list)
    → (number priority : ℕ) (jobs : List JobRow) (rows : List FileRow) (counts : Counts) → AreCountsOf jobs rows counts
    → AreCountsOf (map (prioritized number priority) jobs) rows counts
counts_prioritized law number priority jobs rows counts of_rows = record {
  loads = of_rows.loads;
  dues = law jobs (prioritized number priority) rows counts.dues (λ job. numbers job (job.number == number)) (λ job. moments job (job.number == number))
      of_rows.dues;
  states = states_prioritized number priority jobs rows counts.states of_rows.states;
}
  where
    numbers : (job : JobRow) (answer : Bool) → (if answer then with_priority priority job else job).number ≡ job.number
    numbers job true = refl
    numbers job false = refl

    moments : (job : JobRow) (answer : Bool) → overdue_from (if answer then with_priority priority job else job) ≡ overdue_from job
    moments job true = refl
    moments job false = refl
