-- What a claim looks at, where a job is submitted: the new rows are idle, each queue has room for them, and the old rows have their jobs.
use Rattle.std.proofs.Common.{◌≡◌, ◌≢◌, ℕ, zero, suc, ◌+◌, ◌-◌, ◌*◌, ◌≤◌, Bool, true, false, cond, List, [], ◌∷◌, ◌++◌, length, take, drop, length-drop, Option, Some, None, IsTrue, refl, ap, sym, ◌∙◌, subst, arith}
use Rattle.std.specs.Prelude.{◌==◌, min, count_by, slice_get, is_some, if◌then◌else◌}
use Rattle.std.specs.List.{AllByRecursion}
use Rattle.std.proofs.lemmas.Bool.{eq-eqb, ne_eqb}
use Rattle.std.proofs.lemmas.List.{take_at, take_all, drop_at}
use Rattle.std.proofs.lemmas.List.Sums.{sum_by-cons}
use Rattle.std.proofs.lemmas.Option.{same_Some}
use Rattle.fts_tables.specs.JobData.{JobData}
use Rattle.fts_tables.specs.SettingsData.{SettingsData}
use Rattle.fts_tables.specs.Choice.{next_alternative}
use Rattle.std.specs.Option.{option_map_or}
use Rattle.fts_tables.specs.Waits.{overdue_from, row_overdue_from}
use Rattle.fts_tables.specs.Laws.{FileOfRow, file_of}
use Rattle.fts_tables.specs.declared.limits.TheConstants.{LAST_MOMENT}
use Rattle.fts_tables.specs.Moves.{new_row, new_rows, submitted, submit_if_not_used, submit_chosen, rows_of_kind}
use Rattle.fts_tables.specs.Tables.{Tables, AreNumberedFrom, AreWellFormed, is_active, is_not_used, job_at, rows_of_job}
use Rattle.fts_tables.specs.declared.rows.NewFile.{NewFile}
use Rattle.fts_tables.specs.declared.rows.FileRow.{FileRow}
use Rattle.fts_tables.specs.declared.rows.JobRow.{JobRow}
use Rattle.fts_tables.specs.declared.rows.JobKind.{JobKind}
use Rattle.fts_tables.specs.declared.rows.JobKind.TheVariants.{Plain, Replica, Multihop}
use Rattle.fts_tables.specs.declared.rows.FileState.{FileState}
use Rattle.fts_tables.specs.declared.rows.FileState.TheVariants.{Submitted, NotUsed}
use Rattle.fts_tables.specs.declared.settings.LinkAt.{LinkAt}
use Rattle.fts_claims.specs.Changes.{AreTiedTo, is_file_in, is_row_in}
use Rattle.fts_claims.specs.declared.parts.ClaimParts.{ClaimParts}
use Rattle.fts_index.specs.DueLists.{DueList}
use Rattle.fts_index.specs.RowDues.{AreDuesOf, MayAdd, HasAdded}
use Rattle.fts_desk.specs.Counted.{HasRoomForDues}
use Rattle.fts_desk.specs.Parts.{AreTiedParts, AreInLineParts, HaveRoomForFiles, HaveRoomForRows}
use Rattle.fts_desk.specs.Submitted.{HasComeIn}
use Rattle.fts_desk.specs.declared.kept.Beside.{Beside}
use Rattle.fts_desk.specs.Places.{woken}
use Rattle.fts_desk.proofs.KeptFiles.{numbered-map, one_file}
use Rattle.fts_desk.proofs.NewRows.{new_rows-numbered}
use Rattle.fts_desk.proofs.Numbered.{none_of_job}

-- items behind others, numbered on from them
pub numbered-append : {Item : Type 0} (number_of : Item → ℕ) (start next : ℕ) (items more : List Item) → next ≡ start + length items
    → AreNumberedFrom number_of start items → AreNumberedFrom number_of next more → AreNumberedFrom number_of start (items ++ more)
numbered-append number_of start next [] more is numbered behind =
    let same : next ≡ start = omega (arith, is) in
    subst (λ number. AreNumberedFrom number_of number more) same behind
numbered-append number_of start next (item ∷ items) more is numbered behind =
    (numbered.0, numbered-append number_of (suc start) next items more (omega (arith, is)) numbered.1 behind)

-- a row that begins to wait is the same file's
woken_file : (row : FileRow) → file_of (woken row) ≡ file_of row
woken_file row = by_test (is_not_used row.state)
  where
    by_test : (answer : Bool) → file_of (if answer then submitted row else row) ≡ file_of row
    by_test true = refl
    by_test false = refl

-- rows of which one is woken stay numbered
submitted-numbered : (start id : ℕ) (rows : List FileRow) → AreNumberedFrom (λ row. row.id) start rows
    → AreNumberedFrom (λ row. row.id) start (submit_if_not_used id rows)
submitted-numbered start id rows numbered = numbered-map (λ row. if row.id == id then woken row else row) (one_file id woken woken_file) start rows numbered

-- the rows of a new job are numbered from the first one's id on
kind-numbered : (kind : JobKind) (rows : List FileRow) (number id : ℕ) (job : JobData)
    → AreNumberedFrom (λ row. row.id) id (rows_of_kind kind rows number id job)
kind-numbered Plain rows number id job = new_rows-numbered number id Submitted job.files
kind-numbered Multihop rows number id job = submitted-numbered id id (new_rows number id NotUsed job.files) (new_rows-numbered number id NotUsed job.files)
kind-numbered Replica rows number id job =
    by_choice (next_alternative job.strategy rows (new_rows number id NotUsed job.files))
  where
    by_choice : (chosen : Option FileRow) → AreNumberedFrom (λ row. row.id) id (submit_chosen chosen (new_rows number id NotUsed job.files))
    by_choice None = new_rows-numbered number id NotUsed job.files
    by_choice (Some row) = submitted-numbered id row.id (new_rows number id NotUsed job.files) (new_rows-numbered number id NotUsed job.files)

-- none of these rows runs
abbrev AreIdle : List FileRow → Type 0
AreIdle rows = AllByRecursion (λ row. is_active row.state ≡ false) rows

-- new rows in a state that doesn't run
new_rows-idle : (job id : ℕ) (state : FileState) (files : List NewFile) → is_active state ≡ false → AreIdle (new_rows job id state files)
new_rows-idle job id state [] idle = tt
new_rows-idle job id state (file ∷ files) idle = (idle, new_rows-idle job (suc id) state files idle)

-- rows of which one is woken
submitted-idle : (id : ℕ) (rows : List FileRow) → AreIdle rows → AreIdle (submit_if_not_used id rows)
submitted-idle id [] idle = tt
submitted-idle id (row ∷ rows) idle = (by_id (row.id == id) (is_not_used row.state), submitted-idle id rows idle.1)
  where
    by_id : (same unused : Bool) → is_active (if same then (if unused then submitted row else row) else row).state ≡ false
    by_id true true = refl
    by_id true false = idle.0
    by_id false unused = idle.0

-- none of a new job's rows runs
kind-idle : (kind : JobKind) (rows : List FileRow) (number id : ℕ) (job : JobData) → AreIdle (rows_of_kind kind rows number id job)
kind-idle Plain rows number id job = new_rows-idle number id Submitted job.files refl
kind-idle Multihop rows number id job = submitted-idle id (new_rows number id NotUsed job.files) (new_rows-idle number id NotUsed job.files refl)
kind-idle Replica rows number id job = by_choice (next_alternative job.strategy rows (new_rows number id NotUsed job.files))
  where
    by_choice : (chosen : Option FileRow) → AreIdle (submit_chosen chosen (new_rows number id NotUsed job.files))
    by_choice None = new_rows-idle number id NotUsed job.files refl
    by_choice (Some row) = submitted-idle row.id (new_rows number id NotUsed job.files) (new_rows-idle number id NotUsed job.files refl)

-- new rows are their job's
new_rows-owned : (job id : ℕ) (state : FileState) (files : List NewFile) → AllByRecursion (λ row. row.job ≡ job) (new_rows job id state files)
new_rows-owned job id state [] = tt
new_rows-owned job id state (file ∷ files) = (refl, new_rows-owned job (suc id) state files)

-- and so they are where one is woken
submitted-owned : (job id : ℕ) (rows : List FileRow) → AllByRecursion (λ row. row.job ≡ job) rows
    → AllByRecursion (λ row. row.job ≡ job) (submit_if_not_used id rows)
submitted-owned job id [] owned = tt
submitted-owned job id (row ∷ rows) owned =
    (ap (λ (file : FileOfRow). file.job) (one_file id woken woken_file row) ∙ owned.0, submitted-owned job id rows owned.1)

-- a new job's rows are its own
kind-owned : (kind : JobKind) (rows : List FileRow) (number id : ℕ) (job : JobData)
    → AllByRecursion (λ row. row.job ≡ number) (rows_of_kind kind rows number id job)
kind-owned Plain rows number id job = new_rows-owned number id Submitted job.files
kind-owned Multihop rows number id job = submitted-owned number id (new_rows number id NotUsed job.files) (new_rows-owned number id NotUsed job.files)
kind-owned Replica rows number id job = by_choice (next_alternative job.strategy rows (new_rows number id NotUsed job.files))
  where
    by_choice : (chosen : Option FileRow) → AllByRecursion (λ row. row.job ≡ number) (submit_chosen chosen (new_rows number id NotUsed job.files))
    by_choice None = new_rows-owned number id NotUsed job.files
    by_choice (Some row) = submitted-owned number row.id (new_rows number id NotUsed job.files) (new_rows-owned number id NotUsed job.files)

-- a job that comes in behind others is found by the next number
job_behind : (start : ℕ) (jobs : List JobRow) (job : JobRow) → AreNumberedFrom (λ job. job.number) start jobs → job.number ≡ start + length jobs
    → job_at (jobs ++ job ∷ []) job.number ≡ Some job
job_behind start [] job numbered is = ap (λ answer. cond answer (Some job) None) (eq-eqb job.number job.number refl)
job_behind start (first ∷ jobs) job numbered is =
    let next : job.number ≡ suc start + length jobs = omega (arith, is) in
    let apart : (first.number == job.number) ≡ false = ne_eqb first.number job.number (λ same. omega (arith, same, numbered.0, is)) in
    ap (λ answer. cond answer (Some first) (job_at (jobs ++ job ∷ []) job.number)) apart ∙ job_behind (suc start) jobs job numbered.1 next

-- the first item and the others
count_by-cons : {Item : Type 0} (test : Item → Bool) (item : Item) (items : List Item)
    → count_by test (item ∷ items) ≡ cond (test item) 1 0 + count_by test items
count_by-cons test item items = sum_by-cons (λ other. cond (test other) 1 0) item items

-- the rows of a queue among new ones are its files
module _ (settings : SettingsData) (link : LinkAt) (activity : ℕ) where
  in_new_rows : (job id : ℕ) (state : FileState) (files : List NewFile)
      → count_by (is_row_in settings link activity) (new_rows job id state files) ≡ count_by (is_file_in settings link activity) files
  in_new_rows job id state [] = refl
  in_new_rows job id state (file ∷ files) =
      count_by-cons (is_row_in settings link activity) (new_row job id state file) (new_rows job (suc id) state files)
      ∙ ap (λ count. cond (is_file_in settings link activity file) 1 0 + count) (in_new_rows job (suc id) state files)
      ∙ sym (count_by-cons (is_file_in settings link activity) file files)

  in_submitted : (id : ℕ) (rows : List FileRow)
      → count_by (is_row_in settings link activity) (submit_if_not_used id rows) ≡ count_by (is_row_in settings link activity) rows
  in_submitted id [] = refl
  in_submitted id (row ∷ rows) =
      count_by-cons (is_row_in settings link activity) (if row.id == id then woken row else row) (submit_if_not_used id rows)
      ∙ ap (λ answer. cond answer 1 0 + count_by (is_row_in settings link activity) (submit_if_not_used id rows))
      (by_id (row.id == id) (is_not_used row.state))
      ∙ ap (λ count. cond (is_row_in settings link activity row) 1 0 + count) (in_submitted id rows)
      ∙ sym (count_by-cons (is_row_in settings link activity) row rows)
    where
      by_id : (same unused : Bool) → is_row_in settings link activity (if same then (if unused then submitted row else row) else row)
          ≡ is_row_in settings link activity row
      by_id true true = refl
      by_id true false = refl
      by_id false unused = refl

  in_kind : (kind : JobKind) (rows : List FileRow) (number id : ℕ) (job : JobData)
      → count_by (is_row_in settings link activity) (rows_of_kind kind rows number id job) ≡ count_by (is_file_in settings link activity) job.files
  in_kind Plain rows number id job = in_new_rows number id Submitted job.files
  in_kind Multihop rows number id job = in_submitted id (new_rows number id NotUsed job.files) ∙ in_new_rows number id NotUsed job.files
  in_kind Replica rows number id job = by_choice (next_alternative job.strategy rows (new_rows number id NotUsed job.files))
    where
      by_choice : (chosen : Option FileRow)
          → count_by (is_row_in settings link activity) (submit_chosen chosen (new_rows number id NotUsed job.files))
          ≡ count_by (is_file_in settings link activity) job.files
      by_choice None = in_new_rows number id NotUsed job.files
      by_choice (Some row) = in_submitted row.id (new_rows number id NotUsed job.files) ∙ in_new_rows number id NotUsed job.files

-- each queue has room for the rows of a job where it has room for the job's files
room_for_kind : (kind : JobKind) (rows : List FileRow) (number id : ℕ) (job : JobData) (parts : Option ClaimParts) → HaveRoomForFiles job.files parts
    → HaveRoomForRows (rows_of_kind kind rows number id job) parts
room_for_kind kind rows number id job None room = tt
room_for_kind kind rows number id job (Some parts) room = λ link activity.
    omega (arith, room link activity, in_kind parts.slots.settings link activity kind rows number id job)

-- the rows from a place on, as many as there are
pub rest_whole : (rows : List FileRow) (from : ℕ) → take (length rows - from) (drop from rows) ≡ drop from rows
rest_whole rows from = take_all (length rows - from) (drop from rows) (omega (arith, length-drop from rows))

-- what holds of the row at each place holds of all
at_each_place : (Holds : FileRow → Type 0) (rows : List FileRow) → ((place : ℕ) (row : FileRow) → slice_get rows place ≡ Some row → Holds row)
    → AllByRecursion Holds rows
at_each_place Holds [] at = tt
at_each_place Holds (row ∷ rows) at = (at 0 row refl, at_each_place Holds rows (λ place. at (suc place)))

-- a row is among those of its job
is_of_its_job : (rows : List FileRow) (place : ℕ) (row : FileRow) → slice_get rows place ≡ Some row → rows_of_job rows row.job ≡ [] → ⊥
is_of_its_job [] place row at none = cc
is_of_its_job (head ∷ rows) zero row at none =
    let here : (head.job == row.job) ≡ true = eq-eqb head.job row.job (ap (λ (other : FileRow). other.job) (same_Some head row at)) in
    clash (sym (ap (λ answer. cond answer (head ∷ rows_of_job rows row.job) (rows_of_job rows row.job)) here) ∙ none)
  where
    clash : ◌≡◌ {A = List FileRow} (head ∷ rows_of_job rows row.job) [] → ⊥
    clash is = cc
is_of_its_job (head ∷ rows) (suc place) row at none = by_head (is_of_its_job rows place row at) (head.job == row.job) none
  where
    by_head : (rows_of_job rows row.job ≡ [] → ⊥) → (answer : Bool) → cond answer (head ∷ rows_of_job rows row.job) (rows_of_job rows row.job) ≡ [] → ⊥
    by_head behind true is = cc
    by_head behind false is = behind is

-- in well-formed tables each row's job is there
pub rows_have_jobs : (tables : Tables) → AreWellFormed tables → AllByRecursion (λ row. IsTrue (is_some (job_at tables.jobs row.job))) tables.rows
rows_have_jobs tables formed = at_each_place (λ row. IsTrue (is_some (job_at tables.jobs row.job))) tables.rows
    (λ place row at. by_found row (job_at tables.jobs row.job) refl (λ none. is_of_its_job tables.rows place row at (none_of_job tables row.job formed none)))
  where
    by_found : (row : FileRow) (found : Option JobRow) → job_at tables.jobs row.job ≡ found → (job_at tables.jobs row.job ≡ None → ⊥)
        → IsTrue (is_some found)
    by_found row None is there = absurd (there is)
    by_found row (Some job) is there = refl

-- a job more leaves what is tied to the rows that were there
more_stay_tied : (tables : Tables) (job : JobRow) (parts : Option ClaimParts) → AreWellFormed tables
    → ((jobs more : List JobRow) (rows : List FileRow) (parts : ClaimParts) → AllByRecursion (λ row. IsTrue (is_some (job_at jobs row.job))) rows
    → AreTiedTo jobs rows parts → AreTiedTo (jobs ++ more) rows parts)
    → AreTiedParts tables.jobs tables.rows parts → AreTiedParts (tables.jobs ++ job ∷ []) tables.rows parts
more_stay_tied tables job None formed law tied = tt
more_stay_tied tables job (Some parts) formed law tied =
    law tables.jobs (job ∷ []) tables.rows parts (rows_have_jobs tables formed) tied

-- the rows and jobs after a submission, where the new ones stand behind those that were there
module _ {jobs : List JobRow} {rows : List FileRow} {from : ℕ} {job : JobRow} {beside : Beside} (added : HasComeIn jobs rows from job beside) where
  -- the new rows
  abbrev pub newest : List FileRow
  newest = rows_of_kind job.kind added.tables.rows job.number (length added.tables.rows + 1) added.new

  -- the jobs are numbered
  pub submitted_jobs : AreNumberedFrom (λ (job : JobRow). job.number) 1 jobs
  submitted_jobs = subst (λ jobs. AreNumberedFrom (λ (job : JobRow). job.number) 1 jobs) (sym added.with_job)
      (numbered-append (λ (job : JobRow). job.number) 1 job.number added.tables.jobs (job ∷ []) (omega (arith, added.number)) added.formed.jobs (refl, tt))

  -- and so are the rows
  pub submitted_rows : AreNumberedFrom (λ (row : FileRow). row.id) 1 rows
  submitted_rows = subst (λ rows. AreNumberedFrom (λ (row : FileRow). row.id) 1 rows) (sym added.with_rows)
      (numbered-append (λ (row : FileRow). row.id) 1 (length added.tables.rows + 1) added.tables.rows newest (omega arith) added.formed.rows
      (kind-numbered job.kind added.tables.rows job.number (length added.tables.rows + 1) added.new))

  -- they are their job's
  pub newest_owned : AllByRecursion (λ row. row.job ≡ job.number) newest
  newest_owned = kind-owned job.kind added.tables.rows job.number (length added.tables.rows + 1) added.new

  -- the rows from the first new one on
  pub behind : drop from rows ≡ newest
  behind = ap (drop from) added.with_rows ∙ drop_at added.tables.rows newest from (sym added.behind)

  -- those before it
  before : take from rows ≡ added.tables.rows
  before = ap (take from) added.with_rows ∙ take_at added.tables.rows newest from (sym added.behind)

  -- none of the new rows runs
  pub submitted_idle : AllByRecursion (λ row. is_active row.state ≡ false) (drop from rows)
  submitted_idle =
      subst AreIdle (sym behind) (kind-idle job.kind added.tables.rows job.number (length added.tables.rows + 1) added.new)

  -- there is room for them
  pub submitted_room : HaveRoomForRows (drop from rows) beside.parts
  submitted_room = subst (λ rows. HaveRoomForRows rows beside.parts) (sym behind)
      (room_for_kind job.kind added.tables.rows job.number (length added.tables.rows + 1) added.new beside.parts added.queues)

  -- and what is tied to the others stays so
  pub submitted_tied : ((jobs more : List JobRow) (rows : List FileRow) (parts : ClaimParts)
      → AllByRecursion (λ row. IsTrue (is_some (job_at jobs row.job))) rows → AreTiedTo jobs rows parts → AreTiedTo (jobs ++ more) rows parts)
      → AreTiedParts jobs (take from rows) beside.parts
  submitted_tied law = subst (λ others. AreTiedParts jobs others beside.parts) (sym before)
      (subst (λ others. AreTiedParts others added.tables.rows beside.parts) (sym added.with_job)
      (more_stay_tied added.tables job beside.parts added.formed law added.earlier.parts))

  -- so does what is in line
  pub submitted_line : AreInLineParts (take from rows) beside.parts
  submitted_line = subst (λ others. AreInLineParts others beside.parts) (sym before) added.earlier.line

  -- the moment of each new row is the job's
  moments : AllByRecursion (λ row. row_overdue_from jobs row ≡ overdue_from job) newest
  moments = by_rows newest newest_owned
    where
      found : job_at jobs job.number ≡ Some job
      found = ap (λ (others : List JobRow). job_at others job.number) added.with_job
          ∙ job_behind 1 added.tables.jobs job added.formed.jobs (omega (arith, added.number))

      by_rows : (some : List FileRow) → AllByRecursion (λ row. row.job ≡ job.number) some
          → AllByRecursion (λ row. row_overdue_from jobs row ≡ overdue_from job) some
      by_rows [] owned = tt
      by_rows (row ∷ some) owned = (
        ap (λ at. option_map_or overdue_from (job_at jobs at) None) owned.0 ∙ ap (λ at. option_map_or overdue_from at None) found,
        by_rows some owned.1,
      )

  -- the moments of the rows that were there stay theirs
  still_dues : ((jobs more : List JobRow) (rows : List FileRow) (list : DueList) → AllByRecursion (λ row. IsTrue (is_some (job_at jobs row.job))) rows
      → AreDuesOf jobs rows list → AreDuesOf (jobs ++ more) rows list)
      → AreDuesOf jobs added.tables.rows beside.counts.dues
  still_dues law = subst (λ others. AreDuesOf others added.tables.rows beside.counts.dues) (sym added.with_job)
      (law added.tables.jobs (job ∷ []) added.tables.rows beside.counts.dues (rows_have_jobs added.tables added.formed) added.earlier.counts.dues)

  -- the new rows may come in, where there is room for them if their job limits their hours
  pub submitted_may : ((jobs more : List JobRow) (rows : List FileRow) (list : DueList)
      → AllByRecursion (λ row. IsTrue (is_some (job_at jobs row.job))) rows → AreDuesOf jobs rows list → AreDuesOf (jobs ++ more) rows list)
      → ((jobs : List JobRow) (rows more : List FileRow) (moment : Option ℕ) (list : DueList) → AreNumberedFrom (λ row. row.id) 1 (rows ++ more)
      → AreDuesOf jobs rows list → (is_some moment ≡ true → list.files + length more ≤ list.room) → MayAdd more moment list)
      → (moment : Option ℕ) → moment ≡ overdue_from job → MayAdd (drop from rows) moment beside.counts.dues
  submitted_may more may moment is =
      subst (λ some. MayAdd some moment beside.counts.dues) (sym behind)
      (may jobs added.tables.rows newest moment beside.counts.dues
      (subst (λ all. AreNumberedFrom (λ (row : FileRow). row.id) 1 all) added.with_rows submitted_rows)
      (still_dues more) (λ some. subst (λ others. beside.counts.dues.files + length others ≤ beside.counts.dues.room) behind
      (room (hours (ap is_some (sym is) ∙ some)))))
    where
      room : HasRoomForDues job.queue_hours (length (drop from rows)) beside.counts.dues
      room = λ differs. omega (arith, added.dues (λ none. differs (added.hours ∙ none)), length-drop from rows, added.long, added.behind)

      hours : is_some (overdue_from job) ≡ true → job.queue_hours ≢ 0
      hours some none = clash (sym (ap (λ answer. is_some (cond {A = Option ℕ} answer None
          (Some (min (job.submitted_at + 3600 * job.queue_hours) LAST_MOMENT)))) (eq-eqb job.queue_hours 0 none)) ∙ some)
        where
          clash : false ≡ true → ⊥
          clash same = cc

  -- and once they have, the moments are those of all rows
  pub submitted_dues : (list : DueList)
      → ((jobs more : List JobRow) (rows : List FileRow) (list : DueList) → AllByRecursion (λ row. IsTrue (is_some (job_at jobs row.job))) rows
      → AreDuesOf jobs rows list → AreDuesOf (jobs ++ more) rows list)
      → ((jobs : List JobRow) (rows more : List FileRow) (moment : Option ℕ) (old new : DueList) → AreDuesOf jobs rows old
      → AllByRecursion (λ row. row_overdue_from jobs row ≡ moment) more → HasAdded more moment old new → AreDuesOf jobs (rows ++ more) new)
      → (moment : Option ℕ) → moment ≡ overdue_from job
      → HasAdded (drop from rows) moment beside.counts.dues list → AreDuesOf jobs rows list
  submitted_dues list more done moment is come =
      let old = beside.counts.dues in
      subst (λ all. AreDuesOf jobs all list) (sym added.with_rows)
      (done jobs added.tables.rows newest (overdue_from job) old list (still_dues more) moments
      (subst (λ some. HasAdded some (overdue_from job) old list) behind (subst (λ from_then. HasAdded (drop from rows) from_then old list) is come)))
