-- What a command leaves of a job and of a file, by the rows before it.
use Rattle.std.proofs.Common.{◌≡◌, ℕ, Bool, true, false, List, [], ◌∷◌, map, Option, Some, None, refl, sym, ◌∙◌, ap, subst, true≢false}
use Rattle.std.specs.Prelude.{◌==◌, ◌&&◌, ◌||◌, not, if◌then◌else◌, find, option_map, unwrap_or, Ok, Err, filter}
use Rattle.std.specs.Option.{option_map_or}
use Rattle.std.specs.List.{list_any}
use Rattle.std.proofs.lemmas.Bool.{eq-eqb}
use Rattle.std.proofs.lemmas.Option.{same_Some, none-some}
use Rattle.serde_json.specs.Data.{Data, null}
use Rattle.fts_tables.specs.SettingsData.{SettingsData}
use Rattle.fts_tables.specs.Tables.{Tables, is_submitted, is_active, is_not_used, is_live, is_settled, is_canceled, rows_of_job, job_at, row_at}
use Rattle.fts_tables.specs.Moves.{cancelled, canceled, is_cancellable, is_settled_job, state_of_job, change_row}
use Rattle.fts_tables.specs.Step.{Outcomes, on_job, with_rows, with_priority, cancel_rows, cancel_row, cancel_one, cancel_file, set_priority}
use Rattle.fts_tables.specs.declared.commands.Refusal.TheVariants.{NoJob, NoFile, Duplicate, JobsFull, RowsFull, Idle, Stale, Unchanged, NoStorage, NotBanned}
use Rattle.fts_tables.specs.declared.commands.Answer.TheVariants.{Cancelled, PrioritySet}
use Rattle.fts_tables.specs.declared.rows.FileRow.{FileRow}
use Rattle.fts_tables.specs.declared.rows.JobRow.{JobRow}
use Rattle.fts_tables.specs.declared.rows.JobKind.{JobKind}
use Rattle.fts_tables.specs.declared.rows.JobKind.TheVariants.{Plain, Replica, Multihop}
use Rattle.fts_tables.specs.declared.rows.FileState.{FileState}
use Rattle.fts_tables.specs.declared.rows.FileState.TheVariants.{Submitted, Active, Finished, Failed, Canceled, NotUsed}
use Rattle.fts_tables.specs.declared.rows.JobState.{JobState}
use Rattle.fts_tables.specs.declared.rows.JobState.TheVariants.{Active as JobActive, Canceled as JobCanceled}
use Rattle.fts_wire.specs.declared.response.Reply.{Reply}
use Rattle.fts_routes.specs.Objects.{settings_in, no_settings, state_in, job_in_state, job_object, job_shown, file_object, file_shown}
use Rattle.fts_routes.specs.Refusals.{shows}
use Rattle.fts_routes.specs.Changes.{state_once_cancelled, priority_once_set, file_once_cancelled}
use Rattle.fts_routes.specs.Planned.{ShowsOutcome}

-- ---- one row

-- a row's part of a cancellation, by the tests of its state
cancelled-by : FileRow → Bool → Bool → FileRow
cancelled-by row waits runs = if waits then canceled row else (if runs then record row { cancel_asked = true } else row)

job-kept-by : (row : FileRow) (waits runs : Bool) → (if waits then canceled row else (if runs then record row { cancel_asked = true } else row)).job ≡ row.job
job-kept-by row true runs = refl
job-kept-by row false true = refl
job-kept-by row false false = refl

job-kept : (row : FileRow) → (cancelled row).job ≡ row.job
job-kept row = job-kept-by row (is_submitted row.state || is_not_used row.state) (is_active row.state)

id-kept-by : (row : FileRow) (waits runs : Bool) → (if waits then canceled row else (if runs then record row { cancel_asked = true } else row)).id ≡ row.id
id-kept-by row true runs = refl
id-kept-by row false true = refl
id-kept-by row false false = refl

id-kept : (row : FileRow) → (cancelled row).id ≡ row.id
id-kept row = id-kept-by row (is_submitted row.state || is_not_used row.state) (is_active row.state)

-- the state after a cancellation, by the state before it
state-by : FileState → FileState
state-by Submitted = Canceled
state-by NotUsed = Canceled
state-by other = other

state-after : (row : FileRow) → (cancelled row).state ≡ state-by row.state
unfolding state-by
state-after row = by_state row.state refl
  where
    by_state : (state : FileState) → row.state ≡ state → (cancelled row).state ≡ state-by row.state
    by_state Submitted is = rw is refl
    by_state NotUsed is = rw is refl
    by_state Active is = rw is refl
    by_state Finished is = rw is refl
    by_state Failed is = rw is refl
    by_state Canceled is = rw is refl

live-by : (state : FileState) → is_live (state-by state) ≡ is_active state
unfolding state-by
live-by Submitted = refl
live-by NotUsed = refl
live-by Active = refl
live-by Finished = refl
live-by Failed = refl
live-by Canceled = refl

begun-by : (state : FileState) → is_active state ≡ true → (is_active (state-by state) || is_settled (state-by state)) ≡ true
unfolding state-by
begun-by Submitted is = refl
begun-by NotUsed is = refl
begun-by Active is = refl
begun-by Finished is = refl
begun-by Failed is = refl
begun-by Canceled is = refl

begun-itself : (state : FileState) → is_active state ≡ true → (is_active state || is_settled state) ≡ true
begun-itself state is = rw is refl

canceled-by : (state : FileState) → is_live state ≡ true → is_active state ≡ false → is_canceled (state-by state) ≡ true
unfolding state-by
canceled-by Active live active = absurd (true≢false active)
canceled-by Finished live active = absurd (true≢false (sym live))
canceled-by Failed live active = absurd (true≢false (sym live))
canceled-by _ live active = refl

active-by : (state : FileState) (asked : Bool) → is_live state ≡ true → (is_submitted state || is_not_used state || (is_active state && not asked)) ≡ false → is_active state ≡ true
active-by Submitted asked live fixed = absurd (true≢false fixed)
active-by NotUsed asked live fixed = absurd (true≢false fixed)
active-by Active asked live fixed = refl
active-by _ asked live fixed = live

-- a row that can't be cancelled is shown as it is
shown-as-is : (row : FileRow) → is_cancellable row ≡ false → file_object (cancelled row) ≡ file_object row
shown-as-is row fixed = by_state row.state row.cancel_asked refl refl
  where
    by_state : (state : FileState) (asked : Bool) → row.state ≡ state → row.cancel_asked ≡ asked → file_object (cancelled row) ≡ file_object row
    by_state Submitted asked is was = absurd (true≢false (rw is at fixed))
    by_state NotUsed asked is was = absurd (true≢false (rw is at fixed))
    by_state Active true is was = rw is (rw was refl)
    by_state Active false is was = absurd (true≢false (rw (is, was) at fixed))
    by_state Finished asked is was = rw is refl
    by_state Failed asked is was = rw is refl
    by_state Canceled asked is was = rw is refl

-- ---- rows of a job

-- of a test that each item passes where it passed another
any-where : {A B : Type 0} (test : A → Bool) (after : B → Bool) (f : A → B) → ((item : A) → test item ≡ true → after (f item) ≡ true) → (items : List A)
    → list_any test items ≡ true → list_any after (map f items) ≡ true
any-where test after f implies [] some = absurd (true≢false (sym some))
any-where test after f implies (item ∷ items) some = by_head (any-where test after f implies items) (implies item) (test item) (after (f item)) refl refl some
  where
    by_head : (list_any test items ≡ true → list_any after (map f items) ≡ true) → (test item ≡ true → after (f item) ≡ true) → (passes also : Bool) → test item ≡ passes → after (f item) ≡ also
        → (passes || list_any test items) ≡ true → (also || list_any after (map f items)) ≡ true
    by_head behind here true true is was any = refl
    by_head behind here false true is was any = refl
    by_head behind here true false is was any = absurd (true≢false (sym (here is) ∙ was))
    by_head behind here false false is was any = behind any

-- of a test that none passes
any-but : {A B : Type 0} (test but : A → Bool) (after : B → Bool) (f : A → B) → ((item : A) → test item ≡ true → but item ≡ false → after (f item) ≡ true) → (items : List A)
    → list_any test items ≡ true → list_any but items ≡ false → list_any after (map f items) ≡ true
any-but test but after f implies [] some none = absurd (true≢false (sym some))
any-but test but after f implies (item ∷ items) some none =
    by_head (any-but test but after f implies items) (implies item) (test item) (but item) (after (f item)) refl refl refl some none
  where
    by_head : (list_any test items ≡ true → list_any but items ≡ false → list_any after (map f items) ≡ true) → (test item ≡ true → but item ≡ false → after (f item) ≡ true)
        → (passes barred also : Bool) → test item ≡ passes → but item ≡ barred → after (f item) ≡ also
        → (passes || list_any test items) ≡ true → (barred || list_any but items) ≡ false → (also || list_any after (map f items)) ≡ true
    by_head behind here passes barred true is unlike was any nowhere = refl
    by_head behind here passes true false is unlike was any nowhere = absurd (true≢false nowhere)
    by_head behind here true false false is unlike was any nowhere = absurd (true≢false (sym (here is unlike) ∙ was))
    by_head behind here false false false is unlike was any nowhere = behind any nowhere

itself : {A : Type 0} (items : List A) → map (λ item. item) items ≡ items
itself [] = refl
itself (item ∷ items) = ap (λ more. item ∷ more) (itself items)

-- the files of a job that run are those that are live after its cancellation
live-after : (rows : List FileRow) → list_any (λ (row : FileRow). is_live row.state) (map cancelled rows) ≡ list_any (λ (row : FileRow). is_active row.state) rows
live-after [] = refl
live-after (row ∷ rows) = rw (state-after row, live-by row.state, live-after rows) refl

-- ---- a cancellation of a job

rows-cancelled : (rows : List FileRow) (number : ℕ)
    → rows_of_job (map (λ (row : FileRow). if row.job == number then cancelled row else row) rows) number ≡ map cancelled (rows_of_job rows number)
rows-cancelled [] number = refl
rows-cancelled (row ∷ rows) number = by_head (rows-cancelled rows number) (row.job == number) refl
  where
    by_head : rows_of_job (map (λ (row : FileRow). if row.job == number then cancelled row else row) rows) number ≡ map cancelled (rows_of_job rows number)
        → (own : Bool) → (row.job == number) ≡ own
        → rows_of_job ((if own then cancelled row else row) ∷ map (λ (row : FileRow). if row.job == number then cancelled row else row) rows) number
        ≡ map cancelled (if own then row ∷ rows_of_job rows number else rows_of_job rows number)
    by_head behind true is = rw (job-kept row, is, behind) refl
    by_head behind false is = rw (is, behind) refl

not-false : (some : Bool) → not some ≡ false → some ≡ true
not-false true is = refl
not-false false is = absurd (true≢false is)

-- the state of a job that isn't settled, once it is cancelled
cancelled-state : (kind : JobKind) (rows : List FileRow) → is_settled_job rows ≡ false
    → state_of_job kind (map cancelled rows) ≡ (if list_any (λ (row : FileRow). is_active row.state) rows then JobActive else JobCanceled)
cancelled-state kind rows unsettled = by_active (list_any (λ (row : FileRow). is_active row.state) rows) refl
  where
    live : list_any (λ (row : FileRow). is_live row.state) rows ≡ true
    live = not-false (list_any (λ (row : FileRow). is_live row.state) rows) unsettled

    by_active : (active : Bool) → list_any (λ (row : FileRow). is_active row.state) rows ≡ active
        → state_of_job kind (map cancelled rows) ≡ (if active then JobActive else JobCanceled)
    by_active true is = rw (
      live-after rows,
      is,
      any-where (λ (row : FileRow). is_active row.state) (λ (row : FileRow). is_active row.state || is_settled row.state) cancelled
          (λ row running. rw (state-after row) (begun-by row.state running)) rows is,
    ) refl
    by_active false is = rw (
      live-after rows,
      is,
      any-but (λ (row : FileRow). is_live row.state) (λ (row : FileRow). is_active row.state) (λ (row : FileRow). is_canceled row.state) cancelled
          (λ row waits idle. rw (state-after row) (canceled-by row.state waits idle)) rows live is,
    ) refl

-- the state of a job that isn't settled, and in which nothing can be cancelled: its files run
fixed-state : (kind : JobKind) (rows : List FileRow) → is_settled_job rows ≡ false → list_any is_cancellable rows ≡ false
    → state_of_job kind rows ≡ (if list_any (λ (row : FileRow). is_active row.state) rows then JobActive else JobCanceled)
fixed-state kind rows unsettled fixed = rw (unsettled, begun, active) refl
  where
    live : list_any (λ (row : FileRow). is_live row.state) rows ≡ true
    live = not-false (list_any (λ (row : FileRow). is_live row.state) rows) unsettled

    active : list_any (λ (row : FileRow). is_active row.state) rows ≡ true
    active = rw itself at (any-but (λ (row : FileRow). is_live row.state) is_cancellable (λ (row : FileRow). is_active row.state) (λ (row : FileRow). row)
        (λ row waits not. active-by row.state row.cancel_asked waits not) rows live fixed)

    begun : list_any (λ (row : FileRow). is_active row.state || is_settled row.state) rows ≡ true
    begun = rw itself at (any-where (λ (row : FileRow). is_active row.state) (λ (row : FileRow). is_active row.state || is_settled row.state) (λ (row : FileRow). row)
        (λ row running. begun-itself row.state running) rows active)

-- a job that is there is shown in its state
shown-job : (tables : Tables) (job : JobRow) → job_at tables.jobs job.number ≡ Some job
    → job_in_state (settings_in tables).vo (state_in tables job) job ≡ job_shown job.number tables
shown-job tables job there = sym (ap (λ (found : Option JobRow). option_map_or (job_object tables) found null) there)

-- a job in two states that are one
same-state : (vo : List ℕ) (job : JobRow) (one other : JobState) → one ≡ other → job_in_state vo one (with_priority job.priority job) ≡ job_in_state vo other job
same-state vo job one other same = ap (λ (state : JobState). job_in_state vo state job) same

-- the reply shows what a cancellation of a job comes to
pub job-cancelled : (tables : Tables) (now : ℕ) (job : JobRow) (state : JobState) (reply : Reply) → job_at tables.jobs job.number ≡ Some job → state ≡ state_in tables job
    → reply ≡ shows (job_in_state (settings_in tables).vo (state_once_cancelled state (rows_of_job tables.rows job.number)) (with_priority job.priority job))
    → ShowsOutcome (job_shown job.number) tables reply (cancel_rows tables now job)
job-cancelled tables now job state reply there state_is reply_is =
    by_tests (is_settled_job (rows_of_job tables.rows job.number)) (list_any is_cancellable (rows_of_job tables.rows job.number)) refl refl
  where
    by-settled : (settled : Bool) → is_settled_job (rows_of_job tables.rows job.number) ≡ settled
        → state_once_cancelled state (rows_of_job tables.rows job.number)
        ≡ (if settled then state else (if list_any (λ (row : FileRow). is_active row.state) (rows_of_job tables.rows job.number) then JobActive else JobCanceled))
    by-settled settled is = ap (λ (settled : Bool). if settled then state
        else (if list_any (λ (row : FileRow). is_active row.state) (rows_of_job tables.rows job.number) then JobActive else JobCanceled)) is

    -- tables in which the job is there, in the state that is shown
    shown : (after : Tables) → job_at after.jobs job.number ≡ Some job → after.settings ≡ tables.settings
        → state_once_cancelled state (rows_of_job tables.rows job.number) ≡ state_in after job → reply ≡ shows (job_shown job.number after)
    shown after found same is = reply_is ∙ ap shows (same-state (settings_in tables).vo job _ (state_in after job) is
        ∙ (ap (λ (settings : Option SettingsData). job_in_state (unwrap_or settings no_settings).vo (state_in after job) job) (sym same) ∙ shown-job after job found))

    by_tests : (settled some : Bool) → is_settled_job (rows_of_job tables.rows job.number) ≡ settled
        → list_any is_cancellable (rows_of_job tables.rows job.number) ≡ some
        → ShowsOutcome (job_shown job.number) tables reply (if not settled && some
        then Ok (with_rows tables now (map (λ (row : FileRow). if row.job == job.number then cancelled row else row) tables.rows), Cancelled job.number)
        else Err (Unchanged job.number))
    by_tests true some settled able = shown tables there refl (by-settled true settled ∙ state_is)
    by_tests false true unsettled able =
        shown (with_rows tables now (map (λ (row : FileRow). if row.job == job.number then cancelled row else row) tables.rows)) there refl
        (by-settled false unsettled ∙ (sym (cancelled-state job.kind (rows_of_job tables.rows job.number) unsettled)
        ∙ ap (state_of_job job.kind) (sym (rows-cancelled tables.rows job.number))))
    by_tests false false unsettled able =
        shown tables there refl (by-settled false unsettled ∙ sym (fixed-state job.kind (rows_of_job tables.rows job.number) unsettled able))

-- what a command makes of a job that is there
pub on-job : (tables : Tables) (job : JobRow) (act : JobRow → Outcomes) (Holds : Outcomes → Type 0) → job_at tables.jobs job.number ≡ Some job
    → Holds (act job) → Holds (on_job tables job.number act)
on-job tables job act Holds there here =
    subst (λ (found : Option JobRow). Holds (elim found [ None ↦ Err NoJob | Some job ↦ act job ])) (sym there) here

-- ---- another priority

-- what is found by its number is found changed, where the change keeps numbers
find-mapped : {A : Type 0} (number_of : A → ℕ) (change : A → A) → ((item : A) → number_of (change item) ≡ number_of item) → (items : List A) (number : ℕ)
    → find (λ item. number_of item == number) (map change items) ≡ option_map change (find (λ item. number_of item == number) items)
find-mapped number_of change kept [] number = refl
find-mapped number_of change kept (item ∷ items) number =
    rw (kept item) (by_head (find-mapped number_of change kept items number) (number_of item == number))
  where
    by_head : find (λ item. number_of item == number) (map change items) ≡ option_map change (find (λ item. number_of item == number) items)
        → (own : Bool) → (if own then Some (change item) else find (λ item. number_of item == number) (map change items))
        ≡ option_map change (if own then Some item else find (λ item. number_of item == number) items)
    by_head behind true = refl
    by_head behind false = behind

number-kept-by : (priority : ℕ) (job : JobRow) (own : Bool) → (if own then with_priority priority job else job).number ≡ job.number
number-kept-by priority job true = refl
number-kept-by priority job false = refl

-- a job whose priority is set
prioritized-there : (jobs : List JobRow) (job : JobRow) (priority : ℕ) → job_at jobs job.number ≡ Some job
    → job_at (map (λ (other : JobRow). if other.number == job.number then with_priority priority other else other) jobs) job.number ≡ Some (with_priority priority job)
prioritized-there jobs job priority there =
    find-mapped (λ (other : JobRow). other.number) (λ (other : JobRow). if other.number == job.number then with_priority priority other else other)
    (λ other. number-kept-by priority other (other.number == job.number)) jobs job.number
    ∙ (ap (option_map (λ (other : JobRow). if other.number == job.number then with_priority priority other else other)) there
    ∙ ap (λ (own : Bool). Some (if own then with_priority priority job else job)) (eq-eqb job.number job.number refl))

-- the reply shows what another priority comes to
pub job-prioritized : (tables : Tables) (now : ℕ) (job : JobRow) (priority : ℕ) (reply : Reply) → job_at tables.jobs job.number ≡ Some job
    → reply ≡ shows (job_in_state (settings_in tables).vo (state_in tables job) (with_priority (priority_once_set job.priority priority (rows_of_job tables.rows job.number)) job))
    → ShowsOutcome (job_shown job.number) tables reply (set_priority tables now job priority)
job-prioritized tables now job priority reply there reply_is = by_tests (is_settled_job (rows_of_job tables.rows job.number)) refl
  where
    by-settled : (settled : Bool) → is_settled_job (rows_of_job tables.rows job.number) ≡ settled
        → job_in_state (settings_in tables).vo (state_in tables job) (with_priority (priority_once_set job.priority priority (rows_of_job tables.rows job.number)) job)
        ≡ job_in_state (settings_in tables).vo (state_in tables job) (with_priority (if settled then job.priority else priority) job)
    by-settled settled is = ap (λ (settled : Bool). job_in_state (settings_in tables).vo (state_in tables job) (with_priority (if settled then job.priority else priority) job)) is

    by_tests : (settled : Bool) → is_settled_job (rows_of_job tables.rows job.number) ≡ settled
        → ShowsOutcome (job_shown job.number) tables reply (if settled then Err (Unchanged job.number) else Ok (
          record tables { moment = now; jobs = map (λ (other : JobRow). if other.number == job.number then with_priority priority other else other) tables.jobs },
          PrioritySet job.number,
        ))
    by_tests true settled = reply_is ∙ ap shows (by-settled true settled ∙ shown-job tables job there)
    by_tests false unsettled = reply_is ∙ ap shows (by-settled false unsettled
        ∙ shown-job (record tables { moment = now; jobs = map (λ (other : JobRow). if other.number == job.number then with_priority priority other else other) tables.jobs })
        (with_priority priority job) (prioritized-there tables.jobs job priority there))

-- ---- a cancellation of a file

-- a file that is there is shown
shown-file : (rows : List FileRow) (id : ℕ) (row : FileRow) → row_at rows id ≡ Some row → file_object row ≡ option_map_or file_object (row_at rows id) null
shown-file rows id row there = sym (ap (λ (found : Option FileRow). option_map_or file_object found null) there)

id-kept-where : (row : FileRow) (own : Bool) → (if own then cancelled row else row).id ≡ row.id
id-kept-where row true = id-kept row
id-kept-where row false = refl

-- a file that is cancelled, by a test that it passes
cancelled-there : (test : FileRow → Bool) (rows : List FileRow) (row : FileRow) → row_at rows row.id ≡ Some row → test row ≡ true
    → row_at (map (λ (other : FileRow). if test other then cancelled other else other) rows) row.id ≡ Some (cancelled row)
cancelled-there test rows row there passes =
    find-mapped (λ (other : FileRow). other.id) (λ (other : FileRow). if test other then cancelled other else other)
    (λ other. id-kept-where other (test other)) rows row.id
    ∙ (ap (option_map (λ (other : FileRow). if test other then cancelled other else other)) there
    ∙ ap (λ (own : Bool). Some (if own then cancelled row else row)) passes)

-- where no item that is kept passes, one that is found and kept doesn't
none-passes : {A : Type 0} (test kept found : A → Bool) (items : List A) (item : A) → list_any test (filter kept items) ≡ false → find found items ≡ Some item
    → kept item ≡ true → test item ≡ false
none-passes test kept found [] item none is keeps = absurd (none-some item is)
none-passes test kept found (other ∷ items) item none is keeps =
    by_head (λ later. none-passes test kept found items item later) (found other) is (kept other) refl none (test other) refl
  where
    by_head : (list_any test (filter kept items) ≡ false → find found items ≡ Some item → kept item ≡ true → test item ≡ false)
        → (here : Bool) → (if here then Some other else find found items) ≡ Some item
        → (stays : Bool) → kept other ≡ stays → list_any test (if stays then other ∷ filter kept items else filter kept items) ≡ false
        → (passes : Bool) → test other ≡ passes → test item ≡ false
    by_head behind here there true stays nowhere true passes = absurd (true≢false (rw passes at nowhere))
    by_head behind true there true stays nowhere false fails = ap test (sym (same_Some other item there)) ∙ fails
    by_head behind false there true stays nowhere false fails = behind (rw fails at nowhere) there keeps
    by_head behind true there false leaves nowhere passes any = absurd (true≢false (sym keeps ∙ (ap kept (sym (same_Some other item there)) ∙ leaves)))
    by_head behind false there false leaves nowhere passes any = behind nowhere there keeps

-- the reply shows what a cancellation of one row comes to
row-cancelled : (tables : Tables) (now : ℕ) (job : JobRow) (row : FileRow) (reply : Reply) → row_at tables.rows row.id ≡ Some row
    → reply ≡ shows (file_object (cancelled row)) → ShowsOutcome (file_shown row.id) tables reply (cancel_row tables now job row)
row-cancelled tables now job row reply there reply_is = by_test (is_cancellable row) refl
  where
    by_test : (able : Bool) → is_cancellable row ≡ able → ShowsOutcome (file_shown row.id) tables reply
        (if able then Ok (with_rows tables now (change_row row.id cancelled tables.rows), Cancelled job.number) else Err (Unchanged job.number))
    by_test true able = reply_is ∙ ap shows (shown-file (change_row row.id cancelled tables.rows) row.id (cancelled row)
        (cancelled-there (λ (other : FileRow). other.id == row.id) tables.rows row there (eq-eqb row.id row.id refl)))
    by_test false fixed = reply_is ∙ ap shows (shown-as-is row fixed ∙ shown-file tables.rows row.id row there)

-- the reply shows, of a file, what a cancellation of its job comes to
file-with-job : (tables : Tables) (now : ℕ) (job : JobRow) (row : FileRow) (reply : Reply) → row_at tables.rows row.id ≡ Some row → row.job ≡ job.number
    → reply ≡ shows (file_object (if is_settled_job (rows_of_job tables.rows job.number) then row else cancelled row))
    → ShowsOutcome (file_shown row.id) tables reply (cancel_rows tables now job)
file-with-job tables now job row reply there own reply_is =
    by_tests (is_settled_job (rows_of_job tables.rows job.number)) (list_any is_cancellable (rows_of_job tables.rows job.number)) refl refl
  where
    by-settled : (settled : Bool) → is_settled_job (rows_of_job tables.rows job.number) ≡ settled
        → file_object (if is_settled_job (rows_of_job tables.rows job.number) then row else cancelled row) ≡ file_object (if settled then row else cancelled row)
    by-settled settled is = ap (λ (settled : Bool). file_object (if settled then row else cancelled row)) is

    by_tests : (settled some : Bool) → is_settled_job (rows_of_job tables.rows job.number) ≡ settled
        → list_any is_cancellable (rows_of_job tables.rows job.number) ≡ some
        → ShowsOutcome (file_shown row.id) tables reply (if not settled && some
        then Ok (with_rows tables now (map (λ (row : FileRow). if row.job == job.number then cancelled row else row) tables.rows), Cancelled job.number)
        else Err (Unchanged job.number))
    by_tests true some settled able = reply_is ∙ ap shows (by-settled true settled ∙ shown-file tables.rows row.id row there)
    by_tests false true unsettled able = reply_is ∙ ap shows (by-settled false unsettled
        ∙ shown-file (map (λ (row : FileRow). if row.job == job.number then cancelled row else row) tables.rows) row.id (cancelled row)
        (cancelled-there (λ (other : FileRow). other.job == job.number) tables.rows row there (eq-eqb row.job job.number own)))
    by_tests false false unsettled able = reply_is ∙ ap shows (by-settled false unsettled
        ∙ (shown-as-is row (none-passes is_cancellable (λ (other : FileRow). other.job == job.number) (λ (other : FileRow). other.id == row.id) tables.rows row
        able there (eq-eqb row.job job.number own))
        ∙ shown-file tables.rows row.id row there))

-- by the job's kind
one-cancelled : (tables : Tables) (now : ℕ) (job : JobRow) (row : FileRow) (reply : Reply) (kind : JobKind) → row_at tables.rows row.id ≡ Some row → row.job ≡ job.number
    → reply ≡ shows (file_object (file_once_cancelled kind (rows_of_job tables.rows job.number) row))
    → ShowsOutcome (file_shown row.id) tables reply (cancel_one tables now job row kind)
one-cancelled tables now job row reply Plain there own reply_is = row-cancelled tables now job row reply there reply_is
one-cancelled tables now job row reply Replica there own reply_is = file-with-job tables now job row reply there own reply_is
one-cancelled tables now job row reply Multihop there own reply_is = file-with-job tables now job row reply there own reply_is

-- the reply shows what a cancellation of a file comes to
pub file-cancelled : (tables : Tables) (now : ℕ) (job : JobRow) (row : FileRow) (reply : Reply) → row_at tables.rows row.id ≡ Some row → row.job ≡ job.number
    → reply ≡ shows (file_object (file_once_cancelled job.kind (rows_of_job tables.rows job.number) row))
    → ShowsOutcome (file_shown row.id) tables reply (cancel_file tables now job (row_at tables.rows row.id))
file-cancelled tables now job row reply there own reply_is =
    subst (λ (found : Option FileRow). ShowsOutcome (file_shown row.id) tables reply (cancel_file tables now job found)) (sym there)
    (subst (λ (mine : Bool). ShowsOutcome (file_shown row.id) tables reply (if mine then cancel_one tables now job row job.kind else Err NoFile))
    (sym (eq-eqb row.job job.number own)) (one-cancelled tables now job row reply job.kind there own reply_is))

-- ---- a submission

-- what is shown of all tables is shown of any outcome
pub shown-anyway : (shown : Data) (tables : Tables) (reply : Reply) → reply ≡ shows shown → (outcome : Outcomes) → ShowsOutcome (λ after. shown) tables reply outcome
shown-anyway shown tables reply is (Ok done) = is
shown-anyway shown tables reply is (Err (Unchanged job)) = is
shown-anyway shown tables reply is _ = tt
