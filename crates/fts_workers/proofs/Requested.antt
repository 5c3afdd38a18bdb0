-- A command of a request, and an expiry, leave the files that are out and their attempts; and what the copies of those files are asked for.
use Rattle.std.proofs.Common.{◌≡◌, refl, ap, sym, ◌∙◌, subst, ℕ, ◌+◌, ◌≤◌, Bool, true, false, cond, List, [], ◌∷◌, ◌++◌, length, map, max, Option, Some, None, IsSome, Ok, Err, arith, eq-eqb}
use Rattle.std.specs.Prelude.{◌==◌, ◌&&◌, ◌||◌, not, nat_lt, is_some, option_and_then, option_map, option_to_list, IsTrue}
use Rattle.std.proofs.lemmas.List.Sums.{sum_by-cons}
use Rattle.std.specs.Option.{option_map_or}
use Rattle.std.specs.List.{list_any}
use Rattle.fts_tables.specs.Tables.{Tables, empty_tables, AreWellFormed, is_active, is_submitted, is_not_used, job_at, number_of_id, row_at, rows_of_job}
use Rattle.fts_tables.specs.JobData.{JobData}
use Rattle.fts_tables.specs.Laws.{AreTheActive, CopyOrder, IsOrderKept, order_of as order_asked}
use Rattle.fts_tables.specs.Limits.{endpoint_at, is_banned}
use Rattle.fts_tables.specs.Moves.{canceled_for, cancelled, cancelled_for, is_cancellable, is_settled_job, rows_of_new}
use Rattle.fts_tables.specs.Waits.{goes_with, is_overdue, rows_cancelled, waits_at}
use Rattle.fts_tables.specs.Step.{Outcomes, step, with_rows, submit_by, cancel_rows, cancel_row, cancel_one, cancel_file, set_priority, ban, ban_and_cancel, ban_only, unban, expire}
use Rattle.fts_tables.specs.History.{tables_of, tables_after, out_of_list, out_step, IsLegal}
use Rattle.fts_tables.specs.declared.limits.TheConstants.{MAX_JOBS, MAX_ROWS}
use Rattle.fts_tables.specs.declared.rows.FileRow.{FileRow}
use Rattle.fts_tables.specs.declared.rows.JobRow.{JobRow}
use Rattle.fts_tables.specs.declared.rows.JobKind.{JobKind}
use Rattle.fts_tables.specs.declared.rows.JobKind.TheVariants.{Plain, Replica, Multihop}
use Rattle.fts_tables.specs.declared.rows.Outcome.{Outcome}
use Rattle.fts_tables.specs.declared.rows.Reason.{Reason}
use Rattle.fts_tables.specs.declared.rows.Reason.TheVariants.{Cancelled as CancelledReason, Expired as ExpiredReason}
use Rattle.fts_tables.specs.declared.commands.Entry.{Entry}
use Rattle.fts_tables.specs.declared.commands.Refusal.TheVariants.{NoJob, Unchanged}
use Rattle.fts_tables.specs.declared.commands.Answer.TheVariants.{Cancelled}
use Rattle.fts_tables.specs.declared.commands.Command.{Command}
use Rattle.fts_tables.specs.declared.commands.Command.TheVariants.{Restart, Submit, CancelJob, CancelFile, SetPriority, Claim, Report, Ban, Unban, Expire}
use Rattle.fts_workers.specs.Benches.{BenchData, attempt_of, held_as, held_over, kept_of}
use Rattle.fts_copy.specs.Copy.{Order}
use Rattle.fts_disk.specs.Disk.{DiskState}
use Rattle.fts_tables.specs.SettingsData.{SettingsData}
use Rattle.fts_tables.specs.declared.commands.Answer.{Answer}
use Rattle.fts_keep.specs.Keeps.{KeepData}
use Rattle.fts_keep.specs.Applied.{Accepts, KeepsList}
use Rattle.fts_keep.specs.Started.{restart_at, restarted}
use Rattle.fts_workers.specs.Rounds.{IsWorkedOver}
use Rattle.std.proofs.lemmas.List.{length-append}
use Rattle.fts_workers.specs.Copies.{Copy, copies_kept, copies_of_file, order_in}
use Rattle.fts_workers.specs.Requests.{IsOfRequest}
use Rattle.fts_workers.proofs.Accepted.{legal_front, legal_more, list_more, list_same}
use Rattle.fts_workers.proofs.Attempts.{IsSameAttempt, attempt_among, attempts_map, attempts_one, either_attempt, same_attempt}
use Rattle.fts_workers.proofs.Copied.{copies_kept-none, tables_from-append}
use Rattle.fts_workers.proofs.Numbered.{IsActiveAt, active_found, row_at-id}
use Rattle.fts_workers.proofs.OutFiles.{times, held_as-same, out_of_list-last}

-- a step leaves the files that are out, and the attempts of rows that are there
pub record Leaves (tables : Tables) (came : Outcomes) : Type 0 where
  pub out : (files : List ℕ) → out_step files came ≡ files
  pub attempts : (file : ℕ) → IsSome (row_at tables.rows file) → attempt_of (tables_after tables came) file ≡ attempt_of tables file

-- one of two
either : (tables : Tables) (first : Bool) (one other : Outcomes) → Leaves tables one → Leaves tables other → Leaves tables (cond first one other)
either tables true one other leaves_one leaves_other = leaves_one
either tables false one other leaves_one leaves_other = leaves_other

-- rows behind those that are there
attempts_more : (rows more : List FileRow) (file : ℕ) → IsSome (row_at rows file) → attempt_among (rows ++ more) file ≡ attempt_among rows file
attempts_more [] more file there = absurd cc
attempts_more (row ∷ rows) more file there = by_head (attempts_more rows more file) (row.id == file) there
  where
    by_head : (IsSome (row_at rows file) → attempt_among (rows ++ more) file ≡ attempt_among rows file) → (same : Bool)
        → IsSome (cond same (Some row) (row_at rows file))
        → option_map_or (λ (r : FileRow). r.attempt) (cond same (Some row) (row_at (rows ++ more) file)) 0
        ≡ option_map_or (λ (r : FileRow). r.attempt) (cond same (Some row) (row_at rows file)) 0
    by_head behind true there = refl
    by_head behind false there = behind there

-- a cancellation leaves the attempt, whatever its reason
cancelled_attempt : (reason : Reason) (row : FileRow) → IsSameAttempt row (cancelled_for reason row)
cancelled_attempt reason row =
    either_attempt (is_submitted row.state || is_not_used row.state) row (canceled_for reason row) _ (record { id = refl; attempt = refl })
    (either_attempt (is_active row.state) row (record row { cancel_asked = true }) row (record { id = refl; attempt = refl }) (same_attempt row))

-- so does that of all files which pass a test
some_cancelled : (reason : Reason) (jobs : List JobRow) (test : FileRow → Bool) (rows : List FileRow) (file : ℕ)
    → attempt_among (rows_cancelled reason jobs test rows) file ≡ attempt_among rows file
some_cancelled reason jobs test rows file =
    attempts_map (λ row. cond (goes_with jobs rows test row) (cancelled_for reason row) row)
    (λ row. either_attempt (goes_with jobs rows test row) row (cancelled_for reason row) row (cancelled_attempt reason row) (same_attempt row)) rows file

submit_leaves : (found : Option ℕ) (tables : Tables) (now : ℕ) (job : JobData) → Leaves tables (submit_by found tables now job)
submit_leaves (Some number) tables now job = record { out = λ files. refl; attempts = λ file there. refl }
submit_leaves None tables now job =
    either tables (nat_lt (length tables.jobs) MAX_JOBS) _ _
    (either tables (nat_lt MAX_ROWS (length tables.rows + length job.files)) _ _ (record { out = λ files. refl; attempts = λ file there. refl })
    (record { out = λ files. refl; attempts = λ file there. attempts_more tables.rows (rows_of_new tables.rows (length tables.jobs + 1) job) file there }))
    (record { out = λ files. refl; attempts = λ file there. refl })

rows_leave : (tables : Tables) (now : ℕ) (job : JobRow) → Leaves tables (cancel_rows tables now job)
rows_leave tables now job = either tables
    (not (is_settled_job (rows_of_job tables.rows job.number)) && list_any is_cancellable (rows_of_job tables.rows job.number))
    (Ok (with_rows tables now (map (λ row. cond (row.job == job.number) (cancelled row) row) tables.rows), Cancelled job.number)) (Err (Unchanged job.number))
    (record {
      out = λ files. refl;
      attempts = λ file there. attempts_map (λ row. cond (row.job == job.number) (cancelled row) row)
          (λ row. either_attempt (row.job == job.number) row (cancelled row) row (cancelled_attempt CancelledReason row) (same_attempt row)) tables.rows
          file;
    })
    (record { out = λ files. refl; attempts = λ file there. refl })

row_leaves : (tables : Tables) (now : ℕ) (job : JobRow) (row : FileRow) → Leaves tables (cancel_row tables now job row)
row_leaves tables now job row = either tables (is_cancellable row) _ _
    (record { out = λ files. refl; attempts = λ file there. attempts_one row.id cancelled (cancelled_attempt CancelledReason) tables.rows file })
    (record { out = λ files. refl; attempts = λ file there. refl })

one_leaves : (tables : Tables) (now : ℕ) (job : JobRow) (row : FileRow) (kind : JobKind) → Leaves tables (cancel_one tables now job row kind)
one_leaves tables now job row Plain = row_leaves tables now job row
one_leaves tables now job row Replica = rows_leave tables now job
one_leaves tables now job row Multihop = rows_leave tables now job

file_leaves : (tables : Tables) (now : ℕ) (job : JobRow) (found : Option FileRow) → Leaves tables (cancel_file tables now job found)
file_leaves tables now job None = record { out = λ files. refl; attempts = λ file there. refl }
file_leaves tables now job (Some row) = either tables (row.job == job.number) _ _ (one_leaves tables now job row job.kind)
    (record { out = λ files. refl; attempts = λ file there. refl })

priority_leaves : (tables : Tables) (now : ℕ) (job : JobRow) (priority : ℕ) → Leaves tables (set_priority tables now job priority)
priority_leaves tables now job priority = either tables (is_settled_job (rows_of_job tables.rows job.number)) _ _
    (record { out = λ files. refl; attempts = λ file there. refl }) (record { out = λ files. refl; attempts = λ file there. refl })

-- a ban, which may cancel the files that wait, and its end
ban_leaves : (tables : Tables) (now : ℕ) (storage : List ℕ) (cancel : Bool) → Leaves tables (ban tables now storage cancel)
ban_leaves tables now storage cancel =
    either tables (is_some (endpoint_at tables.settings storage)) _ _
    (either tables cancel (ban_and_cancel tables now storage) (ban_only tables now storage)
    (record { out = λ files. refl; attempts = λ file there. some_cancelled CancelledReason tables.jobs (waits_at storage) tables.rows file })
    (record { out = λ files. refl; attempts = λ file there. refl }))
    (record { out = λ files. refl; attempts = λ file there. refl })

unban_leaves : (tables : Tables) (now : ℕ) (storage : List ℕ) → Leaves tables (unban tables now storage)
unban_leaves tables now storage =
    either tables (is_banned tables.banned storage) _ _
    (record { out = λ files. refl; attempts = λ file there. refl })
    (record { out = λ files. refl; attempts = λ file there. refl })

-- an expiry, which cancels the files that are overdue
pub expire_leaves : (tables : Tables) (now : ℕ) → Leaves tables (expire tables now)
expire_leaves tables now =
    either tables (list_any (is_overdue tables.jobs now) tables.rows) _ _
    (record { out = λ files. refl; attempts = λ file there. some_cancelled ExpiredReason tables.jobs (is_overdue tables.jobs now) tables.rows file })
    (record { out = λ files. refl; attempts = λ file there. refl })

-- what is done with a job that may be missing
job_leaves : (tables : Tables) (act : JobRow → Outcomes) → ((job : JobRow) → Leaves tables (act job)) → (found : Option JobRow)
    → (came : Outcomes) → came ≡ elim found [ None ↦ Err NoJob | Some job ↦ act job ] → Leaves tables came
job_leaves tables act leaves None came is = subst (Leaves tables) (sym is) (record { out = λ files. refl; attempts = λ file there. refl })
job_leaves tables act leaves (Some job) came is = subst (Leaves tables) (sym is) (leaves job)

-- each command of a request
request_leaves : (tables : Tables) (command : Command) → IsOfRequest command → Leaves tables (step tables command)
request_leaves tables (Restart now settings) of = absurd of
request_leaves tables (Submit now job) of = submit_leaves (option_and_then (number_of_id tables.jobs) job.id) tables (max now tables.moment) job
request_leaves tables (CancelJob now job) of = job_leaves tables (cancel_rows tables (max now tables.moment))
    (rows_leave tables (max now tables.moment)) (job_at tables.jobs job) _ refl
request_leaves tables (CancelFile now job file) of =
    job_leaves tables (λ found. cancel_file tables (max now tables.moment) found (row_at tables.rows file))
    (λ found. file_leaves tables (max now tables.moment) found (row_at tables.rows file)) (job_at tables.jobs job) _ refl
request_leaves tables (SetPriority now job priority) of = job_leaves tables (λ found. set_priority tables (max now tables.moment) found priority)
    (λ found. priority_leaves tables (max now tables.moment) found priority) (job_at tables.jobs job) _ refl
request_leaves tables (Ban now storage cancel) of = ban_leaves tables (max now tables.moment) storage cancel
request_leaves tables (Unban now storage) of = unban_leaves tables (max now tables.moment) storage
request_leaves tables _ of = absurd of

-- the files that are out are as before
pub out_left : (entries : List Entry) (entry : Entry) → Leaves (tables_of entries) (step (tables_of entries) entry.command)
    → out_of_list (entries ++ entry ∷ []) ≡ out_of_list entries
out_left entries entry leaves = out_of_list-last entries entry ∙ leaves.out (out_of_list entries)

pub out_still : (entries : List Entry) (entry : Entry) → IsOfRequest entry.command → out_of_list (entries ++ entry ∷ []) ≡ out_of_list entries
out_still entries entry of = out_left entries entry (request_leaves (tables_of entries) entry.command of)

module _ (formed : (entries : List Entry) → IsLegal entries → AreWellFormed (tables_of entries))
    (outs : (entries : List Entry) → IsLegal entries → AreTheActive (out_of_list entries) (tables_of entries).rows) where
  -- a file that is out has an ACTIVE row
  out_row : (entries : List Entry) → IsLegal entries → (file : ℕ) → 1 ≤ times file (out_of_list entries) → IsActiveAt (tables_of entries).rows file
  out_row entries legal file among = active_found 1 (tables_of entries).rows file (formed entries legal).rows
      (subst (λ n. 1 ≤ n) ((outs entries legal).counts (λ other. other == file)) among)

  -- so it is held at its attempt
  pub held_left : (entries : List Entry) (entry : Entry) (kept : Option Outcome) → IsLegal (entries ++ entry ∷ [])
      → Leaves (tables_of entries) (step (tables_of entries) entry.command) → held_over (entries ++ entry ∷ []) kept ≡ held_over entries kept
  held_left entries entry kept legal leaves =
      let before = tables_of entries in
      let after = tables_of (entries ++ entry ∷ []) in
      ap (held_as after kept) (out_left entries entry leaves)
      ∙ sym (held_as-same before after kept (out_of_list entries) (λ file among.
      let found = out_row entries (legal_front empty_tables entries (entry ∷ []) legal) file among in
      ap (λ t. attempt_of t file) (tables_from-append empty_tables entries (entry ∷ []))
      ∙ leaves.attempts file (subst (λ row. IsSome row) (sym found.at) refl)))

  pub held_still : (entries : List Entry) (entry : Entry) (kept : Option Outcome) → IsLegal (entries ++ entry ∷ []) → IsOfRequest entry.command
      → held_over (entries ++ entry ∷ []) kept ≡ held_over entries kept
  held_still entries entry kept legal of = held_left entries entry kept legal (request_leaves (tables_of entries) entry.command of)

  module _ (orders : (entries more : List Entry) (id : ℕ) (row kept : FileRow) → IsLegal (entries ++ more)
      → row_at (tables_of entries).rows id ≡ Some row → row_at (tables_of (entries ++ more)).rows id ≡ Some kept → IsTrue (is_active kept.state)
      → IsOrderKept (tables_of entries) (tables_of (entries ++ more)) row kept) where
    -- what a copy is asked for, by what is asked of its row
    order_from : CopyOrder → ℕ → Order
    order_from asked file = record {
      source = asked.source;
      dest = asked.dest;
      file = file;
      size = asked.size;
      wanted = asked.wanted;
      overwrite = asked.overwrite;
    }

    -- the copy of a file that is out is still asked for the same
    file_still : (entries : List Entry) (entry : Entry) → IsLegal (entries ++ entry ∷ []) → IsOfRequest entry.command → (file : ℕ) (outcome : Outcome)
        → 1 ≤ times file (out_of_list entries) → copies_of_file (tables_of (entries ++ entry ∷ [])) file outcome
        ≡ copies_of_file (tables_of entries) file outcome
    unfolding order_from
    file_still entries entry legal of file outcome among =
        let before = tables_of entries in
        let after = tables_of (entries ++ entry ∷ []) in
        let was = out_row entries (legal_front empty_tables entries (entry ∷ []) legal) file among in
        let is = out_row (entries ++ entry ∷ []) legal file (subst (λ files. 1 ≤ times file files) (sym (out_still entries entry of)) among) in
        let asked = (orders entries (entry ∷ []) file was.row is.row legal was.at is.at is.active).order in
        let copy : Order → Copy = λ order. record { order = order; outcome = outcome } in
        ap (λ row. option_to_list (option_map (λ r. copy (order_in after r)) row)) is.at
        ∙ ap (λ order. copy order ∷ []) (ap (λ a. order_from a is.row.id) asked
        ∙ ap (order_from (order_asked before.jobs was.row)) (row_at-id after.rows file is.row is.at ∙ sym (row_at-id before.rows file was.row was.at)))
        ∙ sym (ap (λ row. option_to_list (option_map (λ r. copy (order_in before r)) row)) was.at)

    -- so are the copies that are kept
    pub copies_still : (entries : List Entry) (entry : Entry) (kept : Option Outcome) → IsLegal (entries ++ entry ∷ []) → IsOfRequest entry.command
        → copies_kept (tables_of (entries ++ entry ∷ [])) (held_over entries kept) ≡ copies_kept (tables_of entries) (held_over entries kept)
    copies_still entries entry kept legal of = by kept (out_of_list entries) refl
      where
        by : (k : Option Outcome) (files : List ℕ) → out_of_list entries ≡ files
            → copies_kept (tables_of (entries ++ entry ∷ [])) (held_as (tables_of entries) k files)
            ≡ copies_kept (tables_of entries) (held_as (tables_of entries) k files)
        by k [] out = refl
        by None (file ∷ files) out = copies_kept-none (tables_of (entries ++ entry ∷ [])) (tables_of entries) files
            ∙ sym (copies_kept-none (tables_of entries) (tables_of entries) files)
        by (Some outcome) (file ∷ files) out =
            let head = sum_by-cons (λ other. cond {A = ℕ} (other == file) 1 0) file files in
            let one : cond {A = ℕ} (file == file) 1 0 ≡ 1 = ap (λ b. cond {A = ℕ} b 1 0) (eq-eqb file file refl) in
            let among : 1 ≤ times file (out_of_list entries) = subst (λ all. 1 ≤ times file all) (sym out) (omega (arith, head, one)) in
            ap (λ first. first ++ copies_kept (tables_of (entries ++ entry ∷ [])) (held_as (tables_of entries) None files))
            (file_still entries entry legal of file outcome among)
            ∙ ap (λ rest. copies_of_file (tables_of entries) file outcome ++ rest)
            (copies_kept-none (tables_of (entries ++ entry ∷ [])) (tables_of entries) files
            ∙ sym (copies_kept-none (tables_of entries) (tables_of entries) files))

-- whatever list keep and bench are over, they are over it with an accepted command of a request
pub over_accepted : {D : Type 0} (formed : (entries : List Entry) → IsLegal entries → AreWellFormed (tables_of entries))
    (outs : (entries : List Entry) → IsLegal entries → AreTheActive (out_of_list entries) (tables_of entries).rows) (state : D → DiskState)
    (old new : KeepData D) (bench : BenchData) (entry : Entry) (answer : Answer) (entries : List Entry) → IsOfRequest entry.command
    → Accepts state old new entry answer → IsWorkedOver old bench entries → IsWorkedOver new bench (entries ++ entry ∷ [])
over_accepted formed outs state old new bench entry answer entries of done over =
    let list = list_more state old new entry answer done entries over.list in
    record { list = list; held = over.held ∙ sym (held_still formed outs entries entry (kept_of bench.held) list.legal of) }

-- and over the same list where nothing was accepted
pub over_same : {D : Type 0} (state : D → DiskState) (old new : KeepData D) (bench : BenchData) (entries : List Entry) → KeepsList state old new
    → IsWorkedOver old bench entries → IsWorkedOver new bench entries
over_same state old new bench entries keeps over = record { list = list_same state old new entries keeps over.list; held = over.held }

-- an empty bench is over what a start leaves
pub over_started : {D : Type 0} (keep : KeepData D) (bench : BenchData) (opening : List Entry) (now : ℕ) (settings : SettingsData) → IsLegal opening
    → keep.tables ≡ tables_of (restarted opening now settings) → keep.commands ≡ length opening + 1 → bench.held ≡ []
    → IsWorkedOver keep bench (restarted opening now settings)
over_started keep bench opening now settings legal folded counted none =
    let entry = restart_at now settings in
    record {
      list = record {
        folded = folded;
        legal = legal_more empty_tables opening entry legal tt;
        counted = omega (arith, counted, length-append opening (entry ∷ []));
      };
      held = none ∙ sym (ap (held_as (tables_of (restarted opening now settings)) (kept_of bench.held)) (out_of_list-last opening entry));
    }
