-- What holds of looks behind looks: what is known of a watch later passes on, since a cancel that was asked stays so.
use Rattle.std.specs.Prelude.{◌≡◌, ℕ, ◌+◌, ◌==◌, ◌&&◌, ◌||◌, not, max, nat_lt, Bool, true, false, cond, List, [], ◌∷◌, ◌++◌, map, length, Option, Some, None, is_some, option_and_then, Err}
use Rattle.std.specs.List.{list_any}
use Rattle.std.specs.Option.{option_map_or}
use Rattle.std.proofs.Common.{refl, sym, ap, ◌∙◌, subst, append_assoc, append-nil, arith}
use mathlib.Core.Logic.{dite}
use native.Mathlib.Decide.{dec_le}
use Rattle.fts_tables.specs.SettingsData.{SettingsData}
use Rattle.fts_tables.specs.JobData.{JobData}
use Rattle.fts_tables.specs.Tables.{Tables, empty_tables, is_active, is_submitted, is_not_used, is_finished, is_failed, number_of_id, row_at, job_at, rows_of_job}
use Rattle.fts_tables.specs.Limits.{endpoint_at, is_banned}
use Rattle.fts_tables.specs.Choice.{next_alternative, pick}
use Rattle.fts_tables.specs.Moves.{change_row, submitted, canceled, canceled_for, claimed, reported, reported_failure, reported_without_cancel, followed, followed_finish, followed_failure, submit_chosen, submit_if_not_used, cancelled, cancelled_for, is_cancellable, is_retryable, is_settled_job, rows_of_new}
use Rattle.fts_tables.specs.Waits.{is_overdue, waits_at, goes_with, rows_cancelled}
use Rattle.fts_tables.specs.Step.{Outcomes, step, restart, released, claim, report, report_of, cancel_rows, cancel_row, cancel_one, cancel_file, set_priority, submit_by, ban, ban_only, ban_and_cancel, unban, expire}
use Rattle.fts_tables.specs.History.{tables_after, tables_from, tables_of}
use Rattle.fts_tables.specs.declared.limits.TheConstants.{MAX_JOBS, MAX_ROWS}
use Rattle.fts_tables.specs.declared.rows.FileRow.{FileRow}
use Rattle.fts_tables.specs.declared.rows.JobRow.{JobRow}
use Rattle.fts_tables.specs.declared.rows.JobKind.{JobKind}
use Rattle.fts_tables.specs.declared.rows.JobKind.TheVariants.{Plain, Replica, Multihop}
use Rattle.fts_tables.specs.declared.rows.Reason.{Reason}
use Rattle.fts_tables.specs.declared.rows.Reason.TheVariants as reason
use Rattle.fts_tables.specs.declared.rows.Outcome.{Outcome}
use Rattle.fts_tables.specs.declared.rows.Outcome.TheVariants.{Verified, SourceMissing, DestinationExists, SourceSize, SourceDigest, ReadBackDiffers, StoreFailed, Stopped}
use Rattle.fts_tables.specs.declared.commands.Entry.{Entry}
use Rattle.fts_tables.specs.declared.commands.Command.{Command}
use Rattle.fts_tables.specs.declared.commands.Command.TheVariants.{Restart, Submit, CancelJob, CancelFile, SetPriority, Claim, Report, Ban, Unban, Expire}
use Rattle.fts_tables.specs.declared.commands.Refusal.{Refusal}
use Rattle.fts_tables.specs.declared.commands.Refusal.TheVariants.{NoJob, NoFile, Duplicate, JobsFull, RowsFull, Idle, Stale, Unchanged, NoStorage, NotBanned}
use Rattle.fts_turnstile.specs.declared.turn.LoggedTurn.{LoggedTurn}
use Rattle.fts_turnstile.specs.History.{items_of, shown_after}
use Rattle.fts_turnstile.specs.Passes.{PassView, IsSame, seen_list}
use Rattle.fts_shop.specs.Within.{is_cancel_asked}
use Rattle.fts_shop.specs.Looking.{looks_in, Unasked, LeaveDoubt, LeaveLanes, NoneOf, IsWatched}

-- whether cancel was asked of the row that is found
abbrev asked_of : Option FileRow → Bool
asked_of found = option_map_or (λ (row : FileRow). row.cancel_asked) found false

-- a row is the same file's, and a cancel that was asked of it stays asked
record KeepsAsked (before after : FileRow) : Type 0 where
  id : after.id ≡ before.id
  asked : before.cancel_asked ≡ true → after.cancel_asked ≡ true

-- a row as it was
kept_asked : (row : FileRow) → KeepsAsked row row
kept_asked row = record { id = refl; asked = λ asked. asked }

-- one of two rows
either_asked : (first : Bool) (row one other : FileRow) → KeepsAsked row one → KeepsAsked row other → KeepsAsked row (cond first one other)
either_asked true row one other keeps_one keeps_other = keeps_one
either_asked false row one other keeps_one keeps_other = keeps_other

-- rows that were all changed so
asked_map : (change : FileRow → FileRow) → ((row : FileRow) → KeepsAsked row (change row)) → (rows : List FileRow) (file : ℕ)
    → asked_of (row_at rows file) ≡ true → asked_of (row_at (map change rows) file) ≡ true
asked_map change keeps [] file asked = asked
asked_map change keeps (row ∷ rows) file asked =
    subst (λ id. asked_of (cond (id == file) (Some (change row)) (row_at (map change rows) file)) ≡ true) (sym (keeps row).id)
    (by_head (asked_map change keeps rows file) (row.id == file) asked)
  where
    by_head : (asked_of (row_at rows file) ≡ true → asked_of (row_at (map change rows) file) ≡ true) → (here : Bool)
        → asked_of (cond here (Some row) (row_at rows file)) ≡ true → asked_of (cond here (Some (change row)) (row_at (map change rows) file)) ≡ true
    by_head behind true asked_here = (keeps row).asked asked_here
    by_head behind false asked_behind = behind asked_behind

-- one row was changed so
asked_one : (id : ℕ) (change : FileRow → FileRow) → ((row : FileRow) → KeepsAsked row (change row)) → (rows : List FileRow) (file : ℕ)
    → asked_of (row_at rows file) ≡ true → asked_of (row_at (change_row id change rows) file) ≡ true
asked_one id change keeps rows file asked =
    asked_map (λ row. cond (row.id == id) (change row) row)
    (λ row. either_asked (row.id == id) row (change row) row (keeps row) (kept_asked row)) rows file asked

-- rows behind these
asked_more : (rows more : List FileRow) (file : ℕ) → asked_of (row_at rows file) ≡ true → asked_of (row_at (rows ++ more) file) ≡ true
asked_more [] more file asked = absurd cc
asked_more (row ∷ rows) more file asked = by_head (asked_more rows more file) (row.id == file) asked
  where
    by_head : (asked_of (row_at rows file) ≡ true → asked_of (row_at (rows ++ more) file) ≡ true) → (here : Bool)
        → asked_of (cond here (Some row) (row_at rows file)) ≡ true → asked_of (cond here (Some row) (row_at (rows ++ more) file)) ≡ true
    by_head behind true asked_here = asked_here
    by_head behind false asked_behind = behind asked_behind

-- a failed copy leaves what was asked
failure_asked : (job : JobRow) (now : ℕ) (outcome : Outcome) (row : FileRow) → KeepsAsked row (reported_failure job now outcome row)
failure_asked job now outcome row =
    either_asked (is_retryable outcome && nat_lt row.retries job.retry) row _ _ (record { id = refl; asked = λ asked. asked })
    (record { id = refl; asked = λ asked. asked })

-- so does every end of one
ended_asked : (job : JobRow) (now : ℕ) (outcome : Outcome) (row : FileRow) → KeepsAsked row (reported_without_cancel job now outcome row)
ended_asked job now (Verified size digest) row = record { id = refl; asked = λ asked. asked }
ended_asked job now other row = failure_asked job now other row

-- and a report
reported_asked : (job : JobRow) (now : ℕ) (outcome : Outcome) (row : FileRow) → KeepsAsked row (reported job now outcome row)
reported_asked job now outcome row =
    either_asked row.cancel_asked row (canceled row) (reported_without_cancel job now outcome row) (record { id = refl; asked = λ asked. asked })
    (ended_asked job now outcome row)

-- a row that begins to wait
woken_asked : (id : ℕ) (rows : List FileRow) (file : ℕ) → asked_of (row_at rows file) ≡ true → asked_of (row_at (submit_if_not_used id rows) file) ≡ true
woken_asked id rows file asked =
    asked_one id (λ row. cond (is_not_used row.state) (submitted row) row)
    (λ row. either_asked (is_not_used row.state) row (submitted row) row (record { id = refl; asked = λ is. is }) (kept_asked row)) rows file asked

chosen_asked : (chosen : Option FileRow) (rows : List FileRow) (file : ℕ) → asked_of (row_at rows file) ≡ true
    → asked_of (row_at (submit_chosen chosen rows) file) ≡ true
chosen_asked None rows file asked = asked
chosen_asked (Some row) rows file asked = woken_asked row.id rows file asked

finish_asked : (kind : JobKind) (job : JobRow) (row : FileRow) (rows : List FileRow) (file : ℕ) → asked_of (row_at rows file) ≡ true
    → asked_of (row_at (followed_finish kind job row rows) file) ≡ true
finish_asked Plain job row rows file asked = asked
finish_asked Replica job row rows file asked = asked
finish_asked Multihop job row rows file asked = by_last (nat_lt (row.id + 1) (job.first + job.count))
  where
    by_last : (answer : Bool) → asked_of (row_at (cond answer (submit_if_not_used (row.id + 1) rows) rows) file) ≡ true
    by_last true = woken_asked (row.id + 1) rows file asked
    by_last false = asked

failed_asked : (kind : JobKind) (job : JobRow) (rows : List FileRow) (file : ℕ) → asked_of (row_at rows file) ≡ true
    → asked_of (row_at (followed_failure kind job rows) file) ≡ true
failed_asked Replica job rows file asked = chosen_asked (next_alternative job.strategy rows (rows_of_job rows job.number)) rows file asked
failed_asked Plain job rows file asked = asked
failed_asked Multihop job rows file asked = asked

-- what follows a report
followed_asked : (job : JobRow) (row : FileRow) (rows : List FileRow) (file : ℕ) → asked_of (row_at rows file) ≡ true
    → asked_of (row_at (followed job row rows) file) ≡ true
followed_asked job row rows file asked = by_state (is_finished row.state) (is_failed row.state)
  where
    by_state : (finished failed : Bool)
        → asked_of (row_at (cond finished (followed_finish job.kind job row rows) (cond failed (followed_failure job.kind job rows) rows)) file) ≡ true
    by_state true failed = finish_asked job.kind job row rows file asked
    by_state false true = failed_asked job.kind job rows file asked
    by_state false false = asked

-- behind what comes of a step a cancel that was asked stays so
abbrev StaysAsked : Tables → Outcomes → Type 0
StaysAsked tables came = (file : ℕ) → is_cancel_asked tables file ≡ true → is_cancel_asked (tables_after tables came) file ≡ true

refused_asked : (tables : Tables) (refusal : Refusal) → StaysAsked tables (Err refusal)
refused_asked tables refusal file asked = asked

either_came : (tables : Tables) (first : Bool) (one other : Outcomes) → StaysAsked tables one → StaysAsked tables other
    → StaysAsked tables (cond first one other)
either_came tables true one other keeps_one keeps_other = keeps_one
either_came tables false one other keeps_one keeps_other = keeps_other

on_job_asked : (tables : Tables) (found : Option JobRow) (act : JobRow → Outcomes) → ((job : JobRow) → StaysAsked tables (act job))
    → StaysAsked tables (elim found [ None ↦ Err NoJob | Some job ↦ act job ])
on_job_asked tables None act each = refused_asked tables NoJob
on_job_asked tables (Some job) act each = each job

restart_asked : (tables : Tables) (now : ℕ) (settings : SettingsData) → StaysAsked tables (restart tables now settings)
restart_asked tables now settings file asked =
    asked_map released
    (λ row. either_asked (is_active row.state) row (cond row.cancel_asked (canceled row) (submitted row)) row
    (either_asked row.cancel_asked row (canceled row) (submitted row) (record { id = refl; asked = λ is. is }) (record { id = refl; asked = λ is. is }))
    (kept_asked row)) tables.rows file asked

submit_asked : (tables : Tables) (now : ℕ) (new : JobData) (found : Option ℕ) → StaysAsked tables (submit_by found tables now new)
submit_asked tables now new (Some number) = refused_asked tables (Duplicate number)
submit_asked tables now new None =
    either_came tables (nat_lt (length tables.jobs) MAX_JOBS) _ _
    (either_came tables (nat_lt MAX_ROWS (length tables.rows + length new.files)) _ _ (refused_asked tables (RowsFull (length tables.rows)))
    (λ file asked. asked_more tables.rows (rows_of_new tables.rows (length tables.jobs + 1) new) file asked))
    (refused_asked tables (JobsFull (length tables.jobs)))

cancelled_asked : (why : Reason) (row : FileRow) → KeepsAsked row (cancelled_for why row)
cancelled_asked why row =
    either_asked (is_submitted row.state || is_not_used row.state) row (canceled_for why row) _ (record { id = refl; asked = λ is. is })
    (either_asked (is_active row.state) row (record row { cancel_asked = true }) row (record { id = refl; asked = λ is. refl }) (kept_asked row))

cancel_rows_asked : (tables : Tables) (now : ℕ) (job : JobRow) → StaysAsked tables (cancel_rows tables now job)
cancel_rows_asked tables now job =
    let of_job = rows_of_job tables.rows job.number in
    either_came tables (not (is_settled_job of_job) && list_any is_cancellable of_job) _ _
    (λ file asked. asked_map (λ row. cond (row.job == job.number) (cancelled row) row)
    (λ row. either_asked (row.job == job.number) row (cancelled row) row (cancelled_asked reason.Cancelled row) (kept_asked row)) tables.rows file asked)
    (refused_asked tables (Unchanged job.number))

cancel_row_asked : (tables : Tables) (now : ℕ) (job : JobRow) (row : FileRow) → StaysAsked tables (cancel_row tables now job row)
cancel_row_asked tables now job row =
    either_came tables (is_cancellable row) _ _ (λ file asked. asked_one row.id cancelled (cancelled_asked reason.Cancelled) tables.rows file asked)
    (refused_asked tables (Unchanged job.number))

cancel_one_asked : (tables : Tables) (now : ℕ) (job : JobRow) (row : FileRow) (kind : JobKind) → StaysAsked tables (cancel_one tables now job row kind)
cancel_one_asked tables now job row Plain = cancel_row_asked tables now job row
cancel_one_asked tables now job row Replica = cancel_rows_asked tables now job
cancel_one_asked tables now job row Multihop = cancel_rows_asked tables now job

cancel_file_asked : (tables : Tables) (now : ℕ) (job : JobRow) (found : Option FileRow) → StaysAsked tables (cancel_file tables now job found)
cancel_file_asked tables now job None = refused_asked tables NoFile
cancel_file_asked tables now job (Some row) =
    either_came tables (row.job == job.number) _ _ (cancel_one_asked tables now job row job.kind) (refused_asked tables NoFile)

set_priority_asked : (tables : Tables) (now : ℕ) (job : JobRow) (priority : ℕ) → StaysAsked tables (set_priority tables now job priority)
set_priority_asked tables now job priority =
    either_came tables (is_settled_job (rows_of_job tables.rows job.number)) _ _ (refused_asked tables (Unchanged job.number)) (λ file asked. asked)

claim_asked : (tables : Tables) (now : ℕ) (found : Option FileRow) → StaysAsked tables (claim tables now found)
claim_asked tables now None = refused_asked tables Idle
claim_asked tables now (Some row) = λ file asked. asked_one row.id claimed (λ other. record { id = refl; asked = λ is. is }) tables.rows file asked

report_of_asked : (tables : Tables) (now : ℕ) (row : FileRow) (attempt : ℕ) (outcome : Outcome) (found : Option JobRow)
    → StaysAsked tables (report_of tables now row attempt outcome found)
report_of_asked tables now row attempt outcome None = refused_asked tables NoFile
report_of_asked tables now row attempt outcome (Some job) =
    either_came tables (is_active row.state && (row.attempt == attempt)) _ _
    (λ file asked. followed_asked job (reported job now outcome row) (change_row row.id (reported job now outcome) tables.rows) file
    (asked_one row.id (reported job now outcome) (reported_asked job now outcome) tables.rows file asked))
    (refused_asked tables (Stale row.state row.attempt))

report_asked : (tables : Tables) (now : ℕ) (found : Option FileRow) (attempt : ℕ) (outcome : Outcome)
    → StaysAsked tables (report tables now found attempt outcome)
report_asked tables now None attempt outcome = refused_asked tables NoFile
report_asked tables now (Some row) attempt outcome = report_of_asked tables now row attempt outcome (job_at tables.jobs row.job)

-- rows that were cancelled by a test, for whatever reason
some_cancelled_asked : (why : Reason) (tables : Tables) (test : FileRow → Bool) (file : ℕ) → is_cancel_asked tables file ≡ true
    → asked_of (row_at (rows_cancelled why tables.jobs test tables.rows) file) ≡ true
some_cancelled_asked why tables test file asked =
    asked_map (λ row. cond (goes_with tables.jobs tables.rows test row) (cancelled_for why row) row)
    (λ row. either_asked (goes_with tables.jobs tables.rows test row) row (cancelled_for why row) row (cancelled_asked why row) (kept_asked row))
    tables.rows file asked

ban_asked : (tables : Tables) (now : ℕ) (storage : List ℕ) (cancel : Bool) → StaysAsked tables (ban tables now storage cancel)
ban_asked tables now storage cancel =
    either_came tables (is_some (endpoint_at tables.settings storage)) _ _
    (either_came tables cancel (ban_and_cancel tables now storage) (ban_only tables now storage)
    (λ file asked. some_cancelled_asked reason.Cancelled tables (waits_at storage) file asked) (λ file asked. asked))
    (refused_asked tables NoStorage)

unban_asked : (tables : Tables) (now : ℕ) (storage : List ℕ) → StaysAsked tables (unban tables now storage)
unban_asked tables now storage = either_came tables (is_banned tables.banned storage) _ _ (λ file asked. asked) (refused_asked tables NotBanned)

expire_asked : (tables : Tables) (now : ℕ) → StaysAsked tables (expire tables now)
expire_asked tables now =
    either_came tables (list_any (is_overdue tables.jobs now) tables.rows) _ _
    (λ file asked. some_cancelled_asked reason.Expired tables (is_overdue tables.jobs now) file asked) (refused_asked tables Idle)

step_asked : (tables : Tables) (command : Command) → StaysAsked tables (step tables command)
step_asked tables (Restart now settings) = restart_asked tables (max now tables.moment) settings
step_asked tables (Submit now job) = submit_asked tables (max now tables.moment) job (option_and_then (number_of_id tables.jobs) job.id)
step_asked tables (CancelJob now job) = on_job_asked tables (job_at tables.jobs job) (cancel_rows tables (max now tables.moment))
    (cancel_rows_asked tables (max now tables.moment))
step_asked tables (CancelFile now job file) =
    on_job_asked tables (job_at tables.jobs job) (λ found. cancel_file tables (max now tables.moment) found (row_at tables.rows file))
    (λ found. cancel_file_asked tables (max now tables.moment) found (row_at tables.rows file))
step_asked tables (SetPriority now job priority) =
    on_job_asked tables (job_at tables.jobs job) (λ found. set_priority tables (max now tables.moment) found priority)
    (λ found. set_priority_asked tables (max now tables.moment) found priority)
step_asked tables (Claim now word) = claim_asked tables (max now tables.moment) (pick tables (max now tables.moment) word)
step_asked tables (Report now file attempt outcome) = report_asked tables (max now tables.moment) (row_at tables.rows file) attempt outcome
step_asked tables (Ban now storage cancel) = ban_asked tables (max now tables.moment) storage cancel
step_asked tables (Unban now storage) = unban_asked tables (max now tables.moment) storage
step_asked tables (Expire now) = expire_asked tables (max now tables.moment)

-- a cancel that was asked stays so behind any entries
asked_from : (tables : Tables) (entries : List Entry) (file : ℕ) → is_cancel_asked tables file ≡ true → is_cancel_asked (tables_from tables entries) file ≡ true
asked_from tables [] file asked = asked
asked_from tables (entry ∷ entries) file asked =
    asked_from (tables_after tables (step tables entry.command)) entries file (step_asked tables entry.command file asked)

-- tables behind entries, and behind those that follow
tables_on : (tables : Tables) (entries more : List Entry) → tables_from tables (entries ++ more) ≡ tables_from (tables_from tables entries) more
tables_on tables [] more = refl
tables_on tables (entry ∷ entries) more = tables_on (tables_after tables (step tables entry.command)) entries more

pub asked_stays : (entries more : List Entry) (file : ℕ) → is_cancel_asked (tables_of entries) file ≡ true
    → is_cancel_asked (tables_of (entries ++ more)) file ≡ true
asked_stays entries more file asked =
    subst (λ tables. is_cancel_asked tables file ≡ true) (sym (tables_on empty_tables entries more)) (asked_from (tables_of entries) more file asked)

-- the items of turns, and of those that follow
pub items_on : (turns more : List (LoggedTurn Entry)) → items_of (turns ++ more) ≡ items_of turns ++ items_of more
items_on [] more = refl
items_on (turn ∷ turns) more = ap (λ rest. turn.items ++ rest) (items_on turns more) ∙ sym (append_assoc turn.items (items_of turns) (items_of more))

-- what was seen, and what follows
pub seen_on : (old new : PassView Entry) (since : List (LoggedTurn Entry)) → new.opening ≡ old.opening → new.seen ≡ old.seen ++ since
    → seen_list new ≡ seen_list old ++ items_of since
seen_on old new since opening seen =
    (λ i. opening i ++ items_of (seen i)) ∙ ap (λ rest. old.opening ++ rest) (items_on old.seen since)
    ∙ sym (append_assoc old.opening (items_of old.seen) (items_of since))

-- looks, and looks behind them
pub looks_on : (number : ℕ) (turns more : List (LoggedTurn Entry)) → looks_in number (turns ++ more) ≡ looks_in number turns + looks_in number more
looks_on number [] more = omega arith
looks_on number (turn ∷ turns) more = omega (arith, looks_on number turns more)

pub unasked_on : (number file : ℕ) (entries : List Entry) (turns more : List (LoggedTurn Entry)) → Unasked number file entries turns
    → Unasked number file (entries ++ items_of turns) more → Unasked number file entries (turns ++ more)
unasked_on number file entries [] more one two = subst (λ list. Unasked number file list more) (append-nil entries) two
unasked_on number file entries (turn ∷ turns) more one two = (
  one.0,
  unasked_on number file (entries ++ turn.items) turns more one.1
      (subst (λ list. Unasked number file list more) (sym (append_assoc entries turn.items (items_of turns))) two),
)

pub shown_on : (first : List ℕ) (turns more : List (LoggedTurn Entry)) → shown_after first (turns ++ more) ≡ shown_after (shown_after first turns) more
shown_on first [] more = refl
shown_on first (turn ∷ turns) more = shown_on turn.shows turns more

pub lanes_on : (number : ℕ) (shown : List ℕ) (turns more : List (LoggedTurn Entry)) → LeaveLanes number shown turns
    → LeaveLanes number (shown_after shown turns) more → LeaveLanes number shown (turns ++ more)
lanes_on number shown [] more one two = two
lanes_on number shown (turn ∷ turns) more one two = (one.0, lanes_on number turn.shows turns more one.1 two)

pub doubt_on : (number : ℕ) (shown : List ℕ) (turns more : List (LoggedTurn Entry)) → LeaveDoubt number shown turns
    → LeaveDoubt number (shown_after shown turns) more → LeaveDoubt number shown (turns ++ more)
doubt_on number shown [] more one two = two
doubt_on number shown (turn ∷ turns) more one two = (one.0, doubt_on number turn.shows turns more one.1 two)

pub none_on : (writer : ℕ) (entries more : List Entry) → NoneOf writer entries → NoneOf writer more → NoneOf writer (entries ++ more)
none_on writer [] more one two = two
none_on writer (entry ∷ entries) more one two = (one.0, none_on writer entries more one.1 two)

-- a pass is the same as itself
pub same_pass : (pass : PassView Entry) → IsSame pass pass
same_pass pass = (refl, refl, refl, refl, refl, refl)

-- and as one that is the same as one that is the same
pub same_on : (one two three : PassView Entry) → IsSame one two → IsSame two three → IsSame one three
same_on one two three first second =
    (second.0 ∙ first.0, second.1 ∙ first.1, second.2 ∙ first.2, second.3 ∙ first.3, second.4 ∙ first.4, second.5 ∙ first.5)

-- what is known of a watch holds of itself
pub watched_itself : (file : ℕ) (pass : PassView Entry) (askings noes : ℕ) → IsWatched file pass pass askings askings noes noes
watched_itself file pass askings noes = record {
  same = same_pass pass;
  only_looks = refl;
  since = [];
  seen = sym (append-nil pass.seen);
  others = tt;
  lanes = tt;
  doubt = tt;
  looks = omega arith;
  no_fewer = omega arith;
  unasked = λ same low. tt;
  asked = λ rose. absurd (omega (arith, rose));
}

-- and passes on
pub watched_on : (file other : ℕ) (one two three : PassView Entry) (a b c n m k : ℕ) → other ≡ file → IsWatched file one two a b n m
    → IsWatched other two three b c m k → IsWatched file one three a c n k
watched_on file other one two three a b c n m k is_file first behind =
    let second = subst (λ f. IsWatched f two three b c m k) is_file behind in
    let number : two.number ≡ one.number = first.same.3 in
    let opening : two.opening ≡ one.opening = first.same.1 in
    let list : seen_list two ≡ seen_list one ++ items_of first.since = seen_on one two first.since opening first.seen in
    record {
      same = same_on one two three first.same second.same;
      only_looks = second.only_looks ∙ first.only_looks;
      since = first.since ++ second.since;
      seen = second.seen ∙ ap (λ turns. turns ++ second.since) first.seen ∙ append_assoc one.seen first.since second.since;
      others = subst (λ list. NoneOf one.number list) (sym (items_on first.since second.since))
          (none_on one.number (items_of first.since) (items_of second.since) first.others (subst (λ n. NoneOf n (items_of second.since)) number second.others));
      lanes = lanes_on one.number (shown_after one.opening_shows one.seen) first.since second.since first.lanes
          (subst (λ shown. LeaveLanes one.number shown second.since)
          ((λ i. shown_after (first.same.2 i) (first.seen i)) ∙ shown_on one.opening_shows one.seen first.since)
          (subst (λ n. LeaveLanes n (shown_after two.opening_shows two.seen) second.since) number second.lanes));
      doubt = doubt_on one.number (shown_after one.opening_shows one.seen) first.since second.since first.doubt
          (subst (λ shown. LeaveDoubt one.number shown second.since)
          ((λ i. shown_after (first.same.2 i) (first.seen i)) ∙ shown_on one.opening_shows one.seen first.since)
          (subst (λ n. LeaveDoubt n (shown_after two.opening_shows two.seen) second.since) number second.doubt));
      looks = omega (
        arith,
        first.looks,
        second.looks,
        looks_on one.number first.since second.since,
        ap (λ n. looks_in n second.since) number,
      );
      no_fewer = omega (arith, first.no_fewer, second.no_fewer);
      unasked = λ same low.
          let still : m ≡ n = omega (arith, first.no_fewer, second.no_fewer, same) in
          unasked_on one.number file (seen_list one) first.since second.since (first.unasked still low)
          (subst (λ list. Unasked one.number file list second.since) list
          (subst (λ n. Unasked n file (seen_list two) second.since) number
          (second.unasked (omega (arith, same, still)) (omega (arith, low, still)))));
      asked = λ rose. dite (dec_le m n)
          (λ le. second.asked (omega (arith, le, rose)))
          (λ more.
          subst (λ list. is_cancel_asked (tables_of list) file ≡ true)
          (sym (seen_on two three second.since second.same.1 second.seen))
          (asked_stays (seen_list two) (items_of second.since) file (first.asked (omega arith))));
    }
