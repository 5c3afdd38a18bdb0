-- The attempts at which files stand: a report leaves all of them, a claim raises that of its file alone.
use Rattle.std.proofs.Common.{◌≡◌, ◌≢◌, refl, sym, ap, ◌∙◌, ℕ, ◌+◌, Bool, true, false, cond, List, [], ◌∷◌, map, Option, Some, None}
use Rattle.std.specs.Prelude.{◌==◌, ◌&&◌, nat_lt}
use Rattle.std.specs.Option.{option_map_or}
use Rattle.std.proofs.lemmas.Bool.{eqb-true, ne_eqb}
use Rattle.fts_tables.specs.Tables.{row_at, is_not_used, is_finished, is_failed, rows_of_job}
use Rattle.fts_tables.specs.Choice.{next_alternative}
use Rattle.fts_tables.specs.Moves.{change_row, submitted, canceled, claimed, is_retryable, reported_failure, reported_without_cancel, reported, submit_if_not_used, submit_chosen, followed_finish, followed_failure, followed}
use Rattle.fts_tables.specs.declared.rows.FileRow.{FileRow}
use Rattle.fts_tables.specs.declared.rows.JobRow.{JobRow}
use Rattle.fts_tables.specs.declared.rows.JobKind.{JobKind}
use Rattle.fts_tables.specs.declared.rows.JobKind.TheVariants.{Plain, Replica, Multihop}
use Rattle.fts_tables.specs.declared.rows.Outcome.{Outcome}
use Rattle.fts_tables.specs.declared.rows.Outcome.TheVariants.{Verified, SourceMissing, DestinationExists, SourceSize, SourceDigest, ReadBackDiffers, StoreFailed, Stopped}

-- the attempt at which a file stands among these rows
abbrev pub attempt_among : List FileRow → ℕ → ℕ
attempt_among rows file = option_map_or (λ (row : FileRow). row.attempt) (row_at rows file) 0

-- a row is the same file's, at the same attempt
pub record IsSameAttempt (before after : FileRow) : Type 0 where
  pub id : after.id ≡ before.id
  pub attempt : after.attempt ≡ before.attempt

-- a row as it was
pub same_attempt : (row : FileRow) → IsSameAttempt row row
same_attempt row = record { id = refl; attempt = refl }

-- one of two
pub either_attempt : (first : Bool) (row one other : FileRow) → IsSameAttempt row one → IsSameAttempt row other → IsSameAttempt row (cond first one other)
either_attempt true row one other ok_one ok_other = ok_one
either_attempt false row one other ok_one ok_other = ok_other

-- the attempt of the row that is found
of_found : Option FileRow → ℕ
of_found found = option_map_or (λ (row : FileRow). row.attempt) found 0

-- rows that were all changed, each at its attempt
pub attempts_map : (change : FileRow → FileRow) → ((row : FileRow) → IsSameAttempt row (change row)) → (rows : List FileRow) (file : ℕ)
    → attempt_among (map change rows) file ≡ attempt_among rows file
attempts_map change same [] file = refl
attempts_map change same (row ∷ rows) file =
    ap (λ id. option_map_or (λ (r : FileRow). r.attempt) (cond (id == file) (Some (change row)) (row_at (map change rows) file)) 0) (same row).id
    ∙ by_head (attempts_map change same rows file) (row.id == file)
  where
    by_head : attempt_among (map change rows) file ≡ attempt_among rows file → (answer : Bool)
        → option_map_or (λ (r : FileRow). r.attempt) (cond answer (Some (change row)) (row_at (map change rows) file)) 0
        ≡ option_map_or (λ (r : FileRow). r.attempt) (cond answer (Some row) (row_at rows file)) 0
    by_head behind true = (same row).attempt
    by_head behind false = behind

-- one row was changed at its attempt
pub attempts_one : (id : ℕ) (change : FileRow → FileRow) → ((row : FileRow) → IsSameAttempt row (change row)) → (rows : List FileRow) (file : ℕ)
    → attempt_among (change_row id change rows) file ≡ attempt_among rows file
attempts_one id change same rows file =
    attempts_map (λ row. cond (row.id == id) (change row) row) (λ row. either_attempt (row.id == id) row (change row) row (same row)
    (same_attempt row)) rows file

-- a failed copy leaves the attempt
failure_attempt : (job : JobRow) (now : ℕ) (outcome : Outcome) (row : FileRow) → IsSameAttempt row (reported_failure job now outcome row)
failure_attempt job now outcome row =
    either_attempt (is_retryable outcome && nat_lt row.retries job.retry) row _ _ (record { id = refl; attempt = refl })
    (record { id = refl; attempt = refl })

-- so does every end of one
ended_attempt : (job : JobRow) (now : ℕ) (outcome : Outcome) (row : FileRow) → IsSameAttempt row (reported_without_cancel job now outcome row)
ended_attempt job now (Verified size digest) row = record { id = refl; attempt = refl }
ended_attempt job now other row = failure_attempt job now other row

-- and a report, where a cancellation was asked too
reported_attempt : (job : JobRow) (now : ℕ) (outcome : Outcome) (row : FileRow) → IsSameAttempt row (reported job now outcome row)
reported_attempt job now outcome row =
    either_attempt row.cancel_asked row (canceled row) (reported_without_cancel job now outcome row) (record { id = refl; attempt = refl })
    (ended_attempt job now outcome row)

-- a row that begins to wait
woken_attempts : (id : ℕ) (rows : List FileRow) (file : ℕ) → attempt_among (submit_if_not_used id rows) file ≡ attempt_among rows file
woken_attempts id rows file =
    attempts_one id (λ row. cond (is_not_used row.state) (submitted row) row)
    (λ row. either_attempt (is_not_used row.state) row (submitted row) row (record { id = refl; attempt = refl }) (same_attempt row)) rows file

chosen_attempts : (chosen : Option FileRow) (rows : List FileRow) (file : ℕ) → attempt_among (submit_chosen chosen rows) file ≡ attempt_among rows file
chosen_attempts None rows file = refl
chosen_attempts (Some row) rows file = woken_attempts row.id rows file

finish_attempts : (kind : JobKind) (job : JobRow) (row : FileRow) (rows : List FileRow) (file : ℕ)
    → attempt_among (followed_finish kind job row rows) file ≡ attempt_among rows file
finish_attempts Plain job row rows file = refl
finish_attempts Replica job row rows file = refl
finish_attempts Multihop job row rows file = by_last (nat_lt (row.id + 1) (job.first + job.count))
  where
    by_last : (answer : Bool) → attempt_among (cond answer (submit_if_not_used (row.id + 1) rows) rows) file ≡ attempt_among rows file
    by_last true = woken_attempts (row.id + 1) rows file
    by_last false = refl

failed_attempts : (kind : JobKind) (job : JobRow) (rows : List FileRow) (file : ℕ)
    → attempt_among (followed_failure kind job rows) file ≡ attempt_among rows file
failed_attempts Replica job rows file = chosen_attempts (next_alternative job.strategy rows (rows_of_job rows job.number)) rows file
failed_attempts Plain job rows file = refl
failed_attempts Multihop job rows file = refl

-- what follows a report leaves the attempts
followed_attempts : (job : JobRow) (row : FileRow) (rows : List FileRow) (file : ℕ) → attempt_among (followed job row rows) file ≡ attempt_among rows file
followed_attempts job row rows file = by_state (is_finished row.state) (is_failed row.state)
  where
    by_state : (finished failed : Bool)
        → attempt_among (cond finished (followed_finish job.kind job row rows) (cond failed (followed_failure job.kind job rows) rows)) file
        ≡ attempt_among rows file
    by_state true failed = finish_attempts job.kind job row rows file
    by_state false true = failed_attempts job.kind job rows file
    by_state false false = refl

-- a report and what follows it
pub report_attempts : (job : JobRow) (row : FileRow) (now : ℕ) (outcome : Outcome) (id : ℕ) (rows : List FileRow) (file : ℕ)
    → attempt_among (followed job row (change_row id (reported job now outcome) rows)) file ≡ attempt_among rows file
report_attempts job row now outcome id rows file =
    followed_attempts job row (change_row id (reported job now outcome) rows) file
    ∙ attempts_one id (reported job now outcome) (reported_attempt job now outcome) rows file

-- a claim leaves the attempts of other files
pub claim_others : (id : ℕ) (rows : List FileRow) (file : ℕ) → file ≢ id → attempt_among (change_row id claimed rows) file ≡ attempt_among rows file
claim_others id [] file ne = refl
claim_others id (row ∷ rows) file ne = by_head (claim_others id rows file ne) (row.id == id) refl
  where
    by_file : attempt_among (change_row id claimed rows) file ≡ attempt_among rows file → (same : Bool)
        → option_map_or (λ (r : FileRow). r.attempt) (cond same (Some row) (row_at (change_row id claimed rows) file)) 0
        ≡ option_map_or (λ (r : FileRow). r.attempt) (cond same (Some row) (row_at rows file)) 0
    by_file behind true = refl
    by_file behind false = behind

    by_head : attempt_among (change_row id claimed rows) file ≡ attempt_among rows file → (answer : Bool) → (row.id == id) ≡ answer
        → attempt_among (cond answer (claimed row) row ∷ change_row id claimed rows) file ≡ attempt_among (row ∷ rows) file
    by_head behind true is =
        let here : row.id ≡ id = eqb-true row.id id is in
        let no : (row.id == file) ≡ false = ne_eqb row.id file (λ same. ne (sym same ∙ here)) in
        ap (λ answer. option_map_or (λ (r : FileRow). r.attempt) (cond answer (Some (claimed row)) (row_at (change_row id claimed rows) file)) 0) no
        ∙ behind
        ∙ sym (ap (λ answer. option_map_or (λ (r : FileRow). r.attempt) (cond answer (Some row) (row_at rows file)) 0) no)
    by_head behind false is = by_file behind (row.id == file)

-- and raises that of its own
pub claim_own : (id : ℕ) (rows : List FileRow) (found : FileRow) → row_at rows id ≡ Some found
    → attempt_among (change_row id claimed rows) id ≡ found.attempt + 1
claim_own id [] found at = absurd cc
claim_own id (row ∷ rows) found at = by_head (claim_own id rows found) (row.id == id) refl at
  where
    by_head : (row_at rows id ≡ Some found → attempt_among (change_row id claimed rows) id ≡ found.attempt + 1) → (answer : Bool)
        → (row.id == id) ≡ answer → cond answer (Some row) (row_at rows id) ≡ Some found
        → attempt_among (cond answer (claimed row) row ∷ change_row id claimed rows) id ≡ found.attempt + 1
    by_head behind true is at_head =
        let here : row ≡ found = cc in
        ap (λ answer. option_map_or (λ (r : FileRow). r.attempt) (cond answer (Some (claimed row)) (row_at (change_row id claimed rows) id)) 0) is
        ∙ ap (λ (r : FileRow). r.attempt + 1) here
    by_head behind false is at_behind =
        ap (λ answer. option_map_or (λ (r : FileRow). r.attempt) (cond answer (Some row) (row_at (change_row id claimed rows) id)) 0) is
        ∙ behind at_behind
