-- What an expiry and a claim may be answered, and that no row is overdue behind an expiry.
use Rattle.std.proofs.Common.{◌≡◌, ap, sym, ◌∙◌, subst, ℕ, max, Bool, true, false, cond, Result, Ok, Err, arith}
use Rattle.std.specs.List.{list_any}
use Rattle.fts_disk.specs.Disk.{DiskState}
use Rattle.fts_tables.specs.Tables.{Tables}
use Rattle.fts_tables.specs.Choice.{pick}
use Rattle.fts_tables.specs.Waits.{is_overdue, rows_cancelled, count_cancelled}
use Rattle.fts_tables.specs.Step.{Outcomes, step, expire, with_rows}
use Rattle.fts_tables.specs.History.{tables_after}
use Rattle.fts_tables.specs.declared.rows.Reason.TheVariants.{Expired as ExpiredReason}
use Rattle.fts_tables.specs.declared.commands.Command.TheVariants.{Claim, Expire}
use Rattle.fts_tables.specs.declared.commands.Answer.{Answer}
use Rattle.fts_tables.specs.declared.commands.Answer.TheVariants.{Expired}
use Rattle.fts_tables.specs.declared.commands.Refusal.{Refusal}
use Rattle.fts_tables.specs.declared.commands.Refusal.TheVariants.{Idle}
use Rattle.fts_keep.specs.Keeps.{KeepData}
use Rattle.fts_keep.specs.Applied.{Applied, entry_by}
use Rattle.fts_keep.specs.declared.fault.KeepFault.{KeepFault}
use Rattle.fts_keep.specs.declared.fault.KeepFault.TheVariants.{Rule, DiskFailed, JournalFull, Damaged, Memory}
use Rattle.fts_workers.specs.ClaimSteps.{AnswersClaim, AnswersExpiry, HasNoneOverdue, goes_on}
use Rattle.fts_workers.proofs.Accepted.{refused_of, stepped}
use Rattle.fts_workers.proofs.Claimed.{claim_answers, claim_idle, same_done}

-- one refusal is the other
same_refusal : (one other : Refusal) → ◌≡◌ {A = Outcomes} (Err one) (Err other) → one ≡ other
same_refusal one other is = cc

-- an expiry that was accepted left the jobs, and is at its moment
record HasExpired (tables : Tables) (now : ℕ) (after : Tables) (answer : Answer) : Type 0 where
  pub jobs : after.jobs ≡ tables.jobs
  pub moment : after.moment ≡ now
  pub answers : AnswersExpiry (Ok answer)

-- what an expiry makes, where some file is overdue
abbrev expired_done : Tables → ℕ → Tables × Answer
expired_done tables now = (
  with_rows tables now (rows_cancelled ExpiredReason tables.jobs (is_overdue tables.jobs now) tables.rows),
  Expired (count_cancelled tables.jobs (is_overdue tables.jobs now) tables.rows),
)

expired_so : (tables : Tables) (now : ℕ) (after : Tables) (answer : Answer) → expire tables now ≡ Ok (after, answer) → HasExpired tables now after answer
expired_so tables now after answer is = by (list_any (is_overdue tables.jobs now) tables.rows) is
  where
    by : (some : Bool) → cond {A = Outcomes} some (Ok (expired_done tables now)) (Err Idle) ≡ Ok (after, answer) → HasExpired tables now after answer
    by true came =
        let same = same_done (expired_done tables now) (after, answer) came in
        record {
          jobs = sym (ap (λ (d : Tables × Answer). d.0.jobs) same);
          moment = sym (ap (λ (d : Tables × Answer). d.0.moment) same);
          answers = subst (λ a. AnswersExpiry (Ok a)) (ap (λ (d : Tables × Answer). d.1) same) tt;
        }
    by false came = absurd cc

-- an expiry is refused as idle alone
expired_idle : (tables : Tables) (now : ℕ) (refusal : Refusal) → expire tables now ≡ Err refusal → refusal ≡ Idle
expired_idle tables now refusal is = by (list_any (is_overdue tables.jobs now) tables.rows) is
  where
    by : (some : Bool) → cond {A = Outcomes} some (Ok (expired_done tables now)) (Err Idle) ≡ Err refusal → refusal ≡ Idle
    by true came = absurd cc
    by false came = sym (same_refusal Idle refusal came)

module _ {D : Type 0} (state : D → DiskState) (faults : D → ℕ) (old new : KeepData D) (writer now : ℕ) where
  -- what an expiry is answered
  pub expiry_answers : (answer : Result Answer KeepFault) → Applied state faults old new (entry_by writer (Expire now)) answer → AnswersExpiry answer
  expiry_answers (Ok answer) applied =
      (expired_so old.tables (max now old.tables.moment) new.tables answer (stepped state old new (entry_by writer (Expire now)) answer applied)).answers
  expiry_answers (Err (Rule refusal)) applied = expired_idle old.tables (max now old.tables.moment) refusal
      (refused_of old.used (entry_by writer (Expire now)) (step old.tables (Expire now)) refusal applied.0)
  expiry_answers (Err DiskFailed) applied = tt
  expiry_answers (Err (JournalFull used)) applied = tt
  expiry_answers (Err (Damaged offset)) applied = applied
  expiry_answers (Err Memory) applied = tt

  -- and that none is overdue behind it, as a law of the machine says
  pub expiry_gone : ((tables : Tables) (at : ℕ)
      → list_any (is_overdue tables.jobs (max at tables.moment)) (tables_after tables (step tables (Expire at))).rows ≡ false)
      → (answer : Result Answer KeepFault) → Applied state faults old new (entry_by writer (Expire now)) answer → goes_on answer ≡ true
      → HasNoneOverdue new.tables now
  expiry_gone law (Ok answer) applied on =
      let came = stepped state old new (entry_by writer (Expire now)) answer applied in
      let so = expired_so old.tables (max now old.tables.moment) new.tables answer came in
      let at : max now new.tables.moment ≡ max now old.tables.moment = omega (arith, so.moment) in
      ap (λ jobs. list_any (is_overdue jobs (max now new.tables.moment)) new.tables.rows) so.jobs
      ∙ ap (λ m. list_any (is_overdue old.tables.jobs m) new.tables.rows) at
      ∙ subst (λ (done : Outcomes). list_any (is_overdue old.tables.jobs (max now old.tables.moment)) (tables_after old.tables done).rows ≡ false) came
      (law old.tables now)
  expiry_gone law (Err (Rule refusal)) applied on =
      let came = refused_of old.used (entry_by writer (Expire now)) (step old.tables (Expire now)) refusal applied.0 in
      subst (λ (keep : KeepData D). HasNoneOverdue keep.tables now) (sym applied.1)
      (subst (λ (done : Outcomes). list_any (is_overdue old.tables.jobs (max now old.tables.moment)) (tables_after old.tables done).rows ≡ false) came
      (law old.tables now))
  expiry_gone law (Err DiskFailed) applied on = absurd cc
  expiry_gone law (Err (JournalFull used)) applied on = absurd cc
  expiry_gone law (Err (Damaged offset)) applied on = absurd cc
  expiry_gone law (Err Memory) applied on = absurd cc

  -- what a claim is answered
  pub claim_answered : (word : ℕ) (answer : Result Answer KeepFault) → Applied state faults old new (entry_by writer (Claim now word)) answer
      → AnswersClaim answer
  claim_answered word (Ok answer) applied =
      let at = max now old.tables.moment in
      subst (λ a. AnswersClaim (Ok a)) (sym (claim_answers old.tables at word new.tables answer
      (stepped state old new (entry_by writer (Claim now word)) answer applied)).answer_is) tt
  claim_answered word (Err (Rule refusal)) applied =
      let at = max now old.tables.moment in
      let came = refused_of old.used (entry_by writer (Claim now word)) (step old.tables (Claim now word)) refusal applied.0 in
      same_refusal refusal Idle (sym came ∙ claim_idle old.tables at (pick old.tables at word) refusal came)
  claim_answered word (Err DiskFailed) applied = tt
  claim_answered word (Err (JournalFull used)) applied = tt
  claim_answered word (Err (Damaged offset)) applied = applied
  claim_answered word (Err Memory) applied = tt
