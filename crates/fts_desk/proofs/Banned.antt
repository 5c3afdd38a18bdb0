-- What a ban, its end and an expiry leave, where they are accepted.
use Rattle.std.proofs.Common.{◌≡◌, ℕ, ◌+◌, Bool, true, false, cond, List, Ok, Err, ap, sym, ◌∙◌, arith}
use Rattle.std.specs.Prelude.{is_some, if◌then◌else◌}
use Rattle.fts_tables.specs.Tables.{Tables}
use Rattle.fts_tables.specs.Limits.{endpoint_at}
use Rattle.fts_tables.specs.Waits.{is_overdue, waits_at, rows_cancelled, count_cancelled}
use Rattle.fts_tables.specs.Step.{Outcomes, ban, ban_and_cancel, ban_only, unban, expire, with_ban, without_ban, with_rows}
use Rattle.fts_tables.specs.History.{IsAccepted}
use Rattle.fts_tables.specs.declared.rows.FileRow.{FileRow}
use Rattle.fts_tables.specs.declared.rows.JobRow.{JobRow}
use Rattle.fts_tables.specs.declared.rows.Reason.{Reason}
use Rattle.fts_tables.specs.declared.rows.Reason.TheVariants.{Cancelled, Expired}
use Rattle.fts_tables.specs.declared.commands.Answer.TheVariants.{Banned, Unbanned, Expired as ExpiredAnswer}
use Rattle.fts_tables.specs.declared.commands.Refusal.TheVariants.{NoStorage}
use Rattle.fts_desk.specs.Cancels.{count_canceled}
use Rattle.fts_desk.proofs.Found.{passed}

-- the law of how many rows become CANCELED
abbrev pub CountsCanceled : Type 0
CountsCanceled = (reason : Reason) (jobs : List JobRow) (test : FileRow → Bool) (rows : List FileRow)
    → count_canceled (rows_cancelled reason jobs test rows) ≡ count_canceled rows + count_cancelled jobs test rows

-- rows, names and numbers that are equal make equal tables and answers
ban_alike : (tables : Tables) (now : ℕ) (rows after : List FileRow) (banned names : List (List ℕ)) (number cancelled : ℕ) → rows ≡ after → banned ≡ names
    → number ≡ cancelled
    → ◌≡◌ {A = Outcomes} (Ok (record tables { moment = now; rows = rows; banned = banned }, Banned number))
    (Ok (record tables { moment = now; rows = after; banned = names }, Banned cancelled))
ban_alike tables now rows after banned names number cancelled same listed counted =
    ap (λ (items : List FileRow). Ok (record tables { moment = now; rows = items; banned = banned }, Banned number)) same
    ∙ (ap (λ (others : List (List ℕ)). Ok (record tables { moment = now; rows = after; banned = others }, Banned number)) listed
    ∙ ap (λ (count : ℕ). Ok (record tables { moment = now; rows = after; banned = names }, Banned count)) counted)

-- a ban
pub ban_done : CountsCanceled → (tables : Tables) (now : ℕ) (storage : List ℕ) (cancel : Bool) (rows : List FileRow) (banned : List (List ℕ)) (cancelled : ℕ)
    → IsAccepted (ban tables now storage cancel)
    → rows ≡ (if cancel then rows_cancelled Cancelled tables.jobs (waits_at storage) tables.rows else tables.rows)
    → count_canceled rows ≡ count_canceled tables.rows + cancelled → banned ≡ with_ban tables.banned storage
    → ban tables now storage cancel ≡ Ok (record tables { moment = now; rows = rows; banned = banned }, Banned cancelled)
ban_done law tables now storage cancel rows banned cancelled accepted same counted listed =
    by_tests (is_some (endpoint_at tables.settings storage)) cancel accepted same
  where
    by_tests : (answer cancel : Bool)
        → IsAccepted (cond {A = Outcomes} answer (cond {A = Outcomes} cancel (ban_and_cancel tables now storage) (ban_only tables now storage)) (Err NoStorage))
        → rows ≡ (if cancel then rows_cancelled Cancelled tables.jobs (waits_at storage) tables.rows else tables.rows)
        → cond {A = Outcomes} answer (cond {A = Outcomes} cancel (ban_and_cancel tables now storage) (ban_only tables now storage)) (Err NoStorage)
        ≡ Ok (record tables { moment = now; rows = rows; banned = banned }, Banned cancelled)
    by_tests true true accepted same =
        let number : count_cancelled tables.jobs (waits_at storage) tables.rows ≡ cancelled =
        omega (arith, counted, ap count_canceled same, law Cancelled tables.jobs (waits_at storage) tables.rows) in
        ban_alike tables now _ rows _ banned _ cancelled (sym same) (sym listed) number
    by_tests true false accepted same =
        let number : 0 ≡ cancelled = omega (arith, counted, ap count_canceled same) in
        ban_alike tables now tables.rows rows _ banned 0 cancelled (sym same) (sym listed) number
    by_tests false cancel accepted same = absurd accepted

-- the end of a ban
pub unban_done : (tables : Tables) (now : ℕ) (storage : List ℕ) (banned : List (List ℕ)) → IsAccepted (unban tables now storage)
    → banned ≡ without_ban tables.banned storage → unban tables now storage ≡ Ok (record tables { moment = now; banned = banned }, Unbanned)
unban_done tables now storage banned accepted listed =
    passed _ _ _ accepted
    ∙ ap (λ (others : List (List ℕ)). Ok (record tables { moment = now; banned = others }, Unbanned)) (sym listed)

-- an expiry
pub expire_done : CountsCanceled → (tables : Tables) (now : ℕ) (rows : List FileRow) (cancelled : ℕ) → IsAccepted (expire tables now)
    → rows ≡ rows_cancelled Expired tables.jobs (is_overdue tables.jobs now) tables.rows → count_canceled rows ≡ count_canceled tables.rows + cancelled
    → expire tables now ≡ Ok (with_rows tables now rows, ExpiredAnswer cancelled)
expire_done law tables now rows cancelled accepted same counted =
    let number : count_cancelled tables.jobs (is_overdue tables.jobs now) tables.rows ≡ cancelled =
    omega (arith, counted, ap count_canceled same, law Expired tables.jobs (is_overdue tables.jobs now) tables.rows) in
    passed _ _ _ accepted
    ∙ (ap (λ (items : List FileRow). Ok (with_rows tables now items, ExpiredAnswer (count_cancelled tables.jobs (is_overdue tables.jobs now) tables.rows)))
    (sym same)
    ∙ ap (λ (count : ℕ). Ok (with_rows tables now rows, ExpiredAnswer count)) number)
