-- How many claims a round makes: those of the files that are out behind it, unless it stopped at a report.
use Rattle.std.proofs.Common.{◌≡◌, refl, ap, sym, ◌∙◌, subst, inl, inr, ℕ, zero, suc, ◌+◌, ◌-◌, ◌≤◌, Bool, true, false, cond, List, [], ◌∷◌, ◌++◌, length, max, Option, Some, None, Ok, Err, IsOk, arith}
use Rattle.std.specs.Prelude.{◌==◌, ◌&&◌, count_by, is_some}
use Rattle.std.proofs.lemmas.List.{length-append}
use Rattle.std.proofs.lemmas.List.Sums.{sum_by-append}
use Rattle.fts_tables.specs.Tables.{Tables, empty_tables, is_active, job_at, row_at}
use Rattle.fts_tables.specs.Laws.{AreTheActive}
use Rattle.fts_tables.specs.Moves.{change_row, followed, reported}
use Rattle.fts_tables.specs.Step.{Outcomes, step, report, report_of, with_rows}
use Rattle.fts_tables.specs.History.{tables_of, out_of_list, out_step, claimed_file, without, IsAccepted, IsLegal}
use Rattle.fts_tables.specs.declared.rows.FileRow.{FileRow}
use Rattle.fts_tables.specs.declared.rows.FileState.{FileState}
use Rattle.fts_tables.specs.declared.rows.JobRow.{JobRow}
use Rattle.fts_tables.specs.declared.rows.Outcome.{Outcome}
use Rattle.fts_tables.specs.declared.commands.Entry.{Entry}
use Rattle.fts_tables.specs.declared.commands.Answer.{Answer}
use Rattle.fts_tables.specs.declared.commands.Answer.TheVariants.{Reported}
use Rattle.fts_tables.specs.declared.commands.Refusal.TheVariants.{Stale}
use Rattle.fts_tables.specs.declared.commands.Command.TheVariants.{Claim, Expire, Report}
use Rattle.fts_keep.specs.Applied.{applied_by, entry_by}
use Rattle.fts_workers.specs.Benches.{attempt_of, held_as, kept_of, newly_held}
use Rattle.fts_workers.specs.Rounds.{Walk, Claims, Expires, ExpiresAndClaims, FillsUp, Reports, WorksOff, applied_at, claims_among, is_claim, report_in}
use Rattle.fts_workers.specs.declared.held.Held.{Held}
use Rattle.fts_workers.specs.declared.ends.RoundEnd.{RoundEnd}
use Rattle.fts_workers.proofs.Accepted.{legal_more}
use Rattle.fts_workers.proofs.Claimed.{claim_answers}
use Rattle.fts_workers.proofs.Numbered.{row_at-id}
use Rattle.fts_workers.proofs.OutFiles.{times, out_of_list-last, without-first, without-none}
use Rattle.fts_workers.proofs.Requested.{expire_leaves}

-- claims of one list and of another one
pub claims_more : (first second : List Entry) → claims_among (first ++ second) ≡ claims_among first + claims_among second
claims_more first second = sum_by-append (λ (entry : Entry). cond (is_claim entry.command) 1 0) first second

-- one entry counts by what it is
claims_one : (entry : Entry) → claims_among (entry ∷ []) ≡ cond {A = ℕ} (is_claim entry.command) 1 0
claims_one entry = omega arith

-- what was accepted is the machine's step
record HasStepped (came : Outcomes) : Type 0 where
  pub after : Tables
  pub answer : Answer
  pub is : came ≡ Ok (after, answer)

has_stepped : (used : ℕ) (entry : Entry) (came : Outcomes) → IsOk (applied_by used entry came) → HasStepped came
has_stepped used entry (Err refusal) ok = absurd cc
has_stepped used entry (Ok done) ok = record { after = done.0; answer = done.1; is = refl }

-- one entry more: the list is legal with it, so many files are out behind it, and it counts as a claim or not
record CountsOne (walk next : Walk) (files : List ℕ) (claim : ℕ) : Type 0 where
  pub legal : IsLegal next.entries
  pub out : out_of_list next.entries ≡ files
  pub claims : claims_among next.entries ≡ claims_among walk.entries + claim

counts_one : (walk next : Walk) (entry : Entry) (files : List ℕ) (claim : ℕ) (came : HasStepped (step (tables_of walk.entries) entry.command))
    → IsLegal walk.entries → next.entries ≡ walk.entries ++ entry ∷ [] → out_step (out_of_list walk.entries) (Ok (came.after, came.answer)) ≡ files
    → cond {A = ℕ} (is_claim entry.command) 1 0 ≡ claim → CountsOne walk next files claim
counts_one walk next entry files claim came legal listed out counts = record {
  legal = subst IsLegal (sym listed) (legal_more empty_tables walk.entries entry legal (subst (λ done. IsAccepted done) (sym came.is) tt));
  out = ap (λ all. out_of_list all) listed ∙ out_of_list-last walk.entries entry ∙ ap (λ done. out_step (out_of_list walk.entries) done) came.is ∙ out;
  claims = ap (λ all. claims_among all) listed ∙ claims_more walk.entries (entry ∷ [])
      ∙ ap (λ n. claims_among walk.entries + n) (claims_one entry ∙ counts);
}

-- the answer to a report names its file
reported_so : (tables : Tables) (now file attempt : ℕ) (outcome : Outcome) (after : Tables) (answer : Answer)
    → step tables (Report now file attempt outcome) ≡ Ok (after, answer) → (state : FileState) × (answer ≡ Reported file state)
reported_so tables now file attempt outcome after answer is = by_row (row_at tables.rows file) refl is
  where
    at : ℕ
    at = max now tables.moment

    same : (one other : Tables × Answer) → ◌≡◌ {A = Outcomes} (Ok one) (Ok other) → one.1 ≡ other.1
    same one other came = let done : one ≡ other = cc in ap (λ (d : Tables × Answer). d.1) done

    by_test : (row : FileRow) (job : JobRow) (passes : Bool) → row.id ≡ file
        → cond {A = Outcomes} passes (Ok (
          with_rows tables at (followed job (reported job at outcome row) (change_row row.id (reported job at outcome) tables.rows)),
          Reported row.id (reported job at outcome row).state,
        )) (Err (Stale row.state row.attempt)) ≡ Ok (after, answer) → (state : FileState) × (answer ≡ Reported file state)
    by_test row job true id came =
        let state = (reported job at outcome row).state in (
          state,
          sym (same (
            with_rows tables at (followed job (reported job at outcome row) (change_row row.id (reported job at outcome) tables.rows)),
            Reported row.id state,
          ) (after, answer) came) ∙ ap (λ n. Reported n state) id,
        )
    by_test row job false id came = absurd cc

    by_job : (row : FileRow) (found : Option JobRow) → row.id ≡ file → report_of tables at row attempt outcome found ≡ Ok (after, answer)
        → (state : FileState) × (answer ≡ Reported file state)
    by_job row None id came = absurd cc
    by_job row (Some job) id came = by_test row job (is_active row.state && (row.attempt == attempt)) id came

    by_row : (found : Option FileRow) → row_at tables.rows file ≡ found → report tables at found attempt outcome ≡ Ok (after, answer)
        → (state : FileState) × (answer ≡ Reported file state)
    by_row None there came = absurd cc
    by_row (Some row) there came = by_job row (job_at tables.jobs row.job) (row_at-id tables.rows file row there) came

-- so many of those that are out are new: none, where an outcome is kept
abbrev pub fresh : Option Outcome → ℕ → ℕ
fresh kept out = cond {A = ℕ} (is_some kept) 0 out

-- claims leave what is kept
fills_kept : (free : ℕ) (walk : Walk) (end : RoundEnd) (after : Walk) → FillsUp free walk end after → after.kept ≡ walk.kept
fills_kept zero walk end after filled = ap (λ (w : Walk). w.kept) filled.0
fills_kept (suc free) walk end after (inl claimed) = fills_kept free claimed.0 end after claimed.1.1 ∙ claimed.1.0.tried.kept
fills_kept (suc free) walk end after (inr (inl none)) = none.0.tried.kept
fills_kept (suc free) walk end after (inr (inr stops)) = stops.tried.kept

module _ (outs : (entries : List Entry) → IsLegal entries → AreTheActive (out_of_list entries) (tables_of entries).rows)
    (was_in : (entries : List Entry) (now word file : ℕ) → IsLegal entries → claimed_file (step (tables_of entries) (Claim now word)) ≡ Some file
    → count_by (λ other. other == file) (out_of_list entries) ≡ 0) where
  -- a claim puts one file more out
  claim_counts : (walk next : Walk) → IsLegal walk.entries → Claims walk next
      → (file : ℕ) × CountsOne walk next (out_of_list walk.entries ++ file ∷ []) 1
  claim_counts walk next legal claims =
      let tables = tables_of walk.entries in
      let now = claims.tried.now in
      let word = claims.tried.word in
      let came = has_stepped walk.used (entry_by 0 (Claim now word)) (step tables (Claim now word))
      (subst (λ (e : Entry). IsOk (applied_at walk e)) claims.tried.is claims.adds.accepted) in
      let so = claim_answers tables (max now tables.moment) word came.after came.answer came.is in
      let named : claimed_file (step tables (Claim now word)) ≡ Some so.row.id = ap claimed_file came.is
      ∙ ap (λ (a : Answer). claimed_file (Ok (came.after, a))) so.answer_is in
      let out = ap (λ (a : Answer). out_step (out_of_list walk.entries) (Ok (came.after, a))) so.answer_is
      ∙ ap (λ files. files ++ so.row.id ∷ []) (without-none so.row.id (out_of_list walk.entries) (was_in walk.entries now word so.row.id legal named)) in (
        so.row.id,
        counts_one walk next (entry_by 0 (Claim now word)) (out_of_list walk.entries ++ so.row.id ∷ []) 1 came legal
            (claims.adds.listed ∙ ap (λ (e : Entry). walk.entries ++ e ∷ []) claims.tried.is) out refl,
      )

  -- a report takes its file from those that are out
  report_counts : (walk next : Walk) (file : ℕ) (files : List ℕ) → IsLegal walk.entries → out_of_list walk.entries ≡ file ∷ files → Reports walk file next
      → CountsOne walk next files 0
  report_counts walk next file files legal is reports =
      let tables = tables_of walk.entries in
      let entry = report_in walk.entries reports.now file reports.outcome in
      let came = has_stepped walk.used entry (step tables entry.command) reports.adds.accepted in
      let so = reported_so tables reports.now file (attempt_of tables file) reports.outcome came.after came.answer came.is in
      let once : times file (file ∷ files) ≤ 1 = subst (λ all. times file all ≤ 1) is ((outs walk.entries legal).once file) in
      let out = ap (λ (a : Answer). out_step (out_of_list walk.entries) (Ok (came.after, a))) so.1
      ∙ ap (λ all. without file all) is ∙ without-first file files once in
      counts_one walk next entry files 0 came legal reports.adds.listed out refl

  -- an expiry leaves them
  expiry_counts : (walk next : Walk) → IsLegal walk.entries → Expires walk next → CountsOne walk next (out_of_list walk.entries) 0
  expiry_counts walk next legal expires =
      let tables = tables_of walk.entries in
      let now = expires.tried.now in
      let came = has_stepped walk.used (entry_by 0 (Expire now)) (step tables (Expire now))
      (subst (λ (e : Entry). IsOk (applied_at walk e)) expires.tried.is expires.adds.accepted) in
      counts_one walk next (entry_by 0 (Expire now)) (out_of_list walk.entries) 0 came legal
      (expires.adds.listed ∙ ap (λ (e : Entry). walk.entries ++ e ∷ []) expires.tried.is)
      (ap (λ done. out_step (out_of_list walk.entries) done) (sym came.is) ∙ (expire_leaves tables (max now tables.moment)).out (out_of_list walk.entries)) refl

  -- claims, by the files that are out before and behind them
  fills_claimed : (free : ℕ) (walk : Walk) (end : RoundEnd) (after : Walk) → IsLegal walk.entries → FillsUp free walk end after
      → claims_among after.entries + length (out_of_list walk.entries) ≡ claims_among walk.entries + length (out_of_list after.entries)
  fills_claimed zero walk end after legal filled =
      subst (λ (w : Walk). claims_among w.entries + length (out_of_list walk.entries) ≡ claims_among walk.entries + length (out_of_list w.entries))
      (sym filled.0) refl
  fills_claimed (suc free) walk end after legal (inl claimed) =
      let one = claim_counts walk claimed.0 legal claimed.1.0 in
      let longer : length (out_of_list claimed.0.entries) ≡ length (out_of_list walk.entries) + 1 =
      ap length one.1.out ∙ length-append (out_of_list walk.entries) (one.0 ∷ []) in
      omega (arith, longer, one.1.claims, fills_claimed free claimed.0 end after one.1.legal claimed.1.1)
  fills_claimed (suc free) walk end after legal (inr (inl none)) =
      subst (λ all. claims_among all + length (out_of_list walk.entries) ≡ claims_among walk.entries + length (out_of_list all)) (sym none.0.none.listed) refl
  fills_claimed (suc free) walk end after legal (inr (inr stops)) =
      subst (λ all. claims_among all + length (out_of_list walk.entries) ≡ claims_among walk.entries + length (out_of_list all)) (sym stops.none.listed) refl

  -- where no file is out before it, an expiry and the claims behind it
  expires_claimed : (workers : ℕ) (walk : Walk) (end : RoundEnd) (after : Walk) → IsLegal walk.entries → out_of_list walk.entries ≡ [] → walk.kept ≡ None
      → ExpiresAndClaims workers walk end after → claims_among after.entries ≡ claims_among walk.entries + fresh after.kept (length (out_of_list after.entries))
  expires_claimed workers walk end after legal is none (inl (next, (inl expires, filled))) =
      let one = expiry_counts walk next legal expires in
      let free = workers - length (out_of_list next.entries) in
      let kept : after.kept ≡ None = fills_kept free next end after filled ∙ expires.tried.kept ∙ none in
      let nobody : length (out_of_list next.entries) ≡ 0 = ap length (one.out ∙ is) in
      let all : fresh after.kept (length (out_of_list after.entries)) ≡ length (out_of_list after.entries) =
      ap (λ k. fresh k (length (out_of_list after.entries))) kept in
      omega (arith, nobody, all, one.claims, fills_claimed free next end after one.legal filled)
  expires_claimed workers walk end after legal is none (inl (next, (inr idle, filled))) =
      let free = workers - length (out_of_list next.entries) in
      let kept : after.kept ≡ None = fills_kept free next end after filled ∙ idle.tried.kept ∙ none in
      let nobody : length (out_of_list next.entries) ≡ 0 = ap (λ l. length (out_of_list l)) idle.none.listed ∙ ap length is in
      let all : fresh after.kept (length (out_of_list after.entries)) ≡ length (out_of_list after.entries) =
      ap (λ k. fresh k (length (out_of_list after.entries))) kept in
      let same : claims_among next.entries ≡ claims_among walk.entries = ap (λ l. claims_among l) idle.none.listed in
      omega (arith, nobody, all, same, fills_claimed free next end after (subst IsLegal (sym idle.none.listed) legal) filled)
  expires_claimed workers walk end after legal is none (inr stops) =
      let nobody : length (out_of_list after.entries) ≡ 0 = ap (λ l. length (out_of_list l)) stops.none.listed ∙ ap length is in
      let all : fresh after.kept (length (out_of_list after.entries)) ≡ length (out_of_list after.entries) =
      ap (λ k. fresh k (length (out_of_list after.entries))) (stops.tried.kept ∙ none) in
      let same : claims_among after.entries ≡ claims_among walk.entries = ap (λ l. claims_among l) stops.none.listed in
      omega (arith, nobody, all, same)

  -- a round's
  pub works_claimed : (workers : ℕ) (files : List ℕ) (walk : Walk) (end : RoundEnd) (after : Walk) → IsLegal walk.entries → out_of_list walk.entries ≡ files
      → (files ≡ [] → walk.kept ≡ None) → WorksOff workers files walk end after
      → claims_among after.entries ≡ claims_among walk.entries + fresh after.kept (length (out_of_list after.entries))
  works_claimed workers [] walk end after legal is none done = expires_claimed workers walk end after legal is (none refl) done
  works_claimed workers (file ∷ files) walk end after legal is none (inl reported) =
      let one = report_counts walk reported.0 file files legal is reported.1.0 in
      let rest = works_claimed workers files reported.0 end after one.legal one.out (λ nothing. reported.1.0.kept) reported.1.1 in
      omega (arith, one.claims, rest)
  works_claimed workers (file ∷ files) walk end after legal is none (inr stops) =
      let some : fresh after.kept (length (out_of_list after.entries)) ≡ 0 = ap (λ k. fresh k (length (out_of_list after.entries))) stops.kept in
      let same : claims_among after.entries ≡ claims_among walk.entries = ap (λ l. claims_among l) stops.none.listed in
      omega (arith, some, same)

-- what a bench newly holds, by what it keeps and how many files it holds
pub newly-fresh : (held : List Held) → newly_held held ≡ fresh (kept_of held) (length held)
newly-fresh [] = refl
newly-fresh (first ∷ others) = refl

-- a bench over a list without files that are out keeps nothing
pub nothing_kept : (tables : Tables) (held : List Held) (files : List ℕ) → held ≡ held_as tables (kept_of held) files → files ≡ [] → kept_of held ≡ None
nothing_kept tables held files over none = ap kept_of (over ∙ ap (held_as tables (kept_of held)) none)
