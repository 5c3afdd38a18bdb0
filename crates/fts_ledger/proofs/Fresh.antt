-- Where nobody takes a file from a writer, what it claimed last and hasn't reported is out, so its report isn't refused.
use Rattle.std.proofs.Common.{◌≡◌, ◌≢◌, refl, sym, ap, ◌∙◌, subst, inl, inr, ℕ, Bool, true, false, cond, List, [], ◌∷◌, ◌++◌, Option, Some, Ok, Err, append_assoc, arith, eqb-true, eq-eqb}
use Rattle.std.specs.Prelude.{◌==◌}
use Rattle.std.proofs.lemmas.Bool.{ne_eqb}
use Rattle.fts_tables.specs.Tables.{Tables}
use Rattle.fts_tables.specs.Step.{Outcomes, step}
use Rattle.fts_tables.specs.History.{IsLegal, claimed_by, claimed_file, out_after, out_of_list, tables_of, without}
use Rattle.fts_tables.specs.declared.rows.Outcome.{Outcome}
use Rattle.fts_tables.specs.declared.commands.Entry.{Entry}
use Rattle.fts_tables.specs.declared.commands.Refusal.{Refusal}
use Rattle.fts_tables.specs.declared.commands.Command.TheVariants.{Claim, Report}
use Rattle.fts_tables.specs.declared.commands.Answer.{Answer}
use Rattle.fts_tables.specs.declared.commands.Answer.TheVariants.{Restarted, Submitted, Cancelled, PrioritySet, Claimed, Reported, Banned, Unbanned, Expired}
use Rattle.fts_turnstile.specs.History.{Among}
use Rattle.fts_keep.specs.Applied.{entry_by}
use Rattle.fts_ledger.specs.Claims.{Claimant, IsOut, IsOwn, claim_after, last_claim}
use Rattle.fts_ledger.specs.Reports.{IsReportOf, IsUndisturbed, Takes}
use Rattle.fts_ledger.specs.Fitting.{IsLastOwn}
use Rattle.fts_ledger.proofs.Lists.{among_counted, among_end, among_front, among_still, no_test, none_at}
use Rattle.fts_ledger.proofs.Sound.{Behaves}
use Rattle.fts_ledger.specs.Machine.{Machine}
use Rattle.fts_ledger.proofs.Moved.{legal_before, moves}
use Rattle.fts_ledger.proofs.Turned.{legal_back}
use Rattle.fts_ledger.proofs.Walks.{attempt_by_own, report_accepted, walk_legal}

-- an entry that doesn't take a file, and doesn't claim it, leaves it out, claimed last as it was
kept_after : (entry : Entry) (before after : Tables) (answer : Answer) (writer file : ℕ) (files : List ℕ) (last : Option Claimant)
    → Behaves before entry.command after answer → (Takes writer file entry → ⊥) → entry.writer ≢ writer
    → ((now word claimed attempt : ℕ) → entry.command ≡ Claim now word → answer ≡ Claimed claimed attempt → claimed ≢ file) → Among file files
    → Among file (out_after files answer) × (claim_after file last entry.writer answer ≡ last)
kept_after entry before after (Restarted count) writer file files last behaves untaken other fresh among = absurd (untaken (inl behaves.0))
kept_after entry before after (Submitted job id) writer file files last behaves untaken other fresh among = (among, refl)
kept_after entry before after (Cancelled job) writer file files last behaves untaken other fresh among = (among, refl)
kept_after entry before after (PrioritySet job) writer file files last behaves untaken other fresh among = (among, refl)
kept_after entry before after (Claimed claimed attempt) writer file files last behaves untaken other fresh among =
    let unlike : claimed ≢ file = fresh behaves.now behaves.word claimed attempt behaves.is refl in (
      among_front file claimed (without claimed files) (among_still file claimed files among (λ is. unlike (sym is))),
      ap (λ same. cond same (Some (record { writer = entry.writer; attempt = attempt })) last) (ne_eqb claimed file unlike),
    )
kept_after entry before after (Reported reported state) writer file files last behaves untaken other fresh among = by (reported == file) refl
  where
    by : (same : Bool) → (reported == file) ≡ same → Among file (without reported files) × (last ≡ last)
    by true at = absurd (untaken (inr (subst (λ f. IsReportOf f entry.command) (eqb-true reported file at) behaves.0, other)))
    by false at = (among_still file reported files among (λ is. no_test (reported == file) (eq-eqb reported file (sym is)) at), refl)
kept_after entry before after (Banned count) writer file files last behaves untaken other fresh among = (among, refl)
kept_after entry before after Unbanned writer file files last behaves untaken other fresh among = (among, refl)
kept_after entry before after (Expired count) writer file files last behaves untaken other fresh among = (among, refl)

module _ (machine : Machine) (opening : List Entry) (writer : ℕ) where
  -- where a list is out, a claim behind it takes none of it
  claims_other : (gone : List Entry) (entry : Entry) (done : Tables × Answer) (file now word claimed attempt : ℕ) → IsLegal (opening ++ gone)
      → IsOut file (opening ++ gone) → step (tables_of (opening ++ gone)) entry.command ≡ Ok done → entry.command ≡ Claim now word
      → done.1 ≡ Claimed claimed attempt → claimed ≢ file
  claims_other gone entry done file now word claimed attempt legal out came is answer same =
      let here : claimed_file (step (tables_of (opening ++ gone)) (Claim now word)) ≡ Some file =
      ap (λ c. claimed_file (step (tables_of (opening ++ gone)) c)) (sym is) ∙ ap claimed_file came ∙ ap claimed_by answer
      ∙ ap (λ f. Some f) same in
      absurd (omega (arith, among_counted file (out_of_list (opening ++ gone)) out, machine.fresh (opening ++ gone) now word file legal here))

  -- a claim that nobody took is out, and the last one of its file
  pub undisturbed_out : (entries : List Entry) (file attempt : ℕ) → IsLegal (opening ++ entries) → IsLastOwn writer opening entries file attempt
      → IsUndisturbed writer opening entries
      → IsOut file (opening ++ entries) × (last_claim file opening entries ≡ Some (record { writer = writer; attempt = attempt }))
  undisturbed_out entries file attempt legal own free =
      let claim = entry_by writer (Claim own.now own.word) in
      let claimed = own.earlier ++ claim ∷ [] in
      let the_last : Option Claimant = Some (record { writer = writer; attempt = attempt }) in
      let cut : entries ≡ claimed ++ own.later = own.split ∙ sym (append_assoc own.earlier (claim ∷ []) own.later) in
      let legal_there : IsLegal (opening ++ (claimed ++ own.later)) = subst (λ list. IsLegal (opening ++ list)) cut legal in
      let legal_claimed = legal_back opening claimed (claimed ++ own.later) own.later refl legal_there in
      let first = moves machine opening own.earlier claim legal_claimed in
      let answer : first.done.1 ≡ Claimed file attempt =
      same_answer (step (tables_of (opening ++ own.earlier)) claim.command) first.done (own.after, Claimed file attempt) first.came own.answered in
      let start : IsOut file (opening ++ claimed) × (last_claim file opening claimed ≡ the_last) = (
        subst (Among file) (sym (first.out ∙ ap (out_after (out_of_list (opening ++ own.earlier))) answer))
            (among_end file (without file (out_of_list (opening ++ own.earlier)))),
        first.last file ∙ ap (claim_after file (last_claim file opening own.earlier) writer) answer
            ∙ ap (λ same. cond same the_last (last_claim file opening own.earlier)) (eq-eqb file file refl),
      ) in
      subst (λ list. IsOut file (opening ++ list) × (last_claim file opening list ≡ the_last)) (sym cut)
      (walk_legal machine opening (λ gone. IsOut file (opening ++ gone) × (last_claim file opening gone ≡ the_last)) claimed own.later legal_there start
      (λ earlier later entry is fine holds.
      let gone = claimed ++ earlier in
      let m = moves machine opening gone entry fine in
      let split : entries ≡ gone ++ entry ∷ later = cut ∙ ap (λ list. claimed ++ list) is ∙ sym (append_assoc claimed earlier (entry ∷ later)) in
      let untaken = free gone later entry file split (subst (IsOwn writer) (sym holds.1) refl) in
      let kept = kept_after entry (tables_of (opening ++ gone)) m.done.0 m.done.1 writer file (out_of_list (opening ++ gone)) (last_claim file opening gone)
      m.behaves untaken (none_at writer own.later earlier entry later is own.none_since)
      (λ now word c a is_claim is_answer.
      claims_other gone entry m.done file now word c a (legal_before machine opening gone entry fine) holds.0 m.came is_claim is_answer)
      holds.0 in
      (subst (Among file) (sym m.out) kept.0, m.last file ∙ kept.1 ∙ holds.1)))
    where
      same_answer : (came : Outcomes) (one other : Tables × Answer) → came ≡ Ok one → came ≡ Ok other → one.1 ≡ other.1
      same_answer came one other is_one is_other =
          let same : ◌≡◌ {A = Outcomes} (Ok one) (Ok other) = sym is_one ∙ is_other in
          let pair : one ≡ other = cc in
          ap (λ (d : Tables × Answer). d.1) pair

  -- so no report of it is refused
  pub undisturbed_accepted : (entries : List Entry) (now file attempt : ℕ) (outcome : Outcome) (refusal : Refusal) → IsLegal (opening ++ entries)
      → IsLastOwn writer opening entries file attempt → IsUndisturbed writer opening entries
      → step (tables_of (opening ++ entries)) (Report now file attempt outcome) ≡ Err refusal → ⊥
  undisturbed_accepted entries now file attempt outcome refusal legal own free refused =
      let found = undisturbed_out entries file attempt legal own free in
      let is_own : IsOwn writer (last_claim file opening entries) = subst (IsOwn writer) (sym found.1) refl in
      report_accepted machine (opening ++ entries) legal now file attempt outcome refusal found.0
      (attempt_by_own machine opening writer entries legal file attempt own is_own) refused
