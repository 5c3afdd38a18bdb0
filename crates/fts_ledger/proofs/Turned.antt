-- What a writer's own turns make of its reports and of its bench, over lists: behind entries of others, an expiry and a claim, and the report of what
-- is held.
use Rattle.std.proofs.Common.{◌≡◌, refl, sym, ap, ◌∙◌, subst, inl, inr, ⊎_elim, ℕ, Bool, true, false, cond, List, [], ◌∷◌, ◌++◌, map, Option, Some, Result, Ok, Err, append-nil, append_assoc, eqb-true}
use Rattle.std.specs.Prelude.{◌==◌, if◌then◌else◌}
use Rattle.fts_tables.specs.Tables.{Tables, empty_tables}
use Rattle.fts_tables.specs.Step.{Outcomes, step}
use Rattle.fts_tables.specs.History.{IsLegal, out_after, out_of_list, tables_of, without}
use Rattle.fts_tables.specs.declared.rows.Outcome.{Outcome}
use Rattle.fts_tables.specs.declared.rows.Outcome.TheVariants.{Stopped}
use Rattle.fts_tables.specs.declared.commands.Entry.{Entry}
use Rattle.fts_tables.specs.declared.commands.Refusal.{Refusal}
use Rattle.fts_tables.specs.declared.commands.Command.{Command}
use Rattle.fts_tables.specs.declared.commands.Command.TheVariants.{Claim, Report, Expire}
use Rattle.fts_tables.specs.declared.commands.Answer.{Answer}
use Rattle.fts_tables.specs.declared.commands.Answer.TheVariants.{Restarted, Submitted, Cancelled, PrioritySet, Claimed, Reported, Banned, Unbanned, Expired}
use Rattle.fts_turnstile.specs.History.{Among}
use Rattle.fts_keep.specs.Applied.{entry_by}
use Rattle.fts_keep.specs.declared.fault.KeepFault.{KeepFault}
use Rattle.fts_keep.specs.declared.fault.KeepFault.TheVariants.{Rule, DiskFailed, JournalFull, Damaged, Memory}
use Rattle.fts_workers.specs.declared.held.Held.{Held}
use Rattle.fts_workers.proofs.Accepted.{legal_front}
use Rattle.fts_workers.specs.ClaimSteps.{AnswersExpiry}
use Rattle.fts_shop.specs.Shops.{AnswersReport, added_by}
use Rattle.fts_shop.specs.Within.{is_cancel_asked}
use Rattle.fts_shop.specs.Looking.{NoneOf}
use Rattle.fts_shop.specs.Looked.{asked_stays, none_on}
use Rattle.fts_shop.specs.Turns.{held_with, is_over}
use Rattle.fts_ledger.specs.Claims.{Claimant, IsOut, IsOwn, claim_after, last_claim}
use Rattle.fts_ledger.specs.Reports.{AddsWork, EachReport, IsWork, ReportsOwn, StopsAsked}
use Rattle.fts_ledger.specs.Fitting.{AreHeldFor, Fits, IsLastOwn}
use Rattle.fts_ledger.proofs.Lists.{among_last, among_without, each_append, each_claim, each_expiry, each_none, each_one, work_append, work_none}
use Rattle.fts_ledger.specs.Machine.{Machine}
use Rattle.fts_ledger.proofs.Moved.{moves}
use Rattle.fts_ledger.proofs.Walks.{attempt_by_own, own_by_attempt, report_accepted, reported_at, whole_still}

-- what a command came to behind a list, where it was accepted or refused by the machine
abbrev pub Came : List Entry → Command → Result Answer KeepFault → Type 0
Came entries command (Ok answer) = (after : Tables) × (step (tables_of entries) command ≡ Ok (after, answer))
Came entries command (Err (Rule refusal)) = step (tables_of entries) command ≡ Err refusal
Came entries command (Err DiskFailed) = Unit {0}
Came entries command (Err (JournalFull used)) = Unit {0}
Came entries command (Err Memory) = Unit {0}
Came entries command (Err (Damaged offset)) = Unit {0}

-- a command was tried behind entries of others, and stands in the list where it was accepted
pub record Tried (opening : List Entry) (writer : ℕ) (before after : List Entry) (command : Command) (result : Result Answer KeepFault) : Type 0 where
  pub others : List Entry
  pub none : NoneOf writer others
  pub after_is : after ≡ (before ++ others) ++ added_by (entry_by writer command) result
  pub came : Came (opening ++ (before ++ others)) command result

-- an expiry was tried behind entries of others, and then a claim, with nothing of others between; where no claim was tried, the fault of the expiry stands
-- for what it came to
pub record Stepped (opening : List Entry) (writer : ℕ) (before after : List Entry) (now word : ℕ) (expiry result : Result Answer KeepFault) : Type 0 where
  pub middle : List Entry
  pub expired : Tried opening writer before middle (Expire now) expiry
  pub claimed : Tried opening writer middle after (Claim now word) result

-- entries behind others: what holds of the reports among them, and that a bench then fits
pub record Turned (opening : List Entry) (writer : ℕ) (before after : List Entry) (held : List Held) : Type 0 where
  pub since : List Entry
  pub after_is : after ≡ before ++ since
  pub work : AddsWork writer since
  pub own : ReportsOwn writer opening before since
  pub stops : StopsAsked writer (opening ++ before) since
  pub fits : Fits writer opening after held

-- the first part of a legal list is legal
pub legal_back : (opening before after since : List Entry) → after ≡ before ++ since → IsLegal (opening ++ after) → IsLegal (opening ++ before)
legal_back opening before after since is legal = legal_front empty_tables (opening ++ before) since
    (subst IsLegal (ap (λ list. opening ++ list) is ∙ sym (append_assoc opening before since)) legal)

-- where cancel was asked, it is asked behind more
pub asked_more : (opening entries more : List Entry) (file : ℕ) → is_cancel_asked (tables_of (opening ++ entries)) file ≡ true
    → is_cancel_asked (tables_of (opening ++ (entries ++ more))) file ≡ true
asked_more opening entries more file asked = subst (λ list. is_cancel_asked (tables_of list) file ≡ true) (append_assoc opening entries more)
    (asked_stays (opening ++ entries) more file asked)

-- a claim is the writer's last entry behind entries of others too
pub last_own_more : (writer : ℕ) (opening entries others : List Entry) (file attempt : ℕ) → NoneOf writer others
    → IsLastOwn writer opening entries file attempt → IsLastOwn writer opening (entries ++ others) file attempt
last_own_more writer opening entries others file attempt none own = record {
  earlier = own.earlier;
  now = own.now;
  word = own.word;
  later = own.later ++ others;
  split = ap (λ list. list ++ others) own.split ∙ append_assoc own.earlier (entry_by writer (Claim own.now own.word) ∷ own.later) others;
  after = own.after;
  answered = own.answered;
  none_since = none_on writer own.later others own.none_since none;
}

-- what is held is held behind entries of others too
held_more : (writer : ℕ) (opening entries others : List Entry) (held : List Held) → NoneOf writer others → AreHeldFor writer opening entries held
    → AreHeldFor writer opening (entries ++ others) held
held_more writer opening entries others [] none each = tt
held_more writer opening entries others (one ∷ held) none each = (
  record {
    ended = each.0.ended;
    claimed = last_own_more writer opening entries others one.file one.attempt none each.0.claimed;
    stopped = λ is. asked_more opening entries others one.file (each.0.stopped is);
  },
  held_more writer opening entries others held none each.1,
)

-- behind a writer's claim the claimed file is the only one that is out and that the writer claimed last, where none was before
claim_whole : (writer : ℕ) (files : List ℕ) (one : ℕ) (last : Option Claimant) (file attempt : ℕ) → (Among one files → IsOwn writer last → Among one [])
    → Among one (without file files ++ file ∷ []) → IsOwn writer (claim_after one last writer (Claimed file attempt)) → Among one (file ∷ [])
claim_whole writer files one last file attempt was among own = by (file == one) refl own
  where
    by : (same : Bool) → (file == one) ≡ same → IsOwn writer (cond same (Some (record { writer = writer; attempt = attempt })) last) → Among one (file ∷ [])
    by true at is = inl (sym (eqb-true file one at))
    by false at is = ⊎_elim
        (λ there. absurd (was (among_without one file files there).0 is))
        (λ here. inl here)
        (among_last one file (without file files) among)

module _ (machine : Machine) (opening : List Entry) (writer : ℕ) where
  -- a bench fits behind entries of others too
  pub fits_more : (entries others : List Entry) (held : List Held) → IsLegal (opening ++ (entries ++ others)) → NoneOf writer others
      → Fits writer opening entries held → Fits writer opening (entries ++ others) held
  fits_more entries others held legal none fits = record {
    ready = fits.ready;
    each = held_more writer opening entries others held none fits.each;
    whole = whole_still machine opening writer (map (λ (one : Held). one.file) held) entries others legal none fits.whole;
  }

  -- entries of others
  pub turned_others : (before others : List Entry) (held : List Held) → IsLegal (opening ++ (before ++ others)) → NoneOf writer others
      → Fits writer opening before held → Turned opening writer before (before ++ others) held
  turned_others before others held legal none fits = record {
    since = others;
    after_is = refl;
    work = work_none writer others none;
    own = each_none writer others (λ earlier file outcome. IsOwn writer (last_claim file opening (before ++ earlier))) none;
    stops = each_none writer others
        (λ earlier file outcome. outcome ≡ Stopped → is_cancel_asked (tables_of ((opening ++ before) ++ earlier)) file ≡ true) none;
    fits = fits_more before others held legal none fits;
  }

  -- turns behind turns
  pub turned_on : (before middle after : List Entry) (held left : List Held) → Turned opening writer before middle held
      → Turned opening writer middle after left → Turned opening writer before after left
  turned_on before middle after held left one two = record {
    since = one.since ++ two.since;
    after_is = two.after_is ∙ ap (λ list. list ++ two.since) one.after_is ∙ append_assoc before one.since two.since;
    work = work_append writer one.since two.since one.work two.work;
    own = each_append writer one.since two.since (λ earlier file outcome. IsOwn writer (last_claim file opening (before ++ earlier))) one.own
        (λ earlier later now file attempt outcome is. subst (λ list. IsOwn writer (last_claim file opening list))
        (ap (λ list. list ++ earlier) one.after_is ∙ append_assoc before one.since earlier)
        (two.own earlier later now file attempt outcome is));
    stops = each_append writer one.since two.since
        (λ earlier file outcome. outcome ≡ Stopped → is_cancel_asked (tables_of ((opening ++ before) ++ earlier)) file ≡ true) one.stops
        (λ earlier later now file attempt outcome is stopped. subst (λ list. is_cancel_asked (tables_of list) file ≡ true)
        (ap (λ list. (opening ++ list) ++ earlier) one.after_is ∙ ap (λ list. list ++ earlier) (sym (append_assoc opening before one.since))
        ∙ append_assoc (opening ++ before) one.since earlier)
        (two.stops earlier later now file attempt outcome is stopped));
    fits = two.fits;
  }

  -- a list that is another
  pub turned_as : (before after other : List Entry) (held : List Held) → other ≡ after → Turned opening writer before after held
      → Turned opening writer before other held
  turned_as before after other held is turned = subst (λ list. Turned opening writer before list held) (sym is) turned

  -- two steps that are one are answered alike
  same_answer : (came : Outcomes) (one other : Tables × Answer) → came ≡ Ok one → came ≡ Ok other → one.1 ≡ other.1
  same_answer came one other is_one is_other =
      let same : ◌≡◌ {A = Outcomes} (Ok one) (Ok other) = sym is_one ∙ is_other in
      let pair : one ≡ other = cc in
      ap (λ (d : Tables × Answer). d.1) pair

  -- entries of others, and behind them one of the writer's
  turned_one : (before others : List Entry) (entry : Entry) (left : List Held) → NoneOf writer others → (entry.writer ≡ writer → IsWork entry.command)
      → EachReport writer (entry ∷ []) (λ earlier file outcome. IsOwn writer (last_claim file opening (before ++ (others ++ earlier))))
      → EachReport writer (entry ∷ [])
      (λ earlier file outcome. outcome ≡ Stopped → is_cancel_asked (tables_of ((opening ++ before) ++ (others ++ earlier))) file ≡ true)
      → Fits writer opening ((before ++ others) ++ entry ∷ []) left → Turned opening writer before ((before ++ others) ++ entry ∷ []) left
  turned_one before others entry left none work own stops fits = record {
    since = others ++ entry ∷ [];
    after_is = append_assoc before others (entry ∷ []);
    work = work_append writer others (entry ∷ []) (work_none writer others none) (work, tt);
    own = each_append writer others (entry ∷ []) (λ earlier file outcome. IsOwn writer (last_claim file opening (before ++ earlier)))
        (each_none writer others (λ earlier file outcome. IsOwn writer (last_claim file opening (before ++ earlier))) none) own;
    stops = each_append writer others (entry ∷ [])
        (λ earlier file outcome. outcome ≡ Stopped → is_cancel_asked (tables_of ((opening ++ before) ++ earlier)) file ≡ true)
        (each_none writer others
        (λ earlier file outcome. outcome ≡ Stopped → is_cancel_asked (tables_of ((opening ++ before) ++ earlier)) file ≡ true) none) stops;
    fits = fits;
  }

  -- an expiry that was accepted, behind entries of others: it takes no file from the writer, is no claim and no report
  expiry_turned : (before others : List Entry) (now : ℕ) (tables : Tables) (count : ℕ) → NoneOf writer others
      → IsLegal (opening ++ ((before ++ others) ++ entry_by writer (Expire now) ∷ []))
      → step (tables_of (opening ++ (before ++ others))) (Expire now) ≡ Ok (tables, Expired count) → Fits writer opening before []
      → Turned opening writer before ((before ++ others) ++ entry_by writer (Expire now) ∷ []) []
  expiry_turned before others now tables count none legal came fits =
      let entry = entry_by writer (Expire now) in
      let middle = before ++ others in
      let there = fits_more before others [] (legal_back opening middle (middle ++ entry ∷ []) (entry ∷ []) refl legal) none fits in
      let m = moves machine opening middle entry legal in
      let answer : m.done.1 ≡ Expired count = same_answer (step (tables_of (opening ++ middle)) (Expire now)) m.done (tables, Expired count) m.came came in
      turned_one before others entry [] none (λ is. tt)
      (each_expiry writer now (λ earlier one ended. IsOwn writer (last_claim one opening (before ++ (others ++ earlier)))))
      (each_expiry writer now (λ earlier one ended. ended ≡ Stopped → is_cancel_asked (tables_of ((opening ++ before) ++ (others ++ earlier))) one ≡ true))
      (record {
        ready = tt;
        each = tt;
        whole = λ one out own. there.whole one
            (subst (λ a. Among one (out_after (out_of_list (opening ++ middle)) a)) answer (subst (Among one) m.out out))
            (subst (λ a. IsOwn writer (claim_after one (last_claim one opening middle) writer a)) answer (subst (IsOwn writer) (m.last one) own));
      })

  -- however it is answered
  pub expiry_tried : (before after : List Entry) (now : ℕ) (result : Result Answer KeepFault) → Tried opening writer before after (Expire now) result
      → AnswersExpiry result → IsLegal (opening ++ after) → Fits writer opening before [] → Turned opening writer before after []
  expiry_tried before after now result tried answers legal fits = by result refl
    where
      after_by : (r : Result Answer KeepFault) → result ≡ r → after ≡ (before ++ tried.others) ++ added_by (entry_by writer (Expire now)) r
      after_by r is = tried.after_is ∙ ap (λ s. (before ++ tried.others) ++ added_by (entry_by writer (Expire now)) s) is

      legal_by : (r : Result Answer KeepFault) → result ≡ r → IsLegal (opening ++ ((before ++ tried.others) ++ added_by (entry_by writer (Expire now)) r))
      legal_by r is = subst (λ list. IsLegal (opening ++ list)) (after_by r is) legal

      -- nothing was added
      none_added : after ≡ (before ++ tried.others) ++ [] → Turned opening writer before after []
      none_added is =
          let same = is ∙ append-nil (before ++ tried.others) in
          turned_as before (before ++ tried.others) after [] same
          (turned_others before tried.others [] (subst (λ list. IsLegal (opening ++ list)) same legal) tried.none fits)

      by_answer : (answer : Answer) → result ≡ Ok answer → AnswersExpiry (Ok answer) → Turned opening writer before after []
      by_answer (Expired count) is fine =
          let came = subst (Came (opening ++ (before ++ tried.others)) (Expire now)) is tried.came in
          turned_as before _ after [] (after_by (Ok (Expired count)) is)
          (expiry_turned before tried.others now came.0 count tried.none (legal_by (Ok (Expired count)) is) came.1 fits)
      by_answer (Restarted count) is fine = absurd fine
      by_answer (Submitted job id) is fine = absurd fine
      by_answer (Cancelled job) is fine = absurd fine
      by_answer (PrioritySet job) is fine = absurd fine
      by_answer (Claimed file attempt) is fine = absurd fine
      by_answer (Reported file state) is fine = absurd fine
      by_answer (Banned count) is fine = absurd fine
      by_answer Unbanned is fine = absurd fine

      by : (r : Result Answer KeepFault) → result ≡ r → Turned opening writer before after []
      by (Ok answer) is = by_answer answer is (subst AnswersExpiry is answers)
      by (Err fault) is = none_added (after_by (Err fault) is)

  -- a file that is held alone
  only_held : (file one : ℕ) → Among file (one ∷ []) → file ≡ one
  only_held file one (inl is) = is
  only_held file one (inr none) = absurd none

  module _ (before others : List Entry) (none : NoneOf writer others) (held : Held) (outcome : Outcome) (kept : held.outcome ≡ Some outcome) (now : ℕ)
      (fits : Fits writer opening (before ++ others) (held ∷ [])) where
    -- it was accepted
    pub report_turned : (tables : Tables) (left : Answer) → IsLegal (opening ++ ((before ++ others) ++ entry_by writer (Report now held.file held.attempt outcome) ∷ []))
        → step (tables_of (opening ++ (before ++ others))) (Report now held.file held.attempt outcome) ≡ Ok (tables, left)
        → AnswersReport held.file (Ok left)
        → Turned opening writer before ((before ++ others) ++ entry_by writer (Report now held.file held.attempt outcome) ∷ []) []
    report_turned tables (Restarted count) legal came answers = absurd answers
    report_turned tables (Submitted job id) legal came answers = absurd answers
    report_turned tables (Cancelled job) legal came answers = absurd answers
    report_turned tables (PrioritySet job) legal came answers = absurd answers
    report_turned tables (Claimed claimed attempt) legal came answers = absurd answers
    report_turned tables (Reported file state) legal came answers =
        let entry = entry_by writer (Report now held.file held.attempt outcome) in
        let middle = before ++ others in
        let fine = legal_back opening middle (middle ++ entry ∷ []) (entry ∷ []) refl legal in
        let m = moves machine opening middle entry legal in
        let answer : m.done.1 ≡ Reported file state = same_answer (step (tables_of (opening ++ middle)) entry.command) m.done (tables, Reported file state) m.came came in
        let stands = reported_at (tables_of (opening ++ middle)) now held.file held.attempt outcome (tables, Reported file state) came in
        let own = own_by_attempt machine opening writer middle fine held.file held.attempt fits.each.0.claimed stands.attempt_is in
        let still = sym (append-nil others) in
        turned_one before others entry [] none (λ is. tt)
        (each_one writer now held.file held.attempt outcome (λ earlier one ended. IsOwn writer (last_claim one opening (before ++ (others ++ earlier))))
        (subst (λ list. IsOwn writer (last_claim held.file opening (before ++ list))) still own))
        (each_one writer now held.file held.attempt outcome
        (λ earlier one ended. ended ≡ Stopped → is_cancel_asked (tables_of ((opening ++ before) ++ (others ++ earlier))) one ≡ true)
        (λ is. subst (λ list. is_cancel_asked (tables_of list) held.file ≡ true)
        (sym (append_assoc opening before others) ∙ ap (λ list. (opening ++ before) ++ list) still)
        (fits.each.0.stopped (kept ∙ ap (λ o. Some o) is))))
        (record {
          ready = tt;
          each = tt;
          whole = λ one out is_own.
              let there = among_without one file (out_of_list (opening ++ middle))
              (subst (λ a. Among one (out_after (out_of_list (opening ++ middle)) a)) answer (subst (Among one) m.out out)) in
              let was : IsOwn writer (last_claim one opening middle) =
              subst (λ a. IsOwn writer (claim_after one (last_claim one opening middle) writer a)) answer (subst (IsOwn writer) (m.last one) is_own) in
              absurd (there.1 (only_held one held.file (fits.whole one there.0 was) ∙ sym answers.0));
        })
    report_turned tables (Banned count) legal came answers = absurd answers
    report_turned tables Unbanned legal came answers = absurd answers
    report_turned tables (Expired count) legal came answers = absurd answers

    -- it was refused: then nothing that the writer claimed last is out
    pub refused_fits : (refusal : Refusal) → IsLegal (opening ++ (before ++ others))
        → step (tables_of (opening ++ (before ++ others))) (Report now held.file held.attempt outcome) ≡ Err refusal
        → Fits writer opening (before ++ others) []
    refused_fits refusal legal came = record {
      ready = tt;
      each = tt;
      whole = λ one out own.
          let is = only_held one held.file (fits.whole one out own) in
          let out_here : IsOut held.file (opening ++ (before ++ others)) = subst (λ f. IsOut f (opening ++ (before ++ others))) is out in
          let own_here : IsOwn writer (last_claim held.file opening (before ++ others)) =
          subst (λ f. IsOwn writer (last_claim f opening (before ++ others))) is own in
          absurd (report_accepted machine (opening ++ (before ++ others)) legal now held.file held.attempt outcome refusal out_here
          (attempt_by_own machine opening writer (before ++ others) legal held.file held.attempt fits.each.0.claimed own_here) came);
    }

  -- the report of what is held, however it is answered
  pub report_tried : (before after : List Entry) (held : Held) (outcome : Outcome) (now : ℕ) (result : Result Answer KeepFault) → held.outcome ≡ Some outcome
      → Tried opening writer before after (Report now held.file held.attempt outcome) result → AnswersReport held.file result → IsLegal (opening ++ after)
      → Fits writer opening before (held ∷ []) → Turned opening writer before after (if is_over result then [] else held ∷ [])
  report_tried before after held outcome now result kept tried answers legal fits = by result refl
    where
      after_by : (r : Result Answer KeepFault) → result ≡ r → after ≡ (before ++ tried.others) ++ added_by (entry_by writer (Report now held.file held.attempt outcome)) r
      after_by r is = tried.after_is ∙ ap (λ s. (before ++ tried.others) ++ added_by (entry_by writer (Report now held.file held.attempt outcome)) s) is

      came_by : (r : Result Answer KeepFault) → result ≡ r → Came (opening ++ (before ++ tried.others)) (Report now held.file held.attempt outcome) r
      came_by r is = subst (Came (opening ++ (before ++ tried.others)) (Report now held.file held.attempt outcome)) is tried.came

      legal_by : (r : Result Answer KeepFault) → result ≡ r
          → IsLegal (opening ++ ((before ++ tried.others) ++ added_by (entry_by writer (Report now held.file held.attempt outcome)) r))
      legal_by r is = subst (λ list. IsLegal (opening ++ list)) (after_by r is) legal

      fine : IsLegal (opening ++ (before ++ tried.others))
      fine = legal_back opening (before ++ tried.others) after (added_by (entry_by writer (Report now held.file held.attempt outcome)) result) tried.after_is legal

      fits_there : Fits writer opening (before ++ tried.others) (held ∷ [])
      fits_there = fits_more before tried.others (held ∷ []) fine tried.none fits

      -- nothing was added, and the file is held on
      kept_on : after ≡ (before ++ tried.others) ++ [] → Turned opening writer before after (held ∷ [])
      kept_on is = turned_as before (before ++ tried.others) after (held ∷ []) (is ∙ append-nil (before ++ tried.others))
          (turned_others before tried.others (held ∷ []) fine tried.none fits)

      given_up : (refusal : Refusal) → after ≡ (before ++ tried.others) ++ []
          → step (tables_of (opening ++ (before ++ tried.others))) (Report now held.file held.attempt outcome) ≡ Err refusal
          → Turned opening writer before after []
      given_up refusal is came =
          let turned = turned_others before tried.others (held ∷ []) fine tried.none fits in
          turned_as before (before ++ tried.others) after [] (is ∙ append-nil (before ++ tried.others)) (record {
            since = turned.since;
            after_is = turned.after_is;
            work = turned.work;
            own = turned.own;
            stops = turned.stops;
            fits = refused_fits before tried.others tried.none held outcome kept now fits_there refusal fine came;
          })

      by : (r : Result Answer KeepFault) → result ≡ r → Turned opening writer before after (if is_over r then [] else held ∷ [])
      by (Ok answer) is = turned_as before _ after [] (after_by (Ok answer) is)
          (report_turned before tried.others tried.none held outcome kept now fits_there (came_by (Ok answer) is).0 answer (legal_by (Ok answer) is)
          (came_by (Ok answer) is).1 (subst (AnswersReport held.file) is answers))
      by (Err (Rule refusal)) is = given_up refusal (after_by (Err (Rule refusal)) is) (came_by (Err (Rule refusal)) is)
      by (Err DiskFailed) is = kept_on (after_by (Err DiskFailed) is)
      by (Err (JournalFull used)) is = kept_on (after_by (Err (JournalFull used)) is)
      by (Err Memory) is = kept_on (after_by (Err Memory) is)
      by (Err (Damaged offset)) is = kept_on (after_by (Err (Damaged offset)) is)

  -- a claim behind entries of others, and then entries of others again, while its file is copied: the bench that holds the file fits
  pub claim_turned : (before others looked : List Entry) (now word file attempt : ℕ) (outcome : Outcome) (tables : Tables) → NoneOf writer others
      → NoneOf writer looked
      → IsLegal (opening ++ (((before ++ others) ++ entry_by writer (Claim now word) ∷ []) ++ looked))
      → step (tables_of (opening ++ (before ++ others))) (Claim now word) ≡ Ok (tables, Claimed file attempt)
      → (outcome ≡ Stopped → is_cancel_asked (tables_of (opening ++ (((before ++ others) ++ entry_by writer (Claim now word) ∷ []) ++ looked))) file ≡ true)
      → Fits writer opening before []
      → Turned opening writer before (((before ++ others) ++ entry_by writer (Claim now word) ∷ []) ++ looked) (held_with file attempt outcome ∷ [])
  claim_turned before others looked now word file attempt outcome tables none none_looked legal came asked fits =
      let entry = entry_by writer (Claim now word) in
      let middle = before ++ others in
      let claimed = middle ++ entry ∷ [] in
      let all = claimed ++ looked in
      let fine = legal_back opening claimed all looked refl legal in
      let before_it = legal_back opening middle claimed (entry ∷ []) refl fine in
      let there = fits_more before others [] before_it none fits in
      let m = moves machine opening middle entry fine in
      let answer : m.done.1 ≡ Claimed file attempt = same_answer (step (tables_of (opening ++ middle)) (Claim now word)) m.done (tables, Claimed file attempt) m.came came in
      let own : IsLastOwn writer opening claimed file attempt = record {
        earlier = middle;
        now = now;
        word = word;
        later = [];
        split = refl;
        after = tables;
        answered = came;
        none_since = tt;
      } in
      let whole : (one : ℕ) → IsOut one (opening ++ claimed) → IsOwn writer (last_claim one opening claimed) → Among one (file ∷ []) = λ one out is_own.
      claim_whole writer (out_of_list (opening ++ middle)) one (last_claim one opening middle) file attempt
      (λ among is. there.whole one among is)
      (subst (λ a. Among one (out_after (out_of_list (opening ++ middle)) a)) answer (subst (Among one) m.out out))
      (subst (λ a. IsOwn writer (claim_after one (last_claim one opening middle) writer a)) answer (subst (IsOwn writer) (m.last one) is_own)) in
      record {
        since = (others ++ entry ∷ []) ++ looked;
        after_is = ap (λ list. list ++ looked) (append_assoc before others (entry ∷ [])) ∙ append_assoc before (others ++ entry ∷ []) looked;
        work = work_append writer (others ++ entry ∷ []) looked
            (work_append writer others (entry ∷ []) (work_none writer others none) ((λ is. tt), tt)) (work_none writer looked none_looked);
        own = each_append writer (others ++ entry ∷ []) looked (λ earlier one ended. IsOwn writer (last_claim one opening (before ++ earlier)))
            (each_append writer others (entry ∷ []) (λ earlier one ended. IsOwn writer (last_claim one opening (before ++ earlier)))
            (each_none writer others (λ earlier one ended. IsOwn writer (last_claim one opening (before ++ earlier))) none)
            (each_claim writer now word (λ earlier one ended. IsOwn writer (last_claim one opening (before ++ (others ++ earlier))))))
            (each_none writer looked (λ earlier one ended. IsOwn writer (last_claim one opening (before ++ ((others ++ entry ∷ []) ++ earlier)))) none_looked);
        stops = each_append writer (others ++ entry ∷ []) looked
            (λ earlier one ended. ended ≡ Stopped → is_cancel_asked (tables_of ((opening ++ before) ++ earlier)) one ≡ true)
            (each_append writer others (entry ∷ [])
            (λ earlier one ended. ended ≡ Stopped → is_cancel_asked (tables_of ((opening ++ before) ++ earlier)) one ≡ true)
            (each_none writer others (λ earlier one ended. ended ≡ Stopped → is_cancel_asked (tables_of ((opening ++ before) ++ earlier)) one ≡ true) none)
            (each_claim writer now word
            (λ earlier one ended. ended ≡ Stopped → is_cancel_asked (tables_of ((opening ++ before) ++ (others ++ earlier))) one ≡ true)))
            (each_none writer looked
            (λ earlier one ended. ended ≡ Stopped → is_cancel_asked (tables_of ((opening ++ before) ++ ((others ++ entry ∷ []) ++ earlier))) one ≡ true)
            none_looked);
        fits = record {
          ready = refl;
          each = (
            record {
              ended = refl;
              claimed = last_own_more writer opening claimed looked file attempt none_looked own;
              stopped = λ is. asked (some_outcome outcome Stopped is);
            },
            tt,
          );
          whole = whole_still machine opening writer (file ∷ []) claimed looked legal none_looked whole;
        };
      }
    where
      some_outcome : (one other : Outcome) → Some one ≡ Some other → one ≡ other
      some_outcome one other is = cc
