-- Where nobody takes a file from a pass, no turn of it is stale, and its station's store follows from its own reports.
use Rattle.std.proofs.Common.{◌≡◌, ◌≢◌, refl, sym, ap, ◌∙◌, subst, ℕ, zero, suc, Bool, List, [], ◌∷◌, ◌++◌, Option, Result, Ok, Err, append-nil}
use Rattle.std.specs.Prelude.{◌==◌, if◌then◌else◌}
use Rattle.std.proofs.lemmas.List.{append_cancel_left}
use Rattle.fts_tables.specs.Coming.{Coming}
use Rattle.fts_tables.specs.Tables.{empty_tables}
use Rattle.fts_tables.specs.History.{IsLegal, tables_from, tables_of}
use Rattle.fts_tables.specs.declared.rows.FileState.{FileState}
use Rattle.fts_tables.specs.declared.rows.FileState.TheVariants as state_is
use Rattle.fts_tables.specs.declared.rows.Outcome.{Outcome}
use Rattle.fts_tables.specs.declared.commands.Entry.{Entry}
use Rattle.fts_tables.specs.declared.commands.Refusal.{Refusal}
use Rattle.fts_tables.specs.declared.commands.Command.TheVariants.{Claim, Report, Expire}
use Rattle.fts_tables.specs.declared.commands.Answer.{Answer}
use Rattle.fts_tables.specs.declared.commands.Answer.TheVariants.{Restarted, Submitted, Cancelled, PrioritySet, Claimed, Reported, Banned, Unbanned, Expired}
use Rattle.fts_turnstile.specs.declared.turn.LoggedTurn.{LoggedTurn}
use Rattle.fts_turnstile.specs.History.{items_of}
use Rattle.fts_turnstile.specs.Passes.{PassView, seen_list}
use Rattle.fts_keep.specs.Applied.{entry_by}
use Rattle.fts_keep.specs.declared.fault.KeepFault.{KeepFault}
use Rattle.fts_keep.specs.declared.fault.KeepFault.TheVariants.{Rule, DiskFailed, JournalFull, Damaged, Memory}
use Rattle.fts_workers.specs.Copies.{FollowsReports, copies_from, copies_kept, copies_of_file}
use Rattle.fts_workers.specs.declared.held.Held.{Held}
use Rattle.fts_shop.specs.Shops.{AnswersReport, IsEndState, StepInTurn, added_by, step_answer}
use Rattle.fts_workers.proofs.Copied.{copies_from-append, tables_from-append}
use Rattle.fts_shop.specs.Looking.{NoneOf}
use Rattle.fts_shop.specs.Looked.{items_on}
use Rattle.fts_shop.specs.Turns.{GoesOn, HandData, IsTurn, ReportTurn, end_by_claim, end_by_report, end_by_state, held_with, idle_end, is_over}
use Rattle.fts_shop.specs.Workers.{AreTurns, StationData, TakesOne, WorkerDone}
use Rattle.fts_shop.specs.declared.ends.Turn.{Turn}
use Rattle.fts_shop.specs.declared.ends.Turn.TheVariants as turn_ends
use Rattle.fts_ledger.specs.Reports.{IsUndisturbed}
use Rattle.fts_ledger.specs.Fitting.{Fits, IsLastOwn}
use Rattle.fts_ledger.specs.Ledger.{AreFresh, FollowsOwn, KeepsItsFiles, MayKeep}
use Rattle.fts_ledger.proofs.Followed.{Followed, OrdersStay, followed_as, followed_claim, followed_expiry, followed_on, followed_others, followed_report, holds_own, copies_none}
use Rattle.fts_ledger.proofs.Fresh.{undisturbed_accepted}
use Rattle.fts_ledger.specs.Machine.{Machine}
use Rattle.fts_ledger.proofs.InTurns.{stepped_for, tried_for}
use Rattle.fts_ledger.proofs.Passed.{Grown, grown_copies, grown_on, grown_taken, grown_turn, grown_turns, items_grown, legal_grown, legal_of, turn_turned, turns_turned}
use Rattle.fts_ledger.proofs.Stations.{undisturbed_before}
use Rattle.fts_ledger.proofs.Turned.{Came, Tried, last_own_more, legal_back}
use Rattle.fts_store.specs.declared.store.Store as store

-- no turn whose report was answered with a state, or by a fault of the disk, the journal or memory, is stale
fresh_state : (held file : ℕ) (left : FileState) → IsEndState left → ◌≡◌ {A = Turn} (end_by_state held left) (turn_ends.Stale file) → ⊥
fresh_state held file state_is.Submitted ends is = absurd cc
fresh_state held file state_is.Active ends is = absurd ends
fresh_state held file state_is.Finished ends is = absurd cc
fresh_state held file state_is.Failed ends is = absurd cc
fresh_state held file state_is.Canceled ends is = absurd cc
fresh_state held file state_is.NotUsed ends is = absurd ends

fresh_report : (held file lanes : ℕ) (answer : Answer) → AnswersReport held (Ok answer)
    → ◌≡◌ {A = Turn} (end_by_report held lanes (Ok answer)) (turn_ends.Stale file) → ⊥
fresh_report held file lanes (Reported reported left) answers is = fresh_state held file left answers.1 is
fresh_report held file lanes _ answers is = absurd answers

fresh_idle : (file lanes : ℕ) → ◌≡◌ {A = Turn} (idle_end lanes) (turn_ends.Stale file) → ⊥
fresh_idle file zero is = absurd cc
fresh_idle file (suc more) is = absurd cc

fresh_claim : (file lanes : ℕ) (fault : KeepFault) → ◌≡◌ {A = Turn} (end_by_claim lanes fault) (turn_ends.Stale file) → ⊥
fresh_claim file lanes (Rule refusal) is = fresh_idle file lanes is
fresh_claim file lanes DiskFailed is = absurd cc
fresh_claim file lanes (JournalFull used) is = absurd cc
fresh_claim file lanes Memory is = absurd cc
fresh_claim file lanes (Damaged offset) is = absurd cc

module _ {E : Type 0} (stores : store.Ghosts E) (machine : Machine) (orders : OrdersStay)
    (opening : List Entry) (writer : ℕ) where
  -- what a turn comes to where nobody takes a file: the store follows, and it isn't stale
  pub record GoesWell (before after : List Entry) (held left : List Held) (old new : E) (end : Turn) : Type 0 where
    pub followed : Followed stores opening writer before after held left old new
    pub fresh : (file : ℕ) → end ≢ turn_ends.Stale file

  -- the report of what is held
  report_well : (old new : PassView Entry) (moments later : Option Coming) (held : Held) (outcome : Outcome) (end : Turn) (left : List Held) (store : E)
      → old.opening ≡ opening → old.number ≡ writer → IsLegal (opening ++ items_of new.seen) → IsLastOwn writer opening (items_of old.seen) held.file held.attempt
      → IsUndisturbed writer opening (items_of new.seen) → ReportTurn old new moments later held outcome end left
      → GoesWell (items_of old.seen) (items_of new.seen) (held ∷ []) left store store end
  report_well old new moments later held outcome end left store opens number legal own free turn = record {
    followed = subst (λ kept. Followed stores opening writer (items_of old.seen) (items_of new.seen) (held ∷ []) kept store store) (sym turn.leaves)
        (by turn.result refl);
    fresh = λ file is. fresh_by file turn.result refl (sym turn.ends ∙ is);
  }
    where
      at : Tried opening writer (items_of old.seen) (items_of new.seen) (Report turn.now held.file held.attempt outcome) turn.result
      at = tried_for old new opening writer (Report turn.now held.file held.attempt outcome) turn.result turn.lanes opens number turn.tried

      legal_mid : IsLegal (opening ++ (items_of old.seen ++ at.others))
      legal_mid = legal_back opening (items_of old.seen ++ at.others) (items_of new.seen)
          (added_by (entry_by writer (Report turn.now held.file held.attempt outcome)) turn.result) at.after_is legal

      own_mid : IsLastOwn writer opening (items_of old.seen ++ at.others) held.file held.attempt
      own_mid = last_own_more writer opening (items_of old.seen) at.others held.file held.attempt at.none own

      free_mid : IsUndisturbed writer opening (items_of old.seen ++ at.others)
      free_mid = undisturbed_before writer opening (items_of old.seen ++ at.others)
          (added_by (entry_by writer (Report turn.now held.file held.attempt outcome)) turn.result)
          (subst (IsUndisturbed writer opening) at.after_is free)

      first : Followed stores opening writer (items_of old.seen) (items_of old.seen ++ at.others) (held ∷ []) (held ∷ []) store store
      first = followed_others stores opening writer machine orders (items_of old.seen) at.others (held ∷ []) store legal_mid at.none own free_mid

      after_by : (r : Result Answer KeepFault) → turn.result ≡ r
          → items_of new.seen ≡ (items_of old.seen ++ at.others) ++ added_by (entry_by writer (Report turn.now held.file held.attempt outcome)) r
      after_by r is = at.after_is
          ∙ ap (λ s. (items_of old.seen ++ at.others) ++ added_by (entry_by writer (Report turn.now held.file held.attempt outcome)) s) is

      refused : (refusal : Refusal) → turn.result ≡ Err (Rule refusal) → ⊥
      refused refusal is = undisturbed_accepted machine opening writer (items_of old.seen ++ at.others) turn.now held.file held.attempt outcome refusal legal_mid
          own_mid free_mid (subst (Came (opening ++ (items_of old.seen ++ at.others)) (Report turn.now held.file held.attempt outcome)) is at.came)

      kept_on : items_of new.seen ≡ (items_of old.seen ++ at.others) ++ []
          → Followed stores opening writer (items_of old.seen) (items_of new.seen) (held ∷ []) (held ∷ []) store store
      kept_on is = followed_as stores opening writer (items_of old.seen) (items_of old.seen ++ at.others) (items_of new.seen) (held ∷ []) (held ∷ [])
          store store (is ∙ append-nil (items_of old.seen ++ at.others)) first

      by : (r : Result Answer KeepFault) → turn.result ≡ r
          → Followed stores opening writer (items_of old.seen) (items_of new.seen) (held ∷ []) (if is_over r then [] else held ∷ []) store store
      by (Ok answer) is =
          let middle = items_of old.seen ++ at.others in
          followed_as stores opening writer (items_of old.seen) (middle ++ entry_by writer (Report turn.now held.file held.attempt outcome) ∷ [])
          (items_of new.seen) (held ∷ []) [] store store (after_by (Ok answer) is)
          (followed_on stores opening writer (items_of old.seen) middle (middle ++ entry_by writer (Report turn.now held.file held.attempt outcome) ∷ [])
          (held ∷ []) (held ∷ []) [] store store store first
          (followed_report stores opening writer machine orders middle held outcome turn.now store turn.kept))
      by (Err (Rule refusal)) is = absurd (refused refusal is)
      by (Err DiskFailed) is = kept_on (after_by (Err DiskFailed) is)
      by (Err (JournalFull used)) is = kept_on (after_by (Err (JournalFull used)) is)
      by (Err Memory) is = kept_on (after_by (Err Memory) is)
      by (Err (Damaged offset)) is = kept_on (after_by (Err (Damaged offset)) is)

      fresh_by : (file : ℕ) (r : Result Answer KeepFault) → turn.result ≡ r
          → ◌≡◌ {A = Turn} (end_by_report held.file turn.lanes r) (turn_ends.Stale file) → ⊥
      fresh_by file (Ok answer) is stale = fresh_report held.file file turn.lanes answer (subst (AnswersReport held.file) is turn.tried.answers) stale
      fresh_by file (Err (Rule refusal)) is stale = refused refusal is
      fresh_by file (Err DiskFailed) is stale = absurd cc
      fresh_by file (Err (JournalFull used)) is stale = absurd cc
      fresh_by file (Err Memory) is stale = absurd cc
      fresh_by file (Err (Damaged offset)) is stale = absurd cc

  -- a claim that was tried behind a list and came to this, and what follows
  claim_well : (before : List Entry) (claimed new : PassView Entry) (now word : ℕ) (behind after : HandData E) (end : Turn) (left : List Held)
      (lanes : ℕ) (result : Result Answer KeepFault) → claimed.opening ≡ opening → claimed.number ≡ writer → IsLegal (opening ++ items_of new.seen)
      → IsUndisturbed writer opening (items_of new.seen) → Tried opening writer before (items_of claimed.seen) (Claim now word) result
      → GoesOn stores lanes result claimed new behind after end left
      → GoesWell before (items_of new.seen) [] left behind.store after.store end
  claim_well before claimed new now word behind after end left lanes (Err fault) opens number legal free at goes =
      let is : items_of new.seen ≡ before ++ at.others =
      ap (λ (p : PassView Entry). items_of p.seen) goes.1.pass ∙ at.after_is ∙ append-nil (before ++ at.others) in
      record {
        followed = subst (λ kept. Followed stores opening writer before (items_of new.seen) [] kept behind.store after.store) (sym goes.1.nothing)
            (subst (Followed stores opening writer before (items_of new.seen) [] [] behind.store)
            (sym (ap (λ (h : HandData E). h.store) goes.1.hand_is))
            (followed_as stores opening writer before (before ++ at.others) (items_of new.seen) [] [] behind.store behind.store is
            (followed_others stores opening writer machine orders before at.others [] behind.store
            (subst (λ list. IsLegal (opening ++ list)) is legal) at.none tt (subst (IsUndisturbed writer opening) is free))));
        fresh = λ file stale. fresh_claim file lanes fault (sym goes.0 ∙ stale);
      }
  claim_well before claimed new now word behind after end left lanes (Ok (Restarted count)) opens number legal free at goes = absurd goes
  claim_well before claimed new now word behind after end left lanes (Ok (Submitted job id)) opens number legal free at goes = absurd goes
  claim_well before claimed new now word behind after end left lanes (Ok (Cancelled job)) opens number legal free at goes = absurd goes
  claim_well before claimed new now word behind after end left lanes (Ok (PrioritySet job)) opens number legal free at goes = absurd goes
  claim_well before claimed new now word behind after end left lanes (Ok (Reported file left_in)) opens number legal free at goes = absurd goes
  claim_well before claimed new now word behind after end left lanes (Ok (Banned count)) opens number legal free at goes = absurd goes
  claim_well before claimed new now word behind after end left lanes (Ok Unbanned) opens number legal free at goes = absurd goes
  claim_well before claimed new now word behind after end left lanes (Ok (Expired count)) opens number legal free at goes = absurd goes
  claim_well before claimed new now word behind after end left lanes (Ok (Claimed file attempt)) opens number legal free at goes =
      let middle = goes.between in
      let held = held_with file attempt goes.outcome in
      let claim = entry_by writer (Claim now word) in
      let list = (before ++ at.others) ++ claim ∷ [] in
      let grown_mid = grown_copies stores claimed middle behind.store after.store file goes.outcome goes.copied in
      let grown_new = grown_taken middle new goes.reported.tried.taken in
      let open_mid : middle.opening ≡ opening = goes.copied.same.1 ∙ opens in
      let number_mid : middle.number ≡ writer = goes.copied.same.3 ∙ number in
      let looked = items_of goes.copied.since in
      let none_looked : NoneOf writer looked = subst (λ n. NoneOf n looked) number goes.copied.others in
      let is : items_of middle.seen ≡ list ++ looked = items_grown claimed middle grown_mid ∙ ap (λ all. all ++ looked) at.after_is in
      let legal_mid = legal_grown opening middle new grown_new legal in
      let free_mid : IsUndisturbed writer opening (list ++ looked) =
      subst (IsUndisturbed writer opening) is
      (undisturbed_before writer opening (items_of middle.seen) (items_of grown_new.since)
      (subst (IsUndisturbed writer opening) (items_grown middle new grown_new) free)) in
      let own : IsLastOwn writer opening list file attempt = record {
        earlier = before ++ at.others;
        now = now;
        word = word;
        later = [];
        split = refl;
        after = at.came.0;
        answered = at.came.1;
        none_since = tt;
      } in
      let asked : copies_of_file (tables_of (opening ++ list)) file goes.outcome ≡ record { order = goes.copied.order; outcome = goes.outcome } ∷ [] =
      subst (λ all. copies_of_file (tables_of all) file goes.outcome ≡ record { order = goes.copied.order; outcome = goes.outcome } ∷ [])
      (λ i. opens i ++ at.after_is i) goes.copied.of_file in
      let copied = followed_claim stores opening writer machine orders before at.others now word file attempt goes.outcome goes.copied.order
      behind.store after.store at.none asked goes.copied.made in
      let waited = followed_others stores opening writer machine orders list looked (held ∷ []) after.store
      (subst (λ all. IsLegal (opening ++ all)) is legal_mid) none_looked own free_mid in
      let own_mid : IsLastOwn writer opening (items_of middle.seen) file attempt =
      subst (λ all. IsLastOwn writer opening all file attempt) (sym is) (last_own_more writer opening list looked file attempt none_looked own) in
      let last = report_well middle new behind.moments after.moments held goes.outcome end left after.store open_mid number_mid legal own_mid free goes.reported in
      record {
        followed = followed_on stores opening writer before (items_of middle.seen) (items_of new.seen) [] (held ∷ []) left behind.store after.store
            after.store
            (followed_as stores opening writer before (list ++ looked) (items_of middle.seen) [] (held ∷ []) behind.store after.store is
            (followed_on stores opening writer before list (list ++ looked) [] (held ∷ []) (held ∷ []) behind.store after.store after.store copied
            waited))
            last.followed;
        fresh = last.fresh;
      }

  -- an expiry and a claim, and what follows
  step_well : (old claimed new : PassView Entry) (now word : ℕ) (behind after : HandData E) (end : Turn) (left : List Held) (lanes : ℕ)
      (expiry : Result Answer KeepFault) (claim : Option (Result Answer KeepFault)) → old.opening ≡ opening → old.number ≡ writer
      → IsLegal (opening ++ items_of new.seen) → IsUndisturbed writer opening (items_of new.seen) → StepInTurn old claimed now word expiry claim lanes
      → GoesOn stores lanes (step_answer expiry claim) claimed new behind after end left
      → GoesWell (items_of old.seen) (items_of new.seen) [] left behind.store after.store end
  step_well old claimed new now word behind after end left lanes expiry claim opens number legal free tried goes =
      let before = items_of old.seen in
      let at = stepped_for old claimed opening writer now word expiry claim lanes opens number tried in
      let store = behind.store in
      let first = followed_as stores opening writer before ((before ++ at.expired.others) ++ added_by (entry_by writer (Expire now)) expiry) at.middle [] []
      store store at.expired.after_is (followed_expiry stores opening writer before at.expired.others now expiry store at.expired.none) in
      let last = claim_well at.middle claimed new now word behind after end left lanes (step_answer expiry claim) (tried.taken.same.1 ∙ opens)
      (tried.taken.same.3 ∙ number) legal free at.claimed goes in
      record {
        followed = followed_on stores opening writer before at.middle (items_of new.seen) [] [] left store store after.store first last.followed;
        fresh = last.fresh;
      }

  -- a turn
  pub turn_well : (old new : PassView Entry) (hand after : HandData E) (held : List Held) (end : Turn) (left : List Held)
      → old.opening ≡ opening → old.number ≡ writer → IsLegal (opening ++ items_of new.seen) → Fits writer opening (items_of old.seen) held
      → IsUndisturbed writer opening (items_of new.seen) → IsTurn stores old new hand after held end left
      → GoesWell (items_of old.seen) (items_of new.seen) held left hand.store after.store end
  turn_well old new hand after [] end left opens number legal fits free turn =
      subst (λ store. GoesWell (items_of old.seen) (items_of new.seen) [] left store after.store end) turn.store
      (step_well old turn.claimed new turn.now turn.word turn.behind after end left turn.lanes turn.expiry turn.claim opens number legal free turn.tried
      turn.goes_on)
  turn_well old new hand after (held ∷ []) end left opens number legal fits free turn =
      subst (λ store. GoesWell (items_of old.seen) (items_of new.seen) (held ∷ []) left hand.store store end) (sym turn.store)
      (report_well old new hand.moments after.moments held turn.reported.0 end left hand.store opens number legal fits.each.0.claimed free turn.reported.1)
  turn_well old new hand after (held ∷ next ∷ others) end left opens number legal fits free turn = absurd turn.reported

  -- a turn at a station; a rest leaves the store as it is
  takes_well : (old new : StationData E) (end : Turn) → old.pass.opening ≡ opening → old.pass.number ≡ writer
      → IsLegal (opening ++ items_of new.pass.seen) → Fits writer opening (items_of old.pass.seen) old.held
      → IsUndisturbed writer opening (items_of new.pass.seen) → TakesOne stores old new end
      → GoesWell (items_of old.pass.seen) (items_of new.pass.seen) old.held new.held old.hand.store new.hand.store end
  takes_well old new end opens number legal fits free takes =
      subst (λ store. GoesWell (items_of old.pass.seen) (items_of new.pass.seen) old.held new.held old.hand.store store end) (sym takes.rested.store)
      (turn_well old.pass new.pass old.hand takes.behind old.held end new.held opens number legal fits free takes.turn)

  -- turns: the store follows, and none is stale
  pub record GoWell (more : ℕ) (old new : StationData E) : Type 0 where
    pub followed : Followed stores opening writer (items_of old.pass.seen) (items_of new.pass.seen) old.held new.held old.hand.store new.hand.store
    pub fresh : AreFresh stores more old new

  pub turns_well : (more : ℕ) (old new : StationData E) → old.pass.opening ≡ opening → old.pass.number ≡ writer
      → IsLegal (opening ++ items_of new.pass.seen) → Fits writer opening (items_of old.pass.seen) old.held
      → IsUndisturbed writer opening (items_of new.pass.seen) → AreTurns stores more old new → GoWell more old new
  turns_well zero old new opens number legal fits free turns =
      let before = items_of old.pass.seen in
      let is : items_of new.pass.seen ≡ before ++ [] = ap (λ (p : PassView Entry). items_of p.seen) (sym turns.2) ∙ sym (append-nil before) in
      record {
        followed = subst (λ store. Followed stores opening writer before (items_of new.pass.seen) old.held new.held old.hand.store store)
            (ap (λ (h : HandData E). h.store) turns.0)
            (subst (λ held. Followed stores opening writer before (items_of new.pass.seen) old.held held old.hand.store old.hand.store) turns.1
            (followed_as stores opening writer before (before ++ []) (items_of new.pass.seen) old.held old.held old.hand.store old.hand.store is
            (followed_others stores opening writer machine orders before [] old.held old.hand.store
            (subst (λ list. IsLegal (opening ++ list)) is legal) tt (holds_own writer opening before old.held fits)
            (subst (IsUndisturbed writer opening) is free))));
        fresh = turns;
      }
  turns_well (suc more) old new opens number legal fits free turns =
      let next = turns.0 in
      let takes = turns.2.0 in
      let rest = turns.2.1.1 in
      let grown = grown_turn stores old.pass next.pass old.hand takes.behind old.held turns.1 next.held takes.turn in
      let later = grown_turns stores more next new rest in
      let legal_next = legal_grown opening next.pass new.pass later legal in
      let free_next : IsUndisturbed writer opening (items_of next.pass.seen) =
      undisturbed_before writer opening (items_of next.pass.seen) (items_of later.since)
      (subst (IsUndisturbed writer opening) (items_grown next.pass new.pass later) free) in
      let fits_next = (turn_turned stores machine opening writer old.pass next.pass old.hand takes.behind old.held turns.1 next.held opens number
      legal_next fits takes.turn).fits in
      let one = takes_well old next turns.1 opens number legal_next fits free_next takes in
      let others = turns_well more next new (grown.same.1 ∙ opens) (grown.same.3 ∙ number) legal fits_next free rest in
      record {
        followed = followed_on stores opening writer (items_of old.pass.seen) (items_of next.pass.seen) (items_of new.pass.seen) old.held next.held
            new.held old.hand.store next.hand.store new.hand.store one.followed others.followed;
        fresh = (next, turns.1, (turns.2.0, (turns.2.1.0, (one.fresh, others.fresh))));
      }

module _ {E : Type 0} (stores : store.Ghosts E) (machine : Machine) (orders : OrdersStay) where
  -- what a station's store follows from
  follows_by : (old new : StationData E) → Grown old.pass new.pass
      → Followed stores old.pass.opening old.pass.number (items_of old.pass.seen) (items_of new.pass.seen) old.held new.held old.hand.store
      new.hand.store
      → FollowsOwn stores old new
  follows_by old new grown followed =
      let is : followed.since ≡ items_of grown.since =
      append_cancel_left (items_of old.pass.seen) followed.since (items_of grown.since) (sym followed.after_is ∙ items_grown old.pass new.pass grown) in
      record {
        since = grown.since;
        seen = grown.seen;
        follows = subst (λ o. FollowsReports stores.state stores.calls stores.faults (copies_kept (tables_of (seen_list old.pass)) old.held)
            (copies_from (λ writer. writer == old.pass.number) (tables_of (seen_list old.pass)) (items_of grown.since))
            (copies_kept (tables_of (o ++ items_of new.pass.seen)) new.held) old.hand.store new.hand.store) (sym grown.same.1)
            (subst (λ since. FollowsReports stores.state stores.calls stores.faults (copies_kept (tables_of (seen_list old.pass)) old.held)
            (copies_from (λ writer. writer == old.pass.number) (tables_of (seen_list old.pass)) since)
            (copies_kept (tables_of (old.pass.opening ++ items_of new.pass.seen)) new.held) old.hand.store new.hand.store) is followed.follows);
      }

  -- nobody took a file, by what the pass was at the beginning
  free_of : (old new : PassView Entry) → Grown old new → KeepsItsFiles new → IsUndisturbed old.number old.opening (items_of new.seen)
  free_of old new grown free = subst (λ n. IsUndisturbed n old.opening (items_of new.seen)) grown.same.3
      (subst (λ o. IsUndisturbed new.number o (items_of new.seen)) grown.same.1 free)

  -- a turn
  pub turn_follows : (old new : StationData E) (end : Turn) → TakesOne stores old new end → MayKeep old.pass new.pass old.held
      → KeepsItsFiles new.pass → FollowsOwn stores old new × ((file : ℕ) → end ≢ turn_ends.Stale file)
  turn_follows old new end takes may free =
      let grown = grown_turn stores old.pass new.pass old.hand takes.behind old.held end new.held takes.turn in
      let well = takes_well stores machine orders old.pass.opening old.pass.number old new end refl refl
      (legal_of old.pass new.pass grown may.legal) may.fits (free_of old.pass new.pass grown free) takes in
      (follows_by old new grown well.followed, well.fresh)

  -- turns
  pub turns_follow : (more : ℕ) (old new : StationData E) → AreTurns stores more old new → MayKeep old.pass new.pass old.held
      → KeepsItsFiles new.pass → FollowsOwn stores old new × AreFresh stores more old new
  turns_follow more old new turns may free =
      let grown = grown_turns stores more old new turns in
      let well = turns_well stores machine orders old.pass.opening old.pass.number more old new refl refl
      (legal_of old.pass new.pass grown may.legal) may.fits (free_of old.pass new.pass grown free) turns in
      (follows_by old new grown well.followed, well.fresh)

  -- a worker
  pub worker_follows : (closes : Bool) (old new : StationData E) (done : WorkerDone stores closes old new) → MayKeep old.pass new.pass old.held
      → KeepsItsFiles new.pass → FollowsOwn stores old new × AreFresh stores done.more old done.between × ((file : ℕ) → done.last ≢ turn_ends.Stale file)
  worker_follows closes old new done may free =
      let between = done.between in
      let opening = old.pass.opening in
      let writer = old.pass.number in
      let grown = grown_turns stores done.more old between done.turns in
      let last = grown_turn stores between.pass new.pass between.hand done.ends.behind between.held done.last new.held done.ends.turn in
      let all = grown_on old.pass between.pass new.pass grown last in
      let legal = legal_of old.pass new.pass all may.legal in
      let legal_mid = legal_grown opening between.pass new.pass last legal in
      let free_new = free_of old.pass new.pass all free in
      let free_mid : IsUndisturbed writer opening (items_of between.pass.seen) =
      undisturbed_before writer opening (items_of between.pass.seen) (items_of last.since)
      (subst (IsUndisturbed writer opening) (items_grown between.pass new.pass last) free_new) in
      let fits_mid = (turns_turned stores machine opening writer done.more old between refl refl legal_mid may.fits done.turns).fits in
      let first = turns_well stores machine orders opening writer done.more old between refl refl legal_mid may.fits free_mid done.turns in
      let ends = takes_well stores machine orders opening writer between new done.last grown.same.1 grown.same.3 legal fits_mid free_new done.ends in (
        follows_by old new all
            (followed_on stores opening writer (items_of old.pass.seen) (items_of between.pass.seen) (items_of new.pass.seen) old.held between.held new.held
            old.hand.store between.hand.store new.hand.store first.followed ends.followed),
        first.fresh,
        ends.fresh,
      )

-- the copies that a pass's reports stand for in all turns are those that stand for what it added, where it took no turn before or behind that
pub copies_in_all : (old : PassView Entry) (since later : List (LoggedTurn Entry)) → NoneOf old.number (items_of old.seen) → NoneOf old.number (items_of later)
    → copies_from (λ writer. writer == old.number) (tables_of old.opening) (items_of ((old.seen ++ since) ++ later))
    ≡ copies_from (λ writer. writer == old.number) (tables_of (seen_list old)) (items_of since)
copies_in_all old since later none_before none_later =
    let by : ℕ → Bool = λ writer. writer == old.number in
    let start = tables_of old.opening in
    let before = items_of old.seen in
    let added = items_of since in
    let behind = items_of later in
    ap (copies_from by start) (items_on (old.seen ++ since) later ∙ ap (λ list. list ++ behind) (items_on old.seen since))
    ∙ copies_from-append by start (before ++ added) behind
    ∙ ap (λ copies. copies ++ copies_from by (tables_from start (before ++ added)) behind) (copies_from-append by start before added)
    ∙ ap (λ copies. (copies_from by start before ++ copies_from by (tables_from start before) added) ++ copies)
    (copies_none old.number (tables_from start (before ++ added)) behind none_later)
    ∙ append-nil (copies_from by start before ++ copies_from by (tables_from start before) added)
    ∙ ap (λ copies. copies ++ copies_from by (tables_from start before) added) (copies_none old.number start before none_before)
    ∙ ap (λ t. copies_from by t added) (sym (tables_from-append empty_tables old.opening before))
