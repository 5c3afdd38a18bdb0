-- Turns of a pass, as the shop says them, make of its reports and its bench what entries behind entries do.
use Rattle.std.proofs.Common.{◌≡◌, Bool, refl, sym, ap, ◌∙◌, subst, ℕ, zero, suc, true, List, [], ◌∷◌, ◌++◌, Option, Result, Ok, Err, append-nil, append_assoc}
use Rattle.std.proofs.lemmas.List.{append_cancel_left}
use Rattle.fts_tables.specs.Coming.{Coming}
use Rattle.fts_tables.specs.History.{IsLegal, tables_of}
use Rattle.fts_tables.specs.declared.rows.Outcome.{Outcome}
use Rattle.fts_tables.specs.declared.rows.Outcome.TheVariants.{Stopped}
use Rattle.fts_tables.specs.declared.commands.Entry.{Entry}
use Rattle.fts_tables.specs.declared.commands.Command.TheVariants.{Claim, Report}
use Rattle.fts_tables.specs.declared.commands.Answer.{Answer}
use Rattle.fts_tables.specs.declared.commands.Answer.TheVariants.{Restarted, Submitted, Cancelled, PrioritySet, Claimed, Reported, Banned, Unbanned, Expired}
use Rattle.fts_turnstile.specs.declared.turn.LoggedTurn.{LoggedTurn}
use Rattle.fts_turnstile.specs.History.{items_of}
use Rattle.fts_turnstile.specs.Passes.{PassView, IsSame, seen_list}
use Rattle.fts_keep.specs.Applied.{entry_by}
use Rattle.fts_keep.specs.declared.fault.KeepFault.{KeepFault}
use Rattle.fts_workers.specs.declared.held.Held.{Held}
use Rattle.fts_shop.specs.Shops.{StepInTurn, TakesTurn, step_answer}
use Rattle.fts_shop.specs.Within.{is_cancel_asked}
use Rattle.fts_shop.specs.Looking.{NoneOf}
use Rattle.fts_shop.specs.Looked.{items_on, same_on, same_pass}
use Rattle.fts_shop.specs.Turns.{Copies, GoesOn, HandData, IsTurn, ReportTurn, held_with}
use Rattle.fts_shop.specs.Workers.{AreTurns, StationData, TakesOne, WorkerDone}
use Rattle.fts_shop.specs.declared.ends.Turn.{Turn}
use Rattle.fts_ledger.specs.Fitting.{Fits}
use Rattle.fts_ledger.specs.Ledger.{KeepsLedger, MayKeep}
use Rattle.fts_ledger.specs.Reports.{AddsWork, ReportsOwn, StopsAsked}
use Rattle.fts_ledger.specs.Machine.{Machine}
use Rattle.fts_ledger.proofs.InTurns.{legal_tried, stepped_for, tried_for}
use Rattle.fts_ledger.proofs.Turned.{Tried, Turned, claim_turned, expiry_tried, legal_back, report_tried, turned_as, turned_on, turned_others}
use Rattle.fts_store.specs.declared.store.Store as store

-- a pass is the same, and has seen more
pub record Grown (old new : PassView Entry) : Type 0 where
  pub same : IsSame old new
  pub since : List (LoggedTurn Entry)
  pub seen : new.seen ≡ old.seen ++ since

pub grown_itself : (pass : PassView Entry) → Grown pass pass
grown_itself pass = record { same = same_pass pass; since = []; seen = sym (append-nil pass.seen) }

pub grown_on : (one two three : PassView Entry) → Grown one two → Grown two three → Grown one three
grown_on one two three first second = record {
  same = same_on one two three first.same second.same;
  since = first.since ++ second.since;
  seen = second.seen ∙ ap (λ turns. turns ++ second.since) first.seen ∙ append_assoc one.seen first.since second.since;
}

pub grown_taken : (old new : PassView Entry) → TakesTurn old new → Grown old new
grown_taken old new taken = record {
  same = taken.same;
  since = taken.between ++ taken.turn ∷ [];
  seen = taken.seen ∙ append_assoc old.seen taken.between (taken.turn ∷ []);
}

-- the list grows with the turns
pub items_grown : (old new : PassView Entry) (grown : Grown old new) → items_of new.seen ≡ items_of old.seen ++ items_of grown.since
items_grown old new grown = ap items_of grown.seen ∙ items_on old.seen grown.since

-- what was legal is legal in what was seen before
pub legal_grown : (opening : List Entry) (old new : PassView Entry) → Grown old new → IsLegal (opening ++ items_of new.seen)
    → IsLegal (opening ++ items_of old.seen)
legal_grown opening old new grown legal =
    legal_back opening (items_of old.seen) (items_of new.seen) (items_of grown.since) (items_grown old new grown) legal

-- what is seen is legal behind the same opening
pub legal_of : (old new : PassView Entry) → Grown old new → IsLegal (seen_list new) → IsLegal (old.opening ++ items_of new.seen)
legal_of old new grown legal = subst (λ o. IsLegal (o ++ items_of new.seen)) grown.same.1 legal

module _ {E : Type 0} (stores : store.Ghosts E) where
  abbrev pub grown_copies : (old new : PassView Entry) (store after : E) (file : ℕ) (outcome : Outcome)
      → Copies stores old new store after file outcome → Grown old new
  grown_copies old new store after file outcome copies = record { same = copies.same; since = copies.since; seen = copies.seen }

  pub grown_goes : (claimed new : PassView Entry) (behind after : HandData E) (end : Turn) (left : List Held) (lanes : ℕ)
      (result : Result Answer KeepFault) → GoesOn stores lanes result claimed new behind after end left → Grown claimed new
  grown_goes claimed new behind after end left lanes (Ok (Claimed file attempt)) goes =
      grown_on claimed goes.between new (grown_copies claimed goes.between behind.store after.store file goes.outcome goes.copied)
      (grown_taken goes.between new goes.reported.tried.taken)
  grown_goes claimed new behind after end left lanes (Ok (Restarted count)) goes = absurd goes
  grown_goes claimed new behind after end left lanes (Ok (Submitted job id)) goes = absurd goes
  grown_goes claimed new behind after end left lanes (Ok (Cancelled job)) goes = absurd goes
  grown_goes claimed new behind after end left lanes (Ok (PrioritySet job)) goes = absurd goes
  grown_goes claimed new behind after end left lanes (Ok (Reported file state)) goes = absurd goes
  grown_goes claimed new behind after end left lanes (Ok (Banned count)) goes = absurd goes
  grown_goes claimed new behind after end left lanes (Ok Unbanned) goes = absurd goes
  grown_goes claimed new behind after end left lanes (Ok (Expired count)) goes = absurd goes
  grown_goes claimed new behind after end left lanes (Err fault) goes = subst (Grown claimed) (sym goes.1.pass) (grown_itself claimed)

  -- a turn
  pub grown_turn : (old new : PassView Entry) (hand after : HandData E) (held : List Held) (end : Turn) (left : List Held)
      → IsTurn stores old new hand after held end left → Grown old new
  grown_turn old new hand after [] end left turn =
      grown_on old turn.claimed new (grown_taken old turn.claimed turn.tried.taken)
      (grown_goes turn.claimed new turn.behind after end left turn.lanes (step_answer turn.expiry turn.claim) turn.goes_on)
  grown_turn old new hand after (held ∷ []) end left turn = grown_taken old new turn.reported.1.tried.taken
  grown_turn old new hand after (held ∷ next ∷ others) end left turn = absurd turn.reported

  -- turns
  pub grown_turns : (more : ℕ) (old new : StationData E) → AreTurns stores more old new → Grown old.pass new.pass
  grown_turns zero old new turns = subst (Grown old.pass) turns.2 (grown_itself old.pass)
  grown_turns (suc more) old new turns = grown_on old.pass turns.0.pass new.pass
      (grown_turn old.pass turns.0.pass old.hand turns.2.0.behind old.held turns.1 turns.0.held turns.2.0.turn) (grown_turns more turns.0 new turns.2.1.1)

  module _ (machine : Machine) (opening : List Entry) (writer : ℕ) where
    -- the report of what is held
    report_turned : (old new : PassView Entry) (moments later : Option Coming) (held : Held) (outcome : Outcome) (end : Turn) (left : List Held)
        → old.opening ≡ opening → old.number ≡ writer → IsLegal (opening ++ items_of new.seen) → Fits writer opening (items_of old.seen) (held ∷ [])
        → ReportTurn old new moments later held outcome end left → Turned opening writer (items_of old.seen) (items_of new.seen) left
    report_turned old new moments later held outcome end left opens number legal fits turn =
        subst (Turned opening writer (items_of old.seen) (items_of new.seen)) (sym turn.leaves)
        (report_tried machine opening writer (items_of old.seen) (items_of new.seen) held outcome turn.now turn.result turn.kept
        (tried_for old new opening writer (Report turn.now held.file held.attempt outcome) turn.result turn.lanes opens number turn.tried)
        turn.tried.answers legal fits)

    -- a claim that was tried behind a list and came to this, and what follows
    claim_goes : (before : List Entry) (claimed new : PassView Entry) (now word : ℕ) (behind after : HandData E) (end : Turn) (left : List Held)
        (lanes : ℕ) (result : Result Answer KeepFault) → claimed.opening ≡ opening → claimed.number ≡ writer → IsLegal (opening ++ items_of new.seen)
        → Fits writer opening before [] → Tried opening writer before (items_of claimed.seen) (Claim now word) result
        → GoesOn stores lanes result claimed new behind after end left → Turned opening writer before (items_of new.seen) left
    claim_goes before claimed new now word behind after end left lanes (Err fault) opens number legal fits at goes =
        let is : items_of new.seen ≡ before ++ at.others =
        ap (λ (p : PassView Entry). items_of p.seen) goes.1.pass ∙ at.after_is ∙ append-nil (before ++ at.others) in
        subst (Turned opening writer before (items_of new.seen)) (sym goes.1.nothing)
        (turned_as machine opening writer before (before ++ at.others) (items_of new.seen) [] is
        (turned_others machine opening writer before at.others [] (subst (λ list. IsLegal (opening ++ list)) is legal) at.none fits))
    claim_goes before claimed new now word behind after end left lanes (Ok (Restarted count)) opens number legal fits at goes = absurd goes
    claim_goes before claimed new now word behind after end left lanes (Ok (Submitted job id)) opens number legal fits at goes = absurd goes
    claim_goes before claimed new now word behind after end left lanes (Ok (Cancelled job)) opens number legal fits at goes = absurd goes
    claim_goes before claimed new now word behind after end left lanes (Ok (PrioritySet job)) opens number legal fits at goes = absurd goes
    claim_goes before claimed new now word behind after end left lanes (Ok (Reported file state)) opens number legal fits at goes = absurd goes
    claim_goes before claimed new now word behind after end left lanes (Ok (Banned count)) opens number legal fits at goes = absurd goes
    claim_goes before claimed new now word behind after end left lanes (Ok Unbanned) opens number legal fits at goes = absurd goes
    claim_goes before claimed new now word behind after end left lanes (Ok (Expired count)) opens number legal fits at goes = absurd goes
    claim_goes before claimed new now word behind after end left lanes (Ok (Claimed file attempt)) opens number legal fits at goes =
        let middle = goes.between in
        let grown_mid = grown_copies claimed middle behind.store after.store file goes.outcome goes.copied in
        let grown_new = grown_taken middle new goes.reported.tried.taken in
        let open_mid : middle.opening ≡ opening = goes.copied.same.1 ∙ opens in
        let number_mid : middle.number ≡ writer = goes.copied.same.3 ∙ number in
        let looked = items_of goes.copied.since in
        let is : items_of middle.seen ≡ ((before ++ at.others) ++ entry_by writer (Claim now word) ∷ []) ++ looked =
        items_grown claimed middle grown_mid ∙ ap (λ list. list ++ looked) at.after_is in
        let legal_mid = legal_grown opening middle new grown_new legal in
        let asked : goes.outcome ≡ Stopped
        → is_cancel_asked (tables_of (opening ++ (((before ++ at.others) ++ entry_by writer (Claim now word) ∷ []) ++ looked))) file ≡ true =
        λ stopped. subst (λ list. is_cancel_asked (tables_of list) file ≡ true) ((λ i. open_mid i ++ is i)) (goes.copied.stopped stopped) in
        let first = turned_as machine opening writer before _ (items_of middle.seen) (held_with file attempt goes.outcome ∷ []) is
        (claim_turned machine opening writer before at.others looked now word file attempt goes.outcome at.came.0 at.none
        (subst (λ n. NoneOf n looked) number goes.copied.others)
        (subst (λ list. IsLegal (opening ++ list)) is legal_mid) at.came.1 asked fits) in
        turned_on machine opening writer before (items_of middle.seen) (items_of new.seen) (held_with file attempt goes.outcome ∷ []) left first
        (report_turned middle new behind.moments after.moments (held_with file attempt goes.outcome) goes.outcome end left open_mid number_mid legal
        first.fits goes.reported)

    -- an expiry and a claim, and what follows
    step_goes : (old claimed new : PassView Entry) (now word : ℕ) (behind after : HandData E) (end : Turn) (left : List Held) (lanes : ℕ)
        (expiry : Result Answer KeepFault) (claim : Option (Result Answer KeepFault)) → old.opening ≡ opening → old.number ≡ writer
        → IsLegal (opening ++ items_of new.seen) → Fits writer opening (items_of old.seen) [] → StepInTurn old claimed now word expiry claim lanes
        → GoesOn stores lanes (step_answer expiry claim) claimed new behind after end left → Turned opening writer (items_of old.seen) (items_of new.seen) left
    step_goes old claimed new now word behind after end left lanes expiry claim opens number legal fits tried goes =
        let before = items_of old.seen in
        let at = stepped_for old claimed opening writer now word expiry claim lanes opens number tried in
        let grown = grown_goes claimed new behind after end left lanes (step_answer expiry claim) goes in
        let first = expiry_tried machine opening writer before at.middle now expiry at.expired tried.answers
        (legal_tried opening writer at.middle (items_of claimed.seen) (Claim now word) (step_answer expiry claim) at.claimed
        (legal_grown opening claimed new grown legal)) fits in
        turned_on machine opening writer before at.middle (items_of new.seen) [] left first
        (claim_goes at.middle claimed new now word behind after end left lanes (step_answer expiry claim) (tried.taken.same.1 ∙ opens)
        (tried.taken.same.3 ∙ number) legal first.fits at.claimed goes)

    -- a turn
    pub turn_turned : (old new : PassView Entry) (hand after : HandData E) (held : List Held) (end : Turn) (left : List Held)
        → old.opening ≡ opening → old.number ≡ writer → IsLegal (opening ++ items_of new.seen) → Fits writer opening (items_of old.seen) held
        → IsTurn stores old new hand after held end left → Turned opening writer (items_of old.seen) (items_of new.seen) left
    turn_turned old new hand after [] end left opens number legal fits turn =
        step_goes old turn.claimed new turn.now turn.word turn.behind after end left turn.lanes turn.expiry turn.claim opens number legal fits turn.tried
        turn.goes_on
    turn_turned old new hand after (held ∷ []) end left opens number legal fits turn =
        report_turned old new hand.moments after.moments held turn.reported.0 end left opens number legal fits turn.reported.1
    turn_turned old new hand after (held ∷ next ∷ others) end left opens number legal fits turn = absurd turn.reported

    -- turns
    pub turns_turned : (more : ℕ) (old new : StationData E) → old.pass.opening ≡ opening → old.pass.number ≡ writer
        → IsLegal (opening ++ items_of new.pass.seen) → Fits writer opening (items_of old.pass.seen) old.held → AreTurns stores more old new
        → Turned opening writer (items_of old.pass.seen) (items_of new.pass.seen) new.held
    turns_turned zero old new opens number legal fits turns =
        let before = items_of old.pass.seen in
        let is : items_of new.pass.seen ≡ before ++ [] = ap (λ (p : PassView Entry). items_of p.seen) (sym turns.2) ∙ sym (append-nil before) in
        subst (Turned opening writer before (items_of new.pass.seen)) turns.1
        (turned_as machine opening writer before (before ++ []) (items_of new.pass.seen) old.held is
        (turned_others machine opening writer before [] old.held (subst (λ list. IsLegal (opening ++ list)) is legal) tt fits))
    turns_turned (suc more) old new opens number legal fits turns =
        let next = turns.0 in
        let takes = turns.2.0 in
        let rest = turns.2.1.1 in
        let grown = grown_turn old.pass next.pass old.hand takes.behind old.held turns.1 next.held takes.turn in
        let legal_next = legal_grown opening next.pass new.pass (grown_turns more next new rest) legal in
        let first = turn_turned old.pass next.pass old.hand takes.behind old.held turns.1 next.held opens number legal_next fits takes.turn in
        turned_on machine opening writer (items_of old.pass.seen) (items_of next.pass.seen) (items_of new.pass.seen) next.held new.held first
        (turns_turned more next new (grown.same.1 ∙ opens) (grown.same.3 ∙ number) legal first.fits rest)

  module _ (machine : Machine) where
    -- what a pass then keeps
    keeps_by : (old new : PassView Entry) (held : List Held) → Grown old new → Turned old.opening old.number (items_of old.seen) (items_of new.seen) held
        → KeepsLedger old new held
    keeps_by old new held grown turned =
        let is : turned.since ≡ items_of grown.since =
        append_cancel_left (items_of old.seen) turned.since (items_of grown.since) (sym turned.after_is ∙ items_grown old new grown) in
        record {
          same = grown.same;
          since = grown.since;
          seen = grown.seen;
          work = subst (AddsWork old.number) is turned.work;
          own_reports = subst (ReportsOwn old.number old.opening (items_of old.seen)) is turned.own;
          stopped = subst (StopsAsked old.number (seen_list old)) is turned.stops;
          held_is_out = subst (λ n. Fits n new.opening (items_of new.seen) held) (sym grown.same.3)
              (subst (λ o. Fits old.number o (items_of new.seen) held) (sym grown.same.1) turned.fits);
        }

    -- a turn
    pub turn_keeps : (old new : StationData E) (end : Turn) → TakesOne stores old new end → MayKeep old.pass new.pass old.held
        → KeepsLedger old.pass new.pass new.held
    turn_keeps old new end takes may =
        let grown = grown_turn old.pass new.pass old.hand takes.behind old.held end new.held takes.turn in
        keeps_by old.pass new.pass new.held grown
        (turn_turned machine old.pass.opening old.pass.number old.pass new.pass old.hand takes.behind old.held end new.held refl refl
        (legal_of old.pass new.pass grown may.legal) may.fits takes.turn)

    -- turns
    pub turns_keep : (more : ℕ) (old new : StationData E) → AreTurns stores more old new → MayKeep old.pass new.pass old.held
        → KeepsLedger old.pass new.pass new.held
    turns_keep more old new turns may =
        let grown = grown_turns more old new turns in
        keeps_by old.pass new.pass new.held grown
        (turns_turned machine old.pass.opening old.pass.number more old new refl refl (legal_of old.pass new.pass grown may.legal) may.fits turns)

    -- a worker
    pub worker_keeps : (closes : Bool) (old new : StationData E) → WorkerDone stores closes old new → MayKeep old.pass new.pass old.held
        → KeepsLedger old.pass new.pass new.held
    worker_keeps closes old new done may =
        let between = done.between in
        let opening = old.pass.opening in
        let writer = old.pass.number in
        let grown = grown_turns done.more old between done.turns in
        let last = grown_turn between.pass new.pass between.hand done.ends.behind between.held done.last new.held done.ends.turn in
        let all = grown_on old.pass between.pass new.pass grown last in
        let legal = legal_of old.pass new.pass all may.legal in
        let first = turns_turned machine opening writer done.more old between refl refl (legal_grown opening between.pass new.pass last legal) may.fits done.turns in
        keeps_by old.pass new.pass new.held all
        (turned_on machine opening writer (items_of old.pass.seen) (items_of between.pass.seen) (items_of new.pass.seen) between.held new.held first
        (turn_turned machine opening writer between.pass new.pass between.hand done.ends.behind between.held done.last new.held grown.same.1 grown.same.3
        legal first.fits done.ends.turn))
