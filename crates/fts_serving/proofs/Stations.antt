-- How a worker's turns leave the lanes, and what its last turn found, where it ended drained.
use Rattle.std.proofs.Common.{◌≡◌, ◌≢◌, refl, sym, ap, ◌∙◌, subst, inl, inr, ℕ, zero, suc, Bool, true, false, List, [], ◌∷◌, ◌++◌, append-nil, append_assoc, Option, Some, None, Result, Ok, Err}
use Rattle.fts_tables.specs.Coming.{Coming}
use Rattle.fts_tables.specs.Step.{step}
use Rattle.fts_tables.specs.History.{tables_of}
use Rattle.fts_tables.specs.declared.rows.FileState.{FileState}
use Rattle.fts_tables.specs.declared.rows.FileState.TheVariants as state
use Rattle.fts_tables.specs.declared.rows.Outcome.{Outcome}
use Rattle.fts_tables.specs.declared.commands.Entry.{Entry}
use Rattle.fts_tables.specs.declared.commands.Command.{Command}
use Rattle.fts_tables.specs.declared.commands.Command.TheVariants.{Claim, Expire}
use Rattle.fts_tables.specs.declared.commands.Answer.{Answer}
use Rattle.fts_tables.specs.declared.commands.Answer.TheVariants.{Restarted, Submitted, Cancelled, PrioritySet, Claimed, Reported, Banned, Unbanned, Expired}
use Rattle.fts_tables.specs.declared.commands.Refusal.{Refusal}
use Rattle.fts_tables.specs.declared.commands.Refusal.TheVariants.{Idle}
use Rattle.fts_turnstile.specs.declared.turn.LoggedTurn.{LoggedTurn}
use Rattle.fts_turnstile.specs.History.{items_of, shown_after}
use Rattle.fts_turnstile.specs.Passes.{PassView, IsSame}
use Rattle.fts_keep.specs.Keeps.{used_of}
use Rattle.fts_keep.specs.Applied.{entry_by}
use Rattle.fts_keep.specs.declared.fault.KeepFault.{KeepFault}
use Rattle.fts_keep.specs.declared.fault.KeepFault.TheVariants.{Rule, DiskFailed, JournalFull, Damaged, Memory}
use Rattle.fts_workers.proofs.Accepted.{refused_of}
use Rattle.fts_workers.specs.ClaimSteps.{goes_on}
use Rattle.fts_workers.specs.declared.held.Held.{Held}
use Rattle.fts_shop.specs.Looked.{items_on, same_on}
use Rattle.fts_shop.specs.Looking.{LeaveLanes}
use Rattle.fts_shop.specs.Shops.{StepInTurn, TriedInTurn, added_by, lanes_shown, point, step_answer}
use Rattle.fts_shop.specs.Turns.{Copies, GoesOn, HandData, IsTurn, ReportsHeld, end_by_report, end_by_state, idle_end}
use Rattle.fts_shop.specs.Workers.{AreTurns, EndsBehind, StationData, WorkerDone, stopped_instead, worker_end_of}
use Rattle.fts_shop.specs.declared.ends.Turn.{Turn}
use Rattle.fts_shop.specs.declared.ends.Turn.TheVariants as turn_ends
use Rattle.fts_shop.specs.declared.ends.WorkerEnd.{WorkerEnd}
use Rattle.fts_shop.specs.declared.ends.WorkerEnd.TheVariants as worker_ends
use Rattle.fts_serving.proofs.Own.{leave_on, turn_leaves}
use Rattle.fts_store.specs.declared.store.Store as store

-- a pass that has left the lanes
pub record Leaves (base pass : PassView Entry) : Type 0 where
  pub same : IsSame base pass
  pub leaves : LeaveLanes pass.number pass.opening_shows pass.seen

-- as one does that has seen no turn
begun : (pass : PassView Entry) → pass.seen ≡ [] → Leaves pass pass
begun pass unseen = record {
  same = (refl, refl, refl, refl, refl, refl);
  leaves = subst (LeaveLanes pass.number pass.opening_shows) (sym unseen) tt;
}

-- a worker's step more
step_leaves : (base : PassView Entry) {old new : PassView Entry} {now word lanes : ℕ} {expiry : Result Answer KeepFault} {claim : Option (Result Answer KeepFault)}
    → Leaves base old → StepInTurn old new now word expiry claim lanes → Leaves base new
step_leaves base {old} {new} was tried = record {
  same = same_on base old new was.same tried.taken.same;
  leaves = subst (λ n. LeaveLanes n new.opening_shows new.seen) (sym tried.taken.same.3)
      (subst (λ l. LeaveLanes old.number l new.seen) (sym tried.taken.same.2) (turn_leaves tried.taken was.leaves tried.stay));
}

-- one turn more
tried_leaves : (base : PassView Entry) {old new : PassView Entry} {command : Command} {result : Result Answer KeepFault} {lanes : ℕ} → Leaves base old
    → TriedInTurn old new command result lanes → Leaves base new
tried_leaves base {old} {new} was tried = record {
  same = same_on base old new was.same tried.taken.same;
  leaves = subst (λ n. LeaveLanes n new.opening_shows new.seen) (sym tried.taken.same.3)
      (subst (λ l. LeaveLanes old.number l new.seen) (sym tried.taken.same.2) (turn_leaves tried.taken was.leaves tried.stay));
}

module _ {E : Type 0} (stores : store.Ghosts E) where
  -- a copy more
  copy_leaves : (base : PassView Entry) {old new : PassView Entry} {store after : E} {file : ℕ} {outcome : Outcome} → Leaves base old
      → Copies stores old new store after file outcome → Leaves base new
  copy_leaves base {old} {new} was copied = record {
    same = same_on base old new was.same copied.same;
    leaves = subst (LeaveLanes new.number new.opening_shows) (sym copied.seen)
        (subst (λ n. LeaveLanes n new.opening_shows (old.seen ++ copied.since)) (sym copied.same.3)
        (subst (λ l. LeaveLanes old.number l (old.seen ++ copied.since)) (sym copied.same.2)
        (leave_on old.number old.opening_shows old.seen copied.since was.leaves copied.lanes)));
  }

  -- a report more
  reports_leave : (base : PassView Entry) {old new : PassView Entry} (moments later : Option Coming) (held : List Held) (end : Turn) (left : List Held)
      → Leaves base old → ReportsHeld old new moments later held end left → Leaves base new
  reports_leave base moments later [] end left was reported = absurd reported
  reports_leave base moments later (held ∷ []) end left was reported = tried_leaves base was reported.1.tried
  reports_leave base moments later (held ∷ next ∷ others) end left was reported = absurd reported

  -- what follows a claim
  goes_leave : (base : PassView Entry) {old new : PassView Entry} (hand after : HandData E) (lanes : ℕ) (result : Result Answer KeepFault) (end : Turn)
      (left : List Held) → Leaves base old → GoesOn stores lanes result old new hand after end left → Leaves base new
  goes_leave base hand after lanes (Ok (Claimed file attempt)) end left was goes = tried_leaves base (copy_leaves base was goes.copied) goes.reported.tried
  goes_leave base hand after lanes (Ok (Restarted released)) end left was goes = absurd goes
  goes_leave base hand after lanes (Ok (Submitted job id)) end left was goes = absurd goes
  goes_leave base hand after lanes (Ok (Cancelled job)) end left was goes = absurd goes
  goes_leave base hand after lanes (Ok (PrioritySet job)) end left was goes = absurd goes
  goes_leave base hand after lanes (Ok (Reported file left_in)) end left was goes = absurd goes
  goes_leave base hand after lanes (Ok (Banned cancelled)) end left was goes = absurd goes
  goes_leave base hand after lanes (Ok Unbanned) end left was goes = absurd goes
  goes_leave base hand after lanes (Ok (Expired cancelled)) end left was goes = absurd goes
  goes_leave base hand after lanes (Err fault) end left was goes = subst (Leaves base) (sym goes.1.pass) was

  -- a turn at a station
  turn_leaves_lanes : (base old new : PassView Entry) (hand after : HandData E) (held : List Held) (end : Turn) (left : List Held) → Leaves base old
      → IsTurn stores old new hand after held end left → Leaves base new
  turn_leaves_lanes base old new hand after [] end left was turn =
      goes_leave base turn.behind after turn.lanes (step_answer turn.expiry turn.claim) end left (step_leaves base was turn.tried) turn.goes_on
  turn_leaves_lanes base old new hand after (held ∷ others) end left was turn =
      reports_leave base hand.moments after.moments (held ∷ others) end left was turn.reported

  turns_leave : (base : PassView Entry) (more : ℕ) (old new : StationData E) → Leaves base old.pass
      → AreTurns stores more old new → Leaves base new.pass
  turns_leave base zero old new was turns = subst (Leaves base) turns.2 was
  turns_leave base (suc more) old new was turns =
      turns_leave base more turns.0 new
      (turn_leaves_lanes base old.pass turns.0.pass old.hand turns.2.0.behind old.held turns.1 turns.0.held was turns.2.0.turn)
      turns.2.1.1

  -- a worker has left the lanes as they were, in all that its pass has seen
  pub worker_leaves : {closes : Bool} (old new : StationData E) → old.pass.seen ≡ [] → WorkerDone stores closes old new → Leaves old.pass new.pass
  worker_leaves old new unseen done =
      turn_leaves_lanes old.pass done.between.pass new.pass done.between.hand done.ends.behind done.between.held done.last new.held
      (turns_leave old.pass done.more old done.between (begun old.pass unseen) done.turns) done.ends.turn

  -- its pass is the same before its last turn
  pub between_same : {closes : Bool} (old new : StationData E) → old.pass.seen ≡ [] → (done : WorkerDone stores closes old new)
      → IsSame old.pass done.between.pass
  between_same old new unseen done = (turns_leave old.pass done.more old done.between (begun old.pass unseen) done.turns).same

-- the last turn of a worker that ended drained: no lane was left, and no row was eligible on the list with what the turn added
pub record FindsNone (pass : PassView Entry) : Type 0 where
  pub before : List (LoggedTurn Entry)
  pub turn : LoggedTurn Entry
  pub seen : pass.seen ≡ before ++ turn ∷ []
  pub mine : turn.number ≡ pass.number
  pub no_lane : lanes_shown (shown_after pass.opening_shows before) ≡ 0
  pub now : ℕ
  pub word : ℕ
  pub refused : step (tables_of (pass.opening ++ items_of (before ++ turn ∷ []))) (Claim now word) ≡ Err Idle

-- the list with what the last turn added
items_with : (opening : List Entry) (before : List (LoggedTurn Entry)) (turn : LoggedTurn Entry) (own : List Entry) → turn.items ≡ own ++ []
    → opening ++ items_of (before ++ turn ∷ []) ≡ (opening ++ items_of before) ++ own
items_with opening before turn own is =
    ap (λ l. opening ++ l) (items_on before (turn ∷ []) ∙ ap (λ l. items_of before ++ l) (append-nil turn.items ∙ is ∙ append-nil own))
    ∙ sym (append_assoc opening (items_of before) own)

-- a turn by which a worker drains is one that stops, and no turn stops a worker
ends_by : (end : Turn) (by : WorkerEnd) → worker_end_of end ≡ Some by → (by ≡ worker_ends.Drained → end ≡ turn_ends.Stopping) × (by ≢ worker_ends.Stopped)
ends_by turn_ends.Idle by is = absurd cc
ends_by turn_ends.Stopping by is = ((λ drained. refl), (λ stopped. cc))
ends_by (turn_ends.Done file) by is = absurd cc
ends_by (turn_ends.Failed file) by is = absurd cc
ends_by (turn_ends.Retried file) by is = absurd cc
ends_by (turn_ends.Cancelled file) by is = absurd cc
ends_by (turn_ends.Stale file) by is = absurd cc
ends_by (turn_ends.DiskFailed zero) by is = ((λ drained. absurd cc), (λ stopped. cc))
ends_by (turn_ends.DiskFailed (suc more)) by is = absurd cc
ends_by (turn_ends.JournalFull used zero) by is = ((λ drained. absurd cc), (λ stopped. cc))
ends_by (turn_ends.JournalFull used (suc more)) by is = absurd cc
ends_by (turn_ends.Memory zero) by is = ((λ drained. absurd cc), (λ stopped. cc))
ends_by (turn_ends.Memory (suc more)) by is = absurd cc

-- at a closed gate no worker drains
never_drained : (would : Option WorkerEnd) → stopped_instead would ≡ Some worker_ends.Drained → ⊥
never_drained None is = absurd cc
never_drained (Some worker_ends.Drained) is = absurd cc
never_drained (Some worker_ends.Stopped) is = absurd cc
never_drained (Some worker_ends.DiskFailed) is = absurd cc
never_drained (Some (worker_ends.JournalFull used)) is = absurd cc
never_drained (Some worker_ends.Memory) is = absurd cc

-- a worker that ended drained did so by its last turn, and one that was stopped by none
drained_behind : {closes : Bool} {last : Turn} {held : List Held} {end : Option WorkerEnd} → EndsBehind closes last held end → end ≡ Some worker_ends.Drained
    → last ≡ turn_ends.Stopping
drained_behind {last = last} (inl by_turn) is = (ends_by last worker_ends.Drained (sym by_turn ∙ is)).0 refl
drained_behind {last = last} (inr stopped) is = absurd (never_drained (worker_end_of last) (sym stopped.2 ∙ is))

stopped_behind : {closes : Bool} {held : List Held} {end : Option WorkerEnd} (last : Turn) → EndsBehind closes last held end → end ≡ Some worker_ends.Stopped
    → (held ≡ []) × (closes ≡ true)
stopped_behind last (inl by_turn) is = absurd ((ends_by last worker_ends.Stopped (sym by_turn ∙ is)).1 refl)
stopped_behind last (inr stopped) is = (stopped.1, stopped.0)

-- no report ends a turn so
state_ends : (file : ℕ) (left : FileState) → end_by_state file left ≡ turn_ends.Stopping → ⊥
state_ends file state.Finished is = absurd cc
state_ends file state.Failed is = absurd cc
state_ends file state.Submitted is = absurd cc
state_ends file state.Canceled is = absurd cc
state_ends file state.Active is = absurd cc
state_ends file state.NotUsed is = absurd cc

report_ends : (file lanes : ℕ) (result : Result Answer KeepFault) → end_by_report file lanes result ≡ turn_ends.Stopping → ⊥
report_ends file lanes (Ok (Reported reported left)) is = state_ends file left is
report_ends file lanes (Ok (Restarted released)) is = absurd cc
report_ends file lanes (Ok (Submitted job id)) is = absurd cc
report_ends file lanes (Ok (Cancelled job)) is = absurd cc
report_ends file lanes (Ok (PrioritySet job)) is = absurd cc
report_ends file lanes (Ok (Claimed claimed attempt)) is = absurd cc
report_ends file lanes (Ok (Banned cancelled)) is = absurd cc
report_ends file lanes (Ok Unbanned) is = absurd cc
report_ends file lanes (Ok (Expired cancelled)) is = absurd cc
report_ends file lanes (Err DiskFailed) is = absurd cc
report_ends file lanes (Err (JournalFull used)) is = absurd cc
report_ends file lanes (Err Memory) is = absurd cc
report_ends file lanes (Err (Rule refusal)) is = absurd cc
report_ends file lanes (Err (Damaged offset)) is = absurd cc

-- a claim does where it was refused and no lane was left
no_lane_left : (lanes : ℕ) → idle_end lanes ≡ turn_ends.Stopping → lanes ≡ 0
no_lane_left zero is = refl
no_lane_left (suc more) is = absurd cc

module _ {E : Type 0} (stores : store.Ghosts E) where
  -- no report of a held file ends a turn so
  held_ends : (old new : PassView Entry) (moments later : Option Coming) (held : List Held) (left : List Held)
      → ReportsHeld old new moments later held turn_ends.Stopping left → ⊥
  held_ends old new moments later [] left reported = reported
  held_ends old new moments later (held ∷ []) left reported = report_ends held.file reported.1.lanes reported.1.result (sym reported.1.ends)
  held_ends old new moments later (held ∷ next ∷ others) left reported = reported

  -- a refused claim
  refused_claim : {old claimed : PassView Entry} (now word lanes : ℕ) (expiry : Result Answer KeepFault) (refusal : Refusal) → lanes ≡ 0
      → StepInTurn old claimed now word expiry (Some (Err (Rule refusal))) lanes → FindsNone claimed
  refused_claim {old} {claimed} now word lanes expiry refusal none tried =
      let taken = tried.taken in
      let before = old.seen ++ taken.between in
      let own = added_by (entry_by old.number (Expire now)) expiry in
      let list = point taken ++ own in
      record {
        before = before;
        turn = taken.turn;
        seen = taken.seen;
        mine = taken.mine ∙ sym taken.same.3;
        no_lane = ap (λ l. lanes_shown (shown_after l before)) taken.same.2 ∙ sym tried.left ∙ none;
        now = now;
        word = word;
        refused = subst (λ o. step (tables_of (o ++ items_of (before ++ taken.turn ∷ []))) (Claim now word) ≡ Err Idle) (sym taken.same.1)
            (subst (λ l. step (tables_of l) (Claim now word) ≡ Err Idle) (sym (items_with old.opening before taken.turn own tried.added))
            (subst (λ r. step (tables_of list) (Claim now word) ≡ Err r) tried.follows.1
            (refused_of (used_of list) (entry_by old.number (Claim now word)) (step (tables_of list) (Claim now word)) refusal tried.claimed.came)));
      }

  -- a step whose last command was refused tried its claim
  refused_step : {old claimed : PassView Entry} (now word lanes : ℕ) (expiry : Result Answer KeepFault) (claim : Option (Result Answer KeepFault)) (refusal : Refusal)
      → lanes ≡ 0 → step_answer expiry claim ≡ Err (Rule refusal)
      → StepInTurn old claimed now word expiry claim lanes → FindsNone claimed
  refused_step {old} {claimed} now word lanes expiry None refusal none is tried =
      absurd (clash (sym (ap goes_on is) ∙ tried.follows))
    where
      clash : true ≡ false → ⊥
      clash is = absurd cc
  refused_step {old} {claimed} now word lanes expiry (Some result) refusal none is tried =
      refused_claim now word lanes expiry refusal none
      (subst (λ (r : Result Answer KeepFault). StepInTurn old claimed now word expiry (Some r) lanes) is tried)

  goes_none : {old claimed new : PassView Entry} (now word lanes : ℕ) (expiry : Result Answer KeepFault) (claim : Option (Result Answer KeepFault))
      (result : Result Answer KeepFault) (hand after : HandData E) (left : List Held)
      → step_answer expiry claim ≡ result → StepInTurn old claimed now word expiry claim lanes
      → GoesOn stores lanes result claimed new hand after turn_ends.Stopping left → FindsNone new × (left ≡ [])
  goes_none now word lanes expiry claim (Ok (Claimed file attempt)) hand after left is tried goes =
      absurd (report_ends file goes.reported.lanes goes.reported.result (sym goes.reported.ends))
  goes_none now word lanes expiry claim (Ok (Restarted released)) hand after left is tried goes = absurd goes
  goes_none now word lanes expiry claim (Ok (Submitted job id)) hand after left is tried goes = absurd goes
  goes_none now word lanes expiry claim (Ok (Cancelled job)) hand after left is tried goes = absurd goes
  goes_none now word lanes expiry claim (Ok (PrioritySet job)) hand after left is tried goes = absurd goes
  goes_none now word lanes expiry claim (Ok (Reported file left_in)) hand after left is tried goes = absurd goes
  goes_none now word lanes expiry claim (Ok (Banned cancelled)) hand after left is tried goes = absurd goes
  goes_none now word lanes expiry claim (Ok Unbanned) hand after left is tried goes = absurd goes
  goes_none now word lanes expiry claim (Ok (Expired cancelled)) hand after left is tried goes = absurd goes
  goes_none now word lanes expiry claim (Err (Rule refusal)) hand after left is tried goes = (
    subst FindsNone (sym goes.1.pass) (refused_step now word lanes expiry claim refusal (no_lane_left lanes (sym goes.0)) is tried),
    goes.1.nothing,
  )
  goes_none now word lanes expiry claim (Err DiskFailed) hand after left answer tried goes = absurd (let is = goes.0 in cc)
  goes_none now word lanes expiry claim (Err (JournalFull used)) hand after left answer tried goes = absurd (let is = goes.0 in cc)
  goes_none now word lanes expiry claim (Err Memory) hand after left answer tried goes = absurd (let is = goes.0 in cc)
  goes_none now word lanes expiry claim (Err (Damaged offset)) hand after left answer tried goes = absurd (let is = goes.0 in cc)

  turn_none : (old new : PassView Entry) (hand after : HandData E) (held left : List Held)
      → IsTurn stores old new hand after held turn_ends.Stopping left → FindsNone new × (left ≡ [])
  turn_none old new hand after [] left turn =
      goes_none turn.now turn.word turn.lanes turn.expiry turn.claim (step_answer turn.expiry turn.claim) turn.behind after left refl turn.tried turn.goes_on
  turn_none old new hand after (held ∷ others) left turn = absurd (held_ends old new hand.moments after.moments (held ∷ others) left turn.reported)

  -- a worker that ended drained found none in its last turn, and holds nothing
  pub drained_finds_none : {closes : Bool} (old new : StationData E) → old.pass.seen ≡ [] → (done : WorkerDone stores closes old new)
      → new.end ≡ Some worker_ends.Drained → FindsNone new.pass × (new.held ≡ [])
  drained_finds_none old new unseen done is =
      let was = turns_leave stores old.pass done.more old done.between (begun old.pass unseen) done.turns in
      turn_none done.between.pass new.pass done.between.hand done.ends.behind done.between.held new.held
      (subst (λ e. IsTurn stores done.between.pass new.pass done.between.hand done.ends.behind done.between.held e new.held)
      (drained_behind done.end_is is) done.ends.turn)

  -- a worker that was stopped holds nothing
  pub stopped_holds : {closes : Bool} (old new : StationData E) (done : WorkerDone stores closes old new) → new.end ≡ Some worker_ends.Stopped
      → (new.held ≡ []) × (closes ≡ true)
  stopped_holds old new done is = stopped_behind done.last done.end_is is
