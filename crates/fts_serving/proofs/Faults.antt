-- What a worker's last turn met, where it ended by the disk or by the journal's limit.
use Rattle.std.proofs.Common.{◌≡◌, refl, sym, ap, ◌∙◌, subst, inl, inr, ℕ, zero, suc, Bool, true, false, List, [], ◌∷◌, ◌++◌, append-nil, Option, Some, None, Result, Ok, Err}
use Rattle.std.specs.Prelude.{IsOk, if◌then◌else◌}
use Rattle.fts_tables.specs.Coming.{Coming}
use Rattle.fts_tables.specs.Counts.{Rose}
use Rattle.fts_tables.specs.Tables.{Tables}
use Rattle.fts_tables.specs.Step.{Outcomes}
use Rattle.fts_tables.specs.declared.rows.FileState.{FileState}
use Rattle.fts_tables.specs.declared.rows.FileState.TheVariants as state
use Rattle.fts_tables.specs.declared.commands.Entry.{Entry}
use Rattle.fts_tables.specs.declared.commands.Command.{Command}
use Rattle.fts_tables.specs.declared.commands.Command.TheVariants.{Claim, Expire}
use Rattle.fts_tables.specs.declared.commands.Answer.{Answer}
use Rattle.fts_tables.specs.declared.commands.Answer.TheVariants.{Restarted, Submitted, Cancelled, PrioritySet, Claimed, Reported, Banned, Unbanned, Expired}
use Rattle.fts_turnstile.specs.declared.turn.LoggedTurn.{LoggedTurn}
use Rattle.fts_turnstile.specs.History.{items_of, shown_after}
use Rattle.fts_turnstile.specs.Passes.{PassView}
use Rattle.fts_keep.specs.Applied.{applied_by, entry_by, fits}
use Rattle.fts_keep.specs.declared.fault.KeepFault.{KeepFault}
use Rattle.fts_keep.specs.declared.fault.KeepFault.TheVariants.{Rule, DiskFailed, JournalFull, Damaged, Memory}
use Rattle.fts_workers.specs.Rounds.{applied_over}
use Rattle.fts_workers.specs.declared.held.Held.{Held}
use Rattle.fts_shop.specs.Shops.{CameTo, HasFault, StepInTurn, TakesTurn, TriedInTurn, added_by, added_by_claim, faults_shown, point, step_answer}
use Rattle.fts_shop.specs.Turns.{GoesOn, HandData, IsTurn, ReportsHeld, end_by_claim, end_by_report, end_by_state, idle_end}
use Rattle.fts_shop.specs.Workers.{EndsBehind, end_without_lanes, stopped_instead, worker_end_of}
use Rattle.fts_shop.specs.declared.ends.Turn.{Turn}
use Rattle.fts_shop.specs.declared.ends.Turn.TheVariants as turn_ends
use Rattle.fts_shop.specs.declared.ends.WorkerEnd.{WorkerEnd}
use Rattle.fts_shop.specs.declared.ends.WorkerEnd.TheVariants as worker_ends
use Rattle.fts_store.specs.declared.store.Store as store

-- the last command that was tried in the last turn that a pass has seen, behind what the turn had added until then
pub record TriesLast (pass : PassView Entry) (result : Result Answer KeepFault) : Type 0 where
  pub before : List (LoggedTurn Entry)
  pub turn : LoggedTurn Entry
  pub seen : pass.seen ≡ before ++ turn ∷ []
  pub cause : result ≡ Err DiskFailed → Rose (faults_shown (shown_after pass.opening_shows before)) (faults_shown turn.shows)
  pub own : List Entry
  pub rest : List Entry
  pub items : turn.items ≡ own ++ rest
  pub entry : Entry
  pub full : (used : ℕ) → result ≡ Err (JournalFull used) → applied_over ((pass.opening ++ items_of before) ++ own) entry ≡ Err (JournalFull used)

-- one that was tried behind what the turn had added until then
tried_behind : {old new : PassView Entry} (taken : TakesTurn old new) (own rest : List Entry) (entry : Entry) (result : Result Answer KeepFault)
    → taken.turn.items ≡ own ++ rest → (result ≡ Err DiskFailed → HasFault taken) → CameTo (applied_over (point taken ++ own) entry) (HasFault taken) result
    → TriesLast new result
tried_behind {old} taken own rest entry result items cause came = record {
  before = old.seen ++ taken.between;
  turn = taken.turn;
  seen = taken.seen;
  cause = λ failed. subst (λ s. Rose (faults_shown (shown_after s (old.seen ++ taken.between))) (faults_shown taken.turn.shows)) (sym taken.same.2)
      (cause failed);
  own = own;
  rest = rest;
  items = items;
  entry = entry;
  full = λ used is. subst (λ o. applied_over ((o ++ items_of (old.seen ++ taken.between)) ++ own) entry ≡ Err (JournalFull used)) (sym taken.same.1)
      (subst (λ (r : Result Answer KeepFault). CameTo (applied_over (point taken ++ own) entry) (HasFault taken) r) is came);
}

-- one that was tried first in the turn
tried_first : {old new : PassView Entry} (taken : TakesTurn old new) (entry : Entry) (result : Result Answer KeepFault)
    → (result ≡ Err DiskFailed → HasFault taken) → CameTo (applied_over (point taken) entry) (HasFault taken) result → TriesLast new result
tried_first taken entry result cause came = tried_behind taken [] taken.turn.items entry result refl cause
    (subst (λ list. CameTo (applied_over list entry) (HasFault taken) result) (sym (append-nil (point taken))) came)

pub tries_last : {old new : PassView Entry} {command : Command} {result : Result Answer KeepFault} {lanes : ℕ}
    → TriedInTurn old new command result lanes → TriesLast new result
tries_last {old} {command = command} {result = result} tried = tried_first tried.taken (entry_by old.number command) result tried.cause tried.came

-- so is the last command of a worker's step
pub step_last : {old new : PassView Entry} {now word lanes : ℕ} (expiry : Result Answer KeepFault) (claim : Option (Result Answer KeepFault))
    → StepInTurn old new now word expiry claim lanes → TriesLast new (step_answer expiry claim)
step_last {old} {now = now} expiry None tried = tried_first tried.taken (entry_by old.number (Expire now)) expiry tried.expiry_cause tried.expired
step_last {old} {now = now} {word = word} expiry (Some result) tried =
    tried_behind tried.taken (added_by (entry_by old.number (Expire now)) expiry) (added_by_claim (entry_by old.number (Claim now word)) (Some result))
    (entry_by old.number (Claim now word)) result tried.added (λ failed. tried.claim_cause (ap (λ (r : Result Answer KeepFault). Some r) failed))
    tried.claimed.came

-- the fault by which a turn ended
abbrev pub fault_of : Turn → Option KeepFault
fault_of turn_ends.Idle = None
fault_of turn_ends.Stopping = None
fault_of (turn_ends.Done file) = None
fault_of (turn_ends.Failed file) = None
fault_of (turn_ends.Retried file) = None
fault_of (turn_ends.Cancelled file) = None
fault_of (turn_ends.Stale file) = None
fault_of (turn_ends.DiskFailed lanes) = Some DiskFailed
fault_of (turn_ends.JournalFull used lanes) = Some (JournalFull used)
fault_of (turn_ends.Memory lanes) = None

-- it is that of the command that was tried
state_fault : (file : ℕ) (left : FileState) (fault : KeepFault) → fault_of (end_by_state file left) ≡ Some fault → ⊥
state_fault file state.Finished fault is = absurd cc
state_fault file state.Failed fault is = absurd cc
state_fault file state.Submitted fault is = absurd cc
state_fault file state.Canceled fault is = absurd cc
state_fault file state.Active fault is = absurd cc
state_fault file state.NotUsed fault is = absurd cc

report_fault : (file lanes : ℕ) (result : Result Answer KeepFault) (fault : KeepFault) → fault_of (end_by_report file lanes result) ≡ Some fault
    → result ≡ Err fault
report_fault file lanes (Ok (Reported reported left)) fault is = absurd (state_fault file left fault is)
report_fault file lanes (Err DiskFailed) fault is = cc
report_fault file lanes (Err (JournalFull used)) fault is = cc
report_fault file lanes _ fault is = absurd cc

idle_fault : (lanes : ℕ) (fault : KeepFault) → fault_of (idle_end lanes) ≡ Some fault → ⊥
idle_fault zero fault is = absurd cc
idle_fault (suc more) fault is = absurd cc

claim_fault : (lanes : ℕ) (found fault : KeepFault) → fault_of (end_by_claim lanes found) ≡ Some fault
    → ◌≡◌ {A = Result Answer KeepFault} (Err found) (Err fault)
claim_fault lanes DiskFailed fault is = cc
claim_fault lanes (JournalFull used) fault is = cc
claim_fault lanes Memory fault is = absurd cc
claim_fault lanes (Rule refusal) fault is = absurd (idle_fault lanes fault is)
claim_fault lanes (Damaged offset) fault is = absurd cc

-- the last command that was tried failed so
pub record FailsLast (pass : PassView Entry) (fault : KeepFault) : Type 0 where
  pub result : Result Answer KeepFault
  pub tries : TriesLast pass result
  pub is : result ≡ Err fault

module _ {E : Type 0} (stores : store.Ghosts E) where
  reports_fail : (old new : PassView Entry) (moments later : Option Coming) (held : List Held) (end : Turn) (left : List Held) (fault : KeepFault)
      → ReportsHeld old new moments later held end left → fault_of end ≡ Some fault → FailsLast new fault
  reports_fail old new moments later [] end left fault reported is = absurd reported
  reports_fail old new moments later (held ∷ []) end left fault reported is = record {
    result = reported.1.result;
    tries = tries_last reported.1.tried;
    is = report_fault held.file reported.1.lanes reported.1.result fault (sym (ap fault_of reported.1.ends) ∙ is);
  }
  reports_fail old new moments later (held ∷ next ∷ others) end left fault reported is = absurd reported

  goes_fail : (claimed new : PassView Entry) (lanes : ℕ) (result : Result Answer KeepFault) (hand after : HandData E) (end : Turn) (left : List Held)
      (fault : KeepFault) → TriesLast claimed result
      → GoesOn stores lanes result claimed new hand after end left → fault_of end ≡ Some fault → FailsLast new fault
  goes_fail claimed new lanes (Ok (Claimed file attempt)) hand after end left fault tried goes is = record {
    result = goes.reported.result;
    tries = tries_last goes.reported.tried;
    is = report_fault file goes.reported.lanes goes.reported.result fault (sym (ap fault_of goes.reported.ends) ∙ is);
  }
  goes_fail claimed new lanes (Ok (Restarted released)) hand after end left fault tried goes is = absurd goes
  goes_fail claimed new lanes (Ok (Submitted job id)) hand after end left fault tried goes is = absurd goes
  goes_fail claimed new lanes (Ok (Cancelled job)) hand after end left fault tried goes is = absurd goes
  goes_fail claimed new lanes (Ok (PrioritySet job)) hand after end left fault tried goes is = absurd goes
  goes_fail claimed new lanes (Ok (Reported file left_in)) hand after end left fault tried goes is = absurd goes
  goes_fail claimed new lanes (Ok (Banned cancelled)) hand after end left fault tried goes is = absurd goes
  goes_fail claimed new lanes (Ok Unbanned) hand after end left fault tried goes is = absurd goes
  goes_fail claimed new lanes (Ok (Expired cancelled)) hand after end left fault tried goes is = absurd goes
  goes_fail claimed new lanes (Err found) hand after end left fault tried goes is = record {
    result = Err found;
    tries = subst (λ pass. TriesLast pass (Err found)) (sym goes.1.pass) tried;
    is = claim_fault lanes found fault (sym (ap fault_of goes.0) ∙ is);
  }

  -- a turn that ends by a fault
  pub turn_fails : (old new : PassView Entry) (hand after : HandData E) (held : List Held) (end : Turn) (left : List Held) (fault : KeepFault)
      → IsTurn stores old new hand after held end left → fault_of end ≡ Some fault → FailsLast new fault
  turn_fails old new hand after [] end left fault turn is =
      goes_fail turn.claimed new turn.lanes (step_answer turn.expiry turn.claim) turn.behind after end left fault
      (step_last turn.expiry turn.claim turn.tried) turn.goes_on is
  turn_fails old new hand after (held ∷ others) end left fault turn is =
      reports_fail old new hand.moments after.moments (held ∷ others) end left fault turn.reported is

-- the fault by which a worker ended, by its last turn
abbrev pub worker_fault : WorkerEnd → Option KeepFault
worker_fault worker_ends.Drained = None
worker_fault worker_ends.Stopped = None
worker_fault worker_ends.Memory = None
worker_fault worker_ends.DiskFailed = Some DiskFailed
worker_fault (worker_ends.JournalFull used) = Some (JournalFull used)

without_lanes : (lanes : ℕ) (end other : WorkerEnd) → end_without_lanes lanes end ≡ Some other → end ≡ other
without_lanes zero end other is = cc
without_lanes (suc more) end other is = absurd cc

pub last_fault : (last : Turn) (end : WorkerEnd) (fault : KeepFault) → worker_end_of last ≡ Some end → worker_fault end ≡ Some fault → fault_of last ≡ Some fault
last_fault turn_ends.Idle end fault is by = absurd cc
last_fault turn_ends.Stopping end fault is by =
    let same : worker_ends.Drained ≡ end = cc in
    absurd (none_some fault (ap worker_fault same ∙ by))
  where
    none_some : (fault : KeepFault) → ◌≡◌ {A = Option KeepFault} None (Some fault) → ⊥
    none_some fault is = absurd cc
last_fault (turn_ends.Done file) end fault is by = absurd cc
last_fault (turn_ends.Failed file) end fault is by = absurd cc
last_fault (turn_ends.Retried file) end fault is by = absurd cc
last_fault (turn_ends.Cancelled file) end fault is by = absurd cc
last_fault (turn_ends.Stale file) end fault is by = absurd cc
last_fault (turn_ends.DiskFailed lanes) end fault is by = ap worker_fault (without_lanes lanes worker_ends.DiskFailed end is) ∙ by
last_fault (turn_ends.JournalFull used lanes) end fault is by = ap worker_fault (without_lanes lanes (worker_ends.JournalFull used) end is) ∙ by
last_fault (turn_ends.Memory lanes) end fault is by =
    absurd (none_some fault (ap worker_fault (without_lanes lanes worker_ends.Memory end is) ∙ by))
  where
    none_some : (fault : KeepFault) → ◌≡◌ {A = Option KeepFault} None (Some fault) → ⊥
    none_some fault is = absurd cc

-- the same, however the worker ended behind it
pub fault_behind : {closes : Bool} {held : List Held} {ended : Option WorkerEnd} (last : Turn) (end : WorkerEnd) (fault : KeepFault)
    → EndsBehind closes last held ended → ended ≡ Some end → worker_fault end ≡ Some fault → fault_of last ≡ Some fault
fault_behind last end fault (inl by_turn) is by = last_fault last end fault (sym by_turn ∙ is) by
fault_behind last end fault (inr stopped) is by =
    last_fault last end fault (would_be (worker_end_of last) (sym stopped.2 ∙ is)) by
  where
    not_stopped : worker_ends.Stopped ≡ end → ⊥
    not_stopped same = absurd (let none = ap worker_fault same ∙ by in cc)

    would_be : (would : Option WorkerEnd) → stopped_instead would ≡ Some end → would ≡ Some end
    would_be None at = absurd (not_stopped cc)
    would_be (Some worker_ends.Drained) at = absurd (not_stopped cc)
    would_be (Some worker_ends.Stopped) at = absurd (not_stopped cc)
    would_be (Some worker_ends.DiskFailed) at = at
    would_be (Some (worker_ends.JournalFull used)) at = at
    would_be (Some worker_ends.Memory) at = at

-- what didn't fit was accepted by the machine
unfit : (fit : Bool) (used full : ℕ) (found : Tables × Answer)
    → (if fit then Ok found else Err (JournalFull used)) ≡ Err (JournalFull full) → fit ≡ false
unfit true used full found is = absurd cc
unfit false used full found is = refl

pub full_by : (used full : ℕ) (entry : Entry) (came : Outcomes) → applied_by used entry came ≡ Err (JournalFull full) → IsOk came × (fits used entry ≡ false)
full_by used full entry (Ok found) is = (refl, unfit (fits used entry) used full found is)
full_by used full entry (Err refusal) is = absurd cc

-- a worker that ended by a fault, in the list of all turns
pub record Failed (first : PassView Entry) (turns : List (LoggedTurn Entry)) (fault : KeepFault) : Type 0 where
  pub before : List (LoggedTurn Entry)
  pub turn : LoggedTurn Entry
  pub later : List (LoggedTurn Entry)
  pub is : turns ≡ before ++ turn ∷ later
  pub cause : fault ≡ DiskFailed → Rose (faults_shown (shown_after first.opening_shows before)) (faults_shown turn.shows)
  pub own : List Entry
  pub rest : List Entry
  pub items : turn.items ≡ own ++ rest
  pub entry : Entry
  pub full : (used : ℕ) → fault ≡ JournalFull used
      → applied_over ((first.opening ++ items_of before) ++ own) entry ≡ Err (JournalFull used)
