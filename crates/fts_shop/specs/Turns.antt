-- A turn of a worker: it reports what is kept from before, or else cancels what is overdue and claims in one turn of the lock, copies outside every
-- turn, and reports in one.
use Rattle.std.specs.Prelude.{◌≡◌, ℕ, zero, suc, ◌+◌, ◌*◌, ◌≤◌, Bool, true, false, if◌then◌else◌, List, [], ◌∷◌, ◌++◌, Option, Some, IsSome, Result, Ok, Err}
use Rattle.fts_tables.specs.Coming.{Coming, Gives}
use Rattle.fts_tables.specs.History.{tables_of}
use Rattle.fts_tables.specs.declared.commands.Entry.{Entry}
use Rattle.fts_tables.specs.declared.commands.Command.TheVariants.{Report}
use Rattle.fts_tables.specs.declared.commands.Answer.{Answer}
use Rattle.fts_tables.specs.declared.commands.Answer.TheVariants.{Restarted, Submitted, Cancelled, PrioritySet, Claimed, Reported, Banned, Unbanned, Expired}
use Rattle.fts_tables.specs.declared.rows.FileState.{FileState}
use Rattle.fts_tables.specs.declared.rows.FileState.TheVariants as state
use Rattle.fts_tables.specs.declared.rows.Outcome.{Outcome}
use Rattle.fts_tables.specs.declared.rows.Outcome.TheVariants.{Verified, SourceMissing, DestinationExists, SourceSize, SourceDigest, ReadBackDiffers, StoreFailed, Stopped}
use Rattle.fts_copy.specs.Copy.{Order}
use Rattle.fts_copy.specs.Watch.{pieces}
use Rattle.fts_turnstile.specs.declared.turn.LoggedTurn.{LoggedTurn}
use Rattle.fts_turnstile.specs.History.{items_of, shown_after}
use Rattle.fts_turnstile.specs.Passes.{PassView, IsSame, seen_list, own_items}
use Rattle.fts_keep.specs.declared.fault.KeepFault.{KeepFault}
use Rattle.fts_keep.specs.declared.fault.KeepFault.TheVariants.{Rule, DiskFailed, JournalFull, Damaged, Memory}
use Rattle.fts_workers.specs.Copies.{IsCopied, copies_of_file}
use Rattle.fts_workers.specs.declared.held.Held.{Held}
use Rattle.fts_workers.specs.declared.hand.Hand.{Hand}
use Rattle.fts_shop.specs.Within.{is_cancel_asked}
use Rattle.fts_shop.specs.Shops.{StepInTurn, TriedInTurn, step_answer}
use Rattle.fts_shop.specs.Looking.{looks_in, Unasked, LeaveDoubt, LeaveLanes, NoneOf}
use Rattle.fts_shop.specs.declared.ends.Turn.{Turn}
use Rattle.fts_shop.specs.declared.ends.Turn.TheVariants as turn_ends
use Rattle.fts_store.specs.declared.store.Store as store
use Rattle.fts_tables.specs.declared.clock.Clock as clock
use Rattle.fts_tables.specs.declared.words.Words as words

-- what a bench holds between two turns: one file at most, whose copy has ended
abbrev pub IsReady : List Held → Type 0
IsReady [] = Unit {0}
IsReady (held ∷ []) = IsSome held.outcome
IsReady (held ∷ next ∷ others) = ⊥

-- a verified copy was looked after: before each piece that is written and each that is read back, and before the file is put in its place
abbrev pub IsLookedAfter : Outcome → ℕ → Type 0 → Type 0
IsLookedAfter (Verified size digest) looks unasked = (2 * pieces size + 1 ≤ looks) × unasked
IsLookedAfter SourceMissing looks unasked = Unit {0}
IsLookedAfter DestinationExists looks unasked = Unit {0}
IsLookedAfter (SourceSize seen) looks unasked = Unit {0}
IsLookedAfter (SourceDigest seen) looks unasked = Unit {0}
IsLookedAfter (ReadBackDiffers at) looks unasked = Unit {0}
IsLookedAfter StoreFailed looks unasked = Unit {0}
IsLookedAfter Stopped looks unasked = Unit {0}

-- a copy outside every turn, with looks in turns of its own
pub record Copies {E : Type 0} (stores : store.Ghosts E) (old new : PassView Entry) (store after : E)
    (file : ℕ) (outcome : Outcome) : Type 0 where
  pub same : IsSame old new
  pub since : List (LoggedTurn Entry)
  pub seen : new.seen ≡ old.seen ++ since
  pub only_looks : own_items new ≡ own_items old
  pub others : NoneOf old.number (items_of since)
  pub lanes : LeaveLanes old.number (shown_after old.opening_shows old.seen) since
  pub doubt : LeaveDoubt old.number (shown_after old.opening_shows old.seen) since
  -- the store's calls are those of the copy of an order, with the removal of its part behind one that wasn't verified, over every store; it is the
  -- order of the file's row
  pub order : Order
  pub made : IsCopied (stores.state store) (stores.state after) (stores.calls store) (stores.calls after) (stores.faults store) (stores.faults after) (record { order = order; outcome = outcome })
  pub of_file : copies_of_file (tables_of (seen_list old)) file outcome ≡ record { order = order; outcome = outcome } ∷ []
  pub looked : IsLookedAfter outcome (looks_in old.number since) (Unasked old.number file (seen_list old) since)
  pub stopped : outcome ≡ Stopped → is_cancel_asked (tables_of (seen_list new)) file ≡ true

-- the end of a turn by the state that a report was answered with
abbrev pub end_by_state : ℕ → FileState → Turn
end_by_state file state.Finished = turn_ends.Done file
end_by_state file state.Failed = turn_ends.Failed file
end_by_state file state.Submitted = turn_ends.Retried file
end_by_state file state.Canceled = turn_ends.Cancelled file
-- no report leaves its file in these two
end_by_state file state.Active = turn_ends.Stale file
end_by_state file state.NotUsed = turn_ends.Stale file

-- the end of a turn by the fault of a report that was tried while so many lanes were left; a refused one is stale
abbrev pub end_by_fault : ℕ → ℕ → KeepFault → Turn
end_by_fault file lanes DiskFailed = turn_ends.DiskFailed lanes
end_by_fault file lanes (JournalFull used) = turn_ends.JournalFull used lanes
end_by_fault file lanes Memory = turn_ends.Memory lanes
end_by_fault file lanes (Rule refusal) = turn_ends.Stale file
end_by_fault file lanes (Damaged offset) = turn_ends.Memory lanes

-- the end of a turn by the answer to the report of a file; the answers that no report is given end it as stale
abbrev pub end_by_report : ℕ → ℕ → Result Answer KeepFault → Turn
end_by_report file lanes (Ok (Reported reported left)) = end_by_state file left
end_by_report file lanes (Err fault) = end_by_fault file lanes fault
end_by_report file lanes _ = turn_ends.Stale file

-- whether a report that was answered so is over, or its file is held on
abbrev pub is_over : Result Answer KeepFault → Bool
is_over (Ok answer) = true
is_over (Err (Rule refusal)) = true
is_over _ = false

-- the report of a held file that ended so, in one turn and at the next moment
pub record ReportTurn (old new : PassView Entry) (moments later : Option Coming) (held : Held) (outcome : Outcome) (end : Turn) (left : List Held)
    : Type 0 where
  pub kept : held.outcome ≡ Some outcome
  pub now : ℕ
  pub moment : Gives moments later now
  pub result : Result Answer KeepFault
  pub lanes : ℕ
  pub tried : TriedInTurn old new (Report now held.file held.attempt outcome) result lanes
  pub ends : end ≡ end_by_report held.file lanes result
  pub leaves : left ≡ (if is_over result then [] else held ∷ [])

-- the report of the one file that a bench holds
abbrev pub ReportsHeld : PassView Entry → PassView Entry → Option Coming → Option Coming → List Held → Turn → List Held → Type 0
ReportsHeld old new moments later [] end left = ⊥
ReportsHeld old new moments later (held ∷ []) end left = (outcome : Outcome) × ReportTurn old new moments later held outcome end left
ReportsHeld old new moments later (held ∷ next ∷ others) end left = ⊥

-- no row was eligible, with a lane left or without
abbrev pub idle_end : ℕ → Turn
idle_end zero = turn_ends.Stopping
idle_end (suc more) = turn_ends.Idle

-- the end of a turn by the fault of a claim that was tried while so many lanes were left, or by that of the expiry before it
abbrev pub end_by_claim : ℕ → KeepFault → Turn
end_by_claim lanes (Rule refusal) = idle_end lanes
end_by_claim lanes DiskFailed = turn_ends.DiskFailed lanes
end_by_claim lanes (JournalFull used) = turn_ends.JournalFull used lanes
end_by_claim lanes Memory = turn_ends.Memory lanes
end_by_claim lanes (Damaged offset) = turn_ends.Memory lanes

-- what a station has besides its pass and its bench
pub record HandData (E : Type 0) : Type 0 where
  pub store : E
  pub moments : Option Coming
  pub words : Option Coming

-- the same of a hand, by what its clock and its words tell
abbrev pub hand_data : {E C W : Type 0} → clock.Ghosts C → words.Ghosts W → Hand E C W → HandData E
hand_data clocks draws hand = record { store = hand.store; moments = clocks.moments hand.clock; words = draws.words hand.words }

-- a claimed file as the bench holds it once its copy has ended
abbrev pub held_with : ℕ → ℕ → Outcome → Held
held_with file attempt outcome = record { file = file; attempt = attempt; outcome = Some outcome }

module _ {E : Type 0} (stores : store.Ghosts E) where
  -- a claimed file was copied, and its report tried
  pub record WorksOn (old new : PassView Entry) (hand after : HandData E) (file attempt : ℕ) (end : Turn) (left : List Held) : Type 0 where
    pub outcome : Outcome
    pub between : PassView Entry
    pub copied : Copies stores old between hand.store after.store file outcome
    pub words : after.words ≡ hand.words
    pub reported : ReportTurn between new hand.moments after.moments (held_with file attempt outcome) outcome end left

  -- nothing was claimed, and the turn is over
  pub record Rests (old new : PassView Entry) (hand after : HandData E) (left : List Held) : Type 0 where
    pub pass : new ≡ old
    pub hand_is : after ≡ hand
    pub nothing : left ≡ []

  -- how a turn goes on from what its expiry and its claim came to
  abbrev pub GoesOn : ℕ → Result Answer KeepFault → PassView Entry → PassView Entry → HandData E → HandData E → Turn → List Held → Type 0
  GoesOn lanes (Ok (Claimed file attempt)) old new hand after end left = WorksOn old new hand after file attempt end left
  GoesOn lanes (Ok (Restarted released)) old new hand after end left = ⊥
  GoesOn lanes (Ok (Submitted job id)) old new hand after end left = ⊥
  GoesOn lanes (Ok (Cancelled job)) old new hand after end left = ⊥
  GoesOn lanes (Ok (PrioritySet job)) old new hand after end left = ⊥
  GoesOn lanes (Ok (Reported file state)) old new hand after end left = ⊥
  GoesOn lanes (Ok (Banned cancelled)) old new hand after end left = ⊥
  GoesOn lanes (Ok Unbanned) old new hand after end left = ⊥
  GoesOn lanes (Ok (Expired cancelled)) old new hand after end left = ⊥
  GoesOn lanes (Err fault) old new hand after end left = (end ≡ end_by_claim lanes fault) × Rests old new hand after left

  -- an expiry and a claim in one turn, at the next moment; the claim has the next word, which is used up also where no claim was tried; and what follows
  pub record ClaimTurn (old new : PassView Entry) (hand after : HandData E) (end : Turn) (left : List Held) : Type 0 where
    pub now : ℕ
    pub word : ℕ
    pub claimed : PassView Entry
    pub behind : HandData E
    pub moment : Gives hand.moments behind.moments now
    pub drawn : Gives hand.words behind.words word
    pub store : behind.store ≡ hand.store
    pub expiry : Result Answer KeepFault
    pub claim : Option (Result Answer KeepFault)
    pub lanes : ℕ
    pub tried : StepInTurn old claimed now word expiry claim lanes
    pub goes_on : GoesOn lanes (step_answer expiry claim) claimed new behind after end left

  -- the report of a file that was kept from before
  pub record KeptTurn (old new : PassView Entry) (hand after : HandData E) (held : List Held) (end : Turn) (left : List Held) : Type 0 where
    pub words : after.words ≡ hand.words
    pub store : after.store ≡ hand.store
    pub reported : ReportsHeld old new hand.moments after.moments held end left

  -- a turn, by what the bench held before it
  abbrev pub IsTurn : PassView Entry → PassView Entry → HandData E → HandData E → List Held → Turn → List Held → Type 0
  IsTurn old new hand after [] end left = ClaimTurn old new hand after end left
  IsTurn old new hand after (held ∷ others) end left = KeptTurn old new hand after (held ∷ others) end left
