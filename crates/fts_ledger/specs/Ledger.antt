-- What turns at a station keep, whatever others do meanwhile: of the pass's reports, of its bench, and of the station's store.
use Rattle.std.specs.Prelude.{◌≡◌, ◌≢◌, ℕ, zero, suc, ◌==◌, List, ◌++◌, None}
use Rattle.fts_tables.specs.History.{tables_of, IsLegal}
use Rattle.fts_tables.specs.declared.commands.Entry.{Entry}
use Rattle.fts_turnstile.specs.declared.turn.LoggedTurn.{LoggedTurn}
use Rattle.fts_turnstile.specs.History.{items_of}
use Rattle.fts_turnstile.specs.Passes.{PassView, IsSame, seen_list}
use Rattle.fts_workers.specs.Copies.{copies_from, copies_kept, FollowsReports}
use Rattle.fts_workers.specs.declared.held.Held.{Held}
use Rattle.fts_shop.specs.Workers.{StationData, TakesOne, worker_end_of}
use Rattle.fts_shop.specs.declared.ends.Turn.{Turn}
use Rattle.fts_shop.specs.declared.ends.Turn.TheVariants as turn_ends
use Rattle.fts_ledger.specs.Reports.{AddsWork, IsUndisturbed, ReportsOwn, StopsAsked}
use Rattle.fts_ledger.specs.Fitting.{FitsPass}
use Rattle.fts_store.specs.declared.store.Store as store

-- turns of a pass with its bench: what it has then seen, what it added, what holds of the reports among that, and that the bench fits it
pub record KeepsLedger (old new : PassView Entry) (held_now : List Held) : Type 0 where
  pub same : IsSame old new
  pub since : List (LoggedTurn Entry)
  pub seen : new.seen ≡ old.seen ++ since
  pub work : AddsWork old.number (items_of since)
  pub own_reports : ReportsOwn old.number old.opening (items_of old.seen) (items_of since)
  pub stopped : StopsAsked old.number (seen_list old) (items_of since)
  pub held_is_out : FitsPass new held_now

-- the list is legal in what the pass has then seen; and the bench fitted the pass before
pub record MayKeep (old new : PassView Entry) (held : List Held) : Type 0 where
  pub legal : IsLegal (seen_list new)
  pub fits : FitsPass old held

-- nobody takes a file from a pass that has claimed it, in what the pass has seen
abbrev pub KeepsItsFiles : PassView Entry → Type 0
KeepsItsFiles pass = IsUndisturbed pass.number pass.opening (items_of pass.seen)

module _ {E : Type 0} (stores : store.Ghosts E) where
  -- a station's store follows from the reports that its pass added, with the copy that the bench keeps
  pub record FollowsOwn (old new : StationData E) : Type 0 where
    pub since : List (LoggedTurn Entry)
    pub seen : new.pass.seen ≡ old.pass.seen ++ since
    pub follows : FollowsReports stores.state stores.calls stores.faults
        (copies_kept (tables_of (seen_list old.pass)) old.held)
        (copies_from (λ writer. writer == old.pass.number) (tables_of (seen_list old.pass)) (items_of since))
        (copies_kept (tables_of (seen_list new.pass)) new.held) old.hand.store new.hand.store

  -- turns, one after the other, after none of which a worker ends, and of which none is stale
  abbrev pub AreFresh : ℕ → StationData E → StationData E → Type 0
  AreFresh zero old new = (old.hand ≡ new.hand) × (old.held ≡ new.held) × (old.pass ≡ new.pass)
  AreFresh (suc more) old new = (next : StationData E) × (end : Turn) × (TakesOne stores old next end
      × ((worker_end_of end ≡ None) × (((file : ℕ) → end ≢ turn_ends.Stale file) × AreFresh more next new)))
