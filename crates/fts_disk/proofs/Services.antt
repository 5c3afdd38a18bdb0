-- What is known of a file after a sync that failed.
use Rattle.std.proofs.Common.{◌≡◌, ℕ, Option, Result, Ok, Err, OnErr, List, inl, inr}
use Rattle.std.specs.Prelude.{min}
use Rattle.fts_files.specs.Calls.{Call}
use Rattle.fts_files.specs.Script.{Script, LeadsTo}
use Rattle.fts_disk.specs.declared.guard.State.{State}
use Rattle.fts_disk.specs.Guard.{guarded_sync, doubted}
use Rattle.fts_disk.specs.Service.{IsUnsynced}

-- the sync itself failed
pub sync_failed : {T E : Type 0} (result : Result T E) (file : ℕ) (old new : State) (before : Option (List Call)) → new ≡ doubted old (min old.unsynced old.ready)
    → OnErr result (IsUnsynced file old before new)
sync_failed (Ok done) file old new before is = tt
sync_failed (Err error) file old new before is = inl is

-- it was answered, and the look behind it failed
pub look_failed : {T E : Type 0} (result : Result T E) (file : ℕ) (old new : State) (before between : Option (List Call))
    → ((next : State → Script) → LeadsTo (guarded_sync file old next) before (next new) between) → OnErr result (IsUnsynced file old before new)
look_failed (Ok done) file old new before between leads = tt
look_failed (Err error) file old new before between leads = inr (between, leads)
