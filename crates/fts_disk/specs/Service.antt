-- What a service's file is asked for: the calls of its guard, between looks at its name.
use Rattle.std.specs.Prelude.{◌≡◌, ◌⊎◌, ℕ, nat_le, min, if◌then◌else◌, Option, List, length}
use Rattle.fts_files.specs.Calls.{Call}
use Rattle.fts_files.specs.Script.{Script, LeadsTo, fails}
use Rattle.fts_disk.specs.declared.guard.State.{State}
use Rattle.fts_disk.specs.Opening.{opens_to_serve, stays}
use Rattle.fts_disk.specs.Guard.{guarded_write, guarded_sync, doubted}

-- a file is opened and looked at, unless no path is so long
unfoldable pub service_opens : List ℕ → (ℕ → Script) → Script
service_opens path next = if nat_le (length path) 4095 then opens_to_serve path (λ file. stays path file 0 (λ len. next file)) else fails

-- a write: the file is where its name says and was not cut, and then it is written
unfoldable pub service_write : List ℕ → ℕ → ℕ → State → ℕ → List ℕ → (State → Script) → Script
service_write path file least state at bytes next = stays path file least (λ len. guarded_write file state at bytes next)

-- a sync: it is synced, and behind that still where its name says, and was not cut
unfoldable pub service_sync : List ℕ → ℕ → ℕ → State → (State → ℕ → Script) → Script
service_sync path file least state next = guarded_sync file state (λ now. stays path file least (next now))

-- where a write failed, nothing is believed from this place on, unless the file was not where its name says: then nothing was asked of it
abbrev pub IsDoubted : State → ℕ → State → Type 0
IsDoubted old place new = (new ≡ doubted old place) ⊎ (new ≡ old)

-- where a sync failed, nothing is believed from the first byte on that isn't synced; unless it was the file that isn't where its name says:
-- then the sync has led to what is known
abbrev pub IsUnsynced : ℕ → State → Option (List Call) → State → Type 0
IsUnsynced file old before new =
    (new ≡ doubted old (min old.unsynced old.ready))
    ⊎ ((between : Option (List Call)) × ((next : State → Script) → LeadsTo (guarded_sync file old next) before (next new) between))
