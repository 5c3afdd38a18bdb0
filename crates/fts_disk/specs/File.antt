-- What is known of a disk in a file: how it was opened, what its calls ask of the file system, and how often it failed.
use Rattle.std.specs.Prelude.{◌≡◌, ℕ, Bool, true, false, min, Option, Result, List, IsErr, OnErr, IsTrue}
use Rattle.fts_files.specs.Calls.{Call}
use Rattle.fts_files.specs.Script.{Script, LeadsTo, either, fails}
use Rattle.fts_disk.specs.Guard.{guarded_len, guarded_read, guarded_sync, write_place, doubted}
use Rattle.fts_disk.specs.Service.{service_write, service_sync, IsDoubted, IsUnsynced}
use Rattle.fts_disk.specs.declared.disk.DiskFailed.{DiskFailed}
use Rattle.fts_disk.specs.declared.guard.State.{State}
use Rattle.fts_disk.specs.declared.guard.Guard.{Guard}
use Rattle.fts_disk.specs.declared.service.Service.{Service}
use Rattle.fts_disk.specs.declared.file.Opened.{Opened}
use Rattle.fts_disk.specs.declared.file.Opened.TheVariants.{Served, Viewed, Absent, Refused}
use Rattle.fts_disk.specs.declared.file.FileDisk.{FileDisk}

-- it could not be opened or locked
abbrev pub is_shut : {F H : Type 0} → Opened F H → Bool
is_shut Refused = true
is_shut _ = false

-- the same as a fact
abbrev pub IsShut : {F H : Type 0} → Opened F H → Type 0
IsShut opened = IsTrue (is_shut opened)

-- it is open for looking at most
abbrev pub cannot_write : {F H : Type 0} → Opened F H → Bool
cannot_write (Served service) = false
cannot_write _ = true

-- the same as a fact
abbrev pub CannotWrite : {F H : Type 0} → Opened F H → Type 0
CannotWrite opened = IsTrue (cannot_write opened)

-- it stays open as it was, and this holds of what is served, or of what is looked at, or of what is not open
abbrev pub Through : {F H : Type 0} → (Service F H → Service F H → Type 0) → (Guard F H → Guard F H → Type 0) → Type 0 → Opened F H → Opened F H → Type 0
Through served viewed none (Served old) (Served new) = served old new
Through served viewed none (Viewed old) (Viewed new) = viewed old new
Through served viewed none Absent Absent = none
Through served viewed none Refused Refused = none
Through served viewed none old new = ⊥

-- it stays open as it was, by the same handle, which holds the lock
abbrev pub StaysOpen : {F H : Type 0} → Opened F H → Opened F H → Type 0
StaysOpen old new = Through (λ was is. is.guard.file ≡ was.guard.file) (λ was is. is.file ≡ was.file) (Unit {0}) old new

-- a length asks what a guard does, and where nothing is open it asks nothing
abbrev pub AsksLen : {F H : Type 0} → (H → ℕ) → Option (List Call) → Option (List Call) → Result ℕ DiskFailed → Opened F H → Opened F H → Type 0
AsksLen number before after result old new =
    Through (λ was is. (next : State → ℕ → Script) → LeadsTo (guarded_len (number was.guard.file) was.guard.state next) before (either (next is.guard.state) fails result) after)
    (λ was is. (next : State → ℕ → Script) → LeadsTo (guarded_len (number was.file) was.state next) before (either (next is.state) fails result) after)
    (after ≡ before) old new

-- and so does a read of so many bytes, which gave these
abbrev pub AsksRead : {F H : Type 0} → (H → ℕ) → ℕ → ℕ → List ℕ → Option (List Call) → Option (List Call) → Result (Unit {0}) DiskFailed → Opened F H → Opened F H
    → Type 0
AsksRead number at wanted found before after result old new =
    Through (λ was is. (next : State → List ℕ → Script) → LeadsTo (guarded_read (number was.guard.file) was.guard.state at wanted next) before
    (either (λ done. next is.guard.state found) fails result) after)
    (λ was is. (next : State → List ℕ → Script) → LeadsTo (guarded_read (number was.file) was.state at wanted next) before (either (λ done. next is.state found) fails result) after)
    (after ≡ before) old new

-- a write asks what a service does, and where the file is not served it asks nothing
abbrev pub AsksWrite : {F H : Type 0} → (H → ℕ) → ℕ → List ℕ → Option (List Call) → Option (List Call) → Result (Unit {0}) DiskFailed → Opened F H → Opened F H → Type 0
AsksWrite number at bytes before after result old new =
    Through (λ was is. (next : State → Script) → LeadsTo (service_write was.path.bytes (number was.guard.file) was.least was.guard.state at bytes next) before
    (either (λ done. next is.guard.state) fails result) after)
    (λ was is. after ≡ before) (after ≡ before) old new

-- a sync asks what a service does, or what a guard does where the file is looked at
abbrev pub AsksSync : {F H : Type 0} → (H → ℕ) → Option (List Call) → Option (List Call) → Result (Unit {0}) DiskFailed → Opened F H → Opened F H → Type 0
AsksSync number before after result old new =
    Through (λ was is. (next : State → ℕ → Script) → LeadsTo (service_sync was.path.bytes (number was.guard.file) was.least was.guard.state next) before
    (either (λ done. next is.guard.state is.least) fails result) after)
    (λ was is. (next : State → Script) → LeadsTo (guarded_sync (number was.file) was.state next) before (either (λ done. next is.state) fails result) after)
    (after ≡ before) old new

-- after a write of so many bytes that failed nothing is believed of the file from its place on, and no more is ready
abbrev pub DoubtsWrite : {F H T E : Type 0} → ℕ → ℕ → Result T E → Opened F H → Opened F H → Type 0
DoubtsWrite at size result old new =
    OnErr result (Through (λ was is. IsDoubted was.guard.state (write_place was.guard.state at size) is.guard.state) (λ was is. is.state ≡ was.state) (Unit {0}) old new)

-- and after a sync that failed, from the first byte on that isn't synced
abbrev pub DoubtsSync : {F H T E : Type 0} → (H → ℕ) → Option (List Call) → Result T E → Opened F H → Opened F H → Type 0
DoubtsSync number before result old new =
    OnErr result (Through (λ was is. IsUnsynced (number was.guard.file) was.guard.state before is.guard.state)
    (λ was is. is.state ≡ doubted was.state (min was.state.unsynced was.state.ready)) (Unit {0}) old new)

-- how often it failed
abbrev pub file_faults : {F H : Type 0} → FileDisk F H → ℕ
file_faults disk = disk.faults

-- it could not be opened or locked
abbrev pub IsRefused : {F H : Type 0} → FileDisk F H → Type 0
IsRefused disk = IsShut disk.opened

-- it is open for looking, or not at all
abbrev pub IsReadOnly : {F H : Type 0} → FileDisk F H → Type 0
IsReadOnly disk = CannotWrite disk.opened

-- what follows the opening for a service: the open file, or its failure
abbrev pub served_on : {F H : Type 0} → (H → ℕ) → (ℕ → Script) → Opened F H → Script
served_on number next (Served service) = next (number service.guard.file)
served_on number next _ = fails

-- what follows the opening for looking: the open file, none, or its failure
abbrev pub viewed_on : {F H : Type 0} → (H → ℕ) → Script → (ℕ → Script) → Opened F H → Script
viewed_on number absent next (Viewed guard) = next (number guard.file)
viewed_on number absent next Absent = absent
viewed_on number absent next (Served service) = fails
viewed_on number absent next Refused = fails

-- A call fails where the file could not be opened or locked, and leaves open what was open.
pub record Answers {F H T E : Type 0} (old new : FileDisk F H) (result : Result T E) : Type 0 where
  pub refused : IsRefused old → IsErr result
  pub same : StaysOpen old.opened new.opened
