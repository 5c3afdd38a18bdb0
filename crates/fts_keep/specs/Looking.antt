-- A keep that is only looked at, and what it gives of its entries: each by its spelling.
use Rattle.std.specs.Prelude.{◌≡◌, ℕ, ◌+◌, ◌≤◌, Some, List, length, slice_get, Result, OnOk, IfErr}
use Rattle.fts_tables.specs.Counts.{Rose}
use Rattle.fts_disk.specs.Disk.{DiskState, IsTold, LeavesOnly}
use Rattle.fts_keep.specs.Keeps.{KeepData, bodies_of}
use Rattle.fts_keep.specs.declared.fault.KeepFault.{KeepFault}
use Rattle.fts_keep.specs.declared.fault.KeepFault.TheVariants.{Rule, DiskFailed, JournalFull, Damaged, Memory}

-- a keep that was only looked at: over every disk all but the disk is as before, and a crash leaves what it might have left before
pub record OnlyLooks {D : Type 0} (state : D → DiskState) (faults : D → ℕ) (old new : KeepData D) : Type 0 where
  pub entries : new.entries ≡ old.entries
  pub doubt : new.doubt ≡ old.doubt
  pub tables : new.tables ≡ old.tables
  pub commands : new.commands ≡ old.commands
  pub used : new.used ≡ old.used
  pub in_doubt : new.in_doubt ≡ old.in_doubt
  pub told : (state new.disk).told ≡ (state old.disk).told
  pub counts : faults old.disk ≤ faults new.disk
  pub moments : IsTold (state old.disk) → LeavesOnly (state old.disk) (state new.disk) (state old.disk).may_leave

-- why an entry was not given: the disk counted a failure, or memory ran out
abbrev pub EntryFault : ℕ → ℕ → KeepFault → Type 0
EntryFault old new DiskFailed = Rose old new
EntryFault old new Memory = Unit {0}
EntryFault old new (Rule refusal) = ⊥
EntryFault old new (JournalFull used) = ⊥
EntryFault old new (Damaged offset) = ⊥

-- What giving the n-th entry, from 0, did. Over a disk that tells its contents the bytes are the entry's spelling; over every disk they stand
-- behind the header, the entry's gate and its length, within what is used.
pub record GivesEntry {D : Type 0} (state : D → DiskState) (faults : D → ℕ) (old new : KeepData D) (n : ℕ) (bytes : List ℕ)
    (result : Result (Unit {0}) KeepFault) : Type 0 where
  pub looks : OnlyLooks state faults old new
  pub given : IsTold (state old.disk) → OnOk result (slice_get (bodies_of old.entries) n ≡ Some bytes)
  pub within : OnOk result (8 + 5 + length bytes ≤ old.used)
  pub cause : IfErr result (EntryFault (faults old.disk) (faults new.disk))
