-- What a call of the journal did, by the clauses of fts_journal.
use Rattle.std.specs.Prelude.{◌≡◌, ℕ, ◌+◌, ◌≤◌, false, None, List, [], ◌∷◌, ◌++◌, length, Result, IfErr, OnOk, OnErr}
use Rattle.fts_tables.specs.Counts.{Rose}
use Rattle.fts_disk.specs.Disk.{DiskState, IsTold, LeavesOnly}
use Rattle.fts_journal.specs.Journal.{JournalData, IsSound, FailsToAppend, AppendCause, IsBeforeOrAfter, IsImageOf}
use Rattle.fts_journal.specs.declared.fault.JournalFault.{JournalFault}
use Rattle.fts_journal.specs.declared.fault.JournalFault.TheVariants.{DiskFailed}

-- what a settling did, by its clauses
pub record Settles {D : Type 0} (state : D → DiskState) (faults : D → ℕ) (old new : JournalData D) (result : Result (Unit {0}) JournalFault) : Type 0 where
  pub told : (state new.disk).told ≡ (state old.disk).told
  pub kept : (new.count ≡ old.count) × (new.used ≡ old.used)
  pub ok : OnOk result (new.in_doubt ≡ false)
  pub err : OnErr result (new.in_doubt ≡ old.in_doubt)
  pub counts : faults old.disk ≤ faults new.disk
  pub cause : IfErr result (λ e. (e ≡ DiskFailed) × Rose (faults old.disk) (faults new.disk))
  pub bodies : IsTold (state old.disk) → new.bodies ≡ old.bodies
  pub settled : IsTold (state old.disk) → OnOk result (new.doubt ≡ None)
  pub doubt : IsTold (state old.disk) → OnErr result (new.doubt ≡ old.doubt)
  pub any_moment : IsTold (state old.disk) → LeavesOnly (state old.disk) (state new.disk) (IsImageOf old.bodies old.doubt)
  pub images : IsSound (state new.disk) new.bodies new.doubt

-- what an append did, by its clauses
pub record Appends {D : Type 0} (state : D → DiskState) (faults : D → ℕ) (old new : JournalData D) (body : List ℕ) (result : Result (Unit {0}) JournalFault)
    : Type 0 where
  pub told : (state new.disk).told ≡ (state old.disk).told
  pub ok : OnOk result ((new.count ≡ old.count + 1) × (new.used ≡ old.used + 5 + length body) × (new.in_doubt ≡ false))
  pub err : OnErr result ((new.count ≡ old.count) × (new.used ≡ old.used))
  pub counts : faults old.disk ≤ faults new.disk
  pub cause : IfErr result (AppendCause faults old new (length body))
  pub appended : IsTold (state old.disk) → OnOk result ((new.bodies ≡ old.bodies ++ body ∷ []) × (new.doubt ≡ None))
  pub failed : IsTold (state old.disk) → OnErr result (FailsToAppend (state old.disk) (state new.disk) old.bodies new.bodies new.doubt new.in_doubt body)
  pub any_moment : IsTold (state old.disk) → LeavesOnly (state old.disk) (state new.disk) (IsBeforeOrAfter old.bodies body)
  pub images : IsSound (state new.disk) new.bodies new.doubt
