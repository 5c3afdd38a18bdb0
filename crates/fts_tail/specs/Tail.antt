-- How far a journal was passed, and what stands behind the gate there.
use Rattle.std.specs.Prelude.{◌≡◌, ℕ, ◌+◌, ◌-◌, ◌≤◌, ◌<◌, Bool, true, if◌then◌else◌, Option, Some, None, List, [], ◌∷◌, ◌++◌, length, take, drop, All}
use Rattle.fts_disk.specs.Disk.{DiskState, IsTold}
use Rattle.fts_journal.specs.Format.{block, front, size_bytes, used_by, IsBody, Stands}
use Rattle.fts_journal.specs.Loading.{IsCut, IsCutOff, IsNotJournal, size_at}
use Rattle.fts_tables.specs.Counts.{Rose}
use Rattle.fts_tables.specs.declared.limits.TheConstants.{JOURNAL_END}
use Rattle.fts_tail.specs.declared.fault.TailFault.{TailFault}
use Rattle.fts_tail.specs.declared.fault.TailFault.TheVariants.{DiskFailed, NotJournal, Cut, Changed, Memory}

-- what contracts see of a tail: the offset of the gate behind what was passed, the body that a look found behind it, or none, and the disk
pub record TailData (D : Type 0) : Type 0 where
  pub used : ℕ
  pub next : Option (List ℕ)
  pub disk : D

-- These bodies were passed: they fill what stands before the gate, and over a disk that tells its contents they are what stands there.
pub record HasPassed (disk : DiskState) (used : ℕ) (bodies : List (List ℕ)) : Type 0 where
  pub end : used ≡ used_by bodies
  pub each : All IsBody bodies
  pub fits : used < JOURNAL_END
  pub begins : IsTold disk → take used disk.seen ≡ front bodies

-- a body that was found behind the gate at an offset: over a disk that tells its contents it stands there, behind an open gate and its length
pub record IsNext (disk : DiskState) (used : ℕ) (body : List ℕ) : Type 0 where
  pub is : IsBody body
  pub room : used + 5 + length body < JOURNAL_END
  pub stands : IsTold disk → take (5 + length body) (drop used disk.seen) ≡ block body

-- the same where there is one
abbrev pub IsNextIn : DiskState → ℕ → Option (List ℕ) → Type 0
IsNextIn disk used None = Unit {0}
IsNextIn disk used (Some body) = IsNext disk used body

-- the offset of the gate behind that body
abbrev pub used_behind : ℕ → Option (List ℕ) → ℕ
used_behind used None = used
used_behind used (Some body) = used + 5 + length body

-- the bodies with that one behind them
abbrev pub bodies_with : List (List ℕ) → Option (List ℕ) → List (List ℕ)
bodies_with bodies None = bodies
bodies_with bodies (Some body) = bodies ++ body ∷ []

-- the body of a block that was read
abbrev pub next_in : Bool → List ℕ → Option (List ℕ)
next_in ready bytes = if ready then Some (drop 5 bytes) else None

-- these bytes are those that stand before the gate at an offset
abbrev pub StandsBefore : List ℕ → ℕ → List ℕ → Type 0
StandsBefore content used last = last ≡ take (length last) (drop (used - length last) content)

-- what a tail's fields keep
pub record IsTail (disk : DiskState) (used known : ℕ) (last bytes : List ℕ) (ready : Bool) : Type 0 where
  pub passed : (bodies : List (List ℕ)) × HasPassed disk used bodies
  pub behind : length last ≤ used
  pub some : IsTold disk → 9 ≤ length disk.seen
  pub there : IsTold disk → known ≤ length disk.seen
  pub before : IsTold disk → StandsBefore disk.seen used last
  pub long : ready ≡ true → 6 ≤ length bytes
  pub stands : ready ≡ true → IsTold disk → bytes ≡ take (length bytes) (drop used disk.seen)
  pub next : IsNextIn disk used (next_in ready bytes)

-- what stands at the gate is open
abbrev pub IsOpened : List ℕ → Type 0
IsOpened rest = rest ≡ 1 ∷ drop 1 rest

-- behind an open gate stands a whole body of this size
pub record IsSized (used size : ℕ) (tail : List ℕ) : Type 0 where
  pub size_is : size ≡ size_at tail
  pub bytes : size_bytes size ≡ take 4 tail
  pub whole : 4 + size ≤ length tail

-- why what stands at the gate was not read; over a disk that tells its contents what was passed still stands
abbrev pub GateCause : {D : Type 0} → (D → DiskState) → (D → ℕ) → D → D → ℕ → TailFault → Type 0
GateCause state faults old new used DiskFailed = Rose (faults old) (faults new)
GateCause state faults old new used NotJournal = ⊥
GateCause state faults old new used (Cut offset) = (offset ≡ used) × (IsTold (state old) → IsCutOff used (drop used (state old).seen))
GateCause state faults old new used Changed = IsTold (state old) → ⊥
GateCause state faults old new used Memory = Unit {0}

-- why a look isn't done
abbrev pub LookCause : {D : Type 0} → (D → DiskState) → (D → ℕ) → D → D → ℕ → TailFault → Type 0
LookCause state faults old new used DiskFailed = Rose (faults old) (faults new)
LookCause state faults old new used NotJournal = ⊥
LookCause state faults old new used (Cut offset) = (offset ≡ used) × (IsTold (state old) → IsCut (state old).seen used)
LookCause state faults old new used Changed = IsTold (state old) → ⊥
LookCause state faults old new used Memory = Unit {0}

-- why a tail wasn't begun
abbrev pub BeginCause : {D : Type 0} → (D → DiskState) → (D → ℕ) → D → D → TailFault → Type 0
BeginCause state faults old new DiskFailed = Rose (faults old) (faults new)
BeginCause state faults old new NotJournal = IsTold (state old) → IsNotJournal (state old).seen
BeginCause state faults old new (Cut offset) = ⊥
BeginCause state faults old new Changed = ⊥
BeginCause state faults old new Memory = Unit {0}

-- a look found a body, or none: then over a disk that tells its contents the bytes stand for the bodies that were passed
abbrev pub EndsThere : DiskState → ℕ → Option (List ℕ) → Type 0
EndsThere disk used None = (bodies : List (List ℕ)) → HasPassed disk used bodies → IsTold disk → Stands disk.seen bodies
EndsThere disk used (Some body) = Unit {0}
