-- What the answers of a keep are to a round: the faults that end it, and how, and the file that a claim names.
use Rattle.std.specs.Prelude.{◌≡◌, None}
use Rattle.fts_tables.specs.declared.commands.Answer.{Answer}
use Rattle.fts_tables.specs.declared.commands.Answer.TheVariants.{Restarted, Submitted, Cancelled, PrioritySet, Claimed, Reported, Banned, Unbanned, Expired}
use Rattle.fts_keep.specs.declared.fault.KeepFault.{KeepFault}
use Rattle.fts_keep.specs.declared.fault.KeepFault.TheVariants.{Rule, DiskFailed, JournalFull, Damaged, Memory}
use Rattle.fts_workers.specs.declared.held.Held.{Held}
use Rattle.fts_workers.specs.declared.ends.RoundEnd.{RoundEnd}
use Rattle.fts_workers.specs.declared.ends.RoundEnd.TheVariants.{DiskFailed as EndsByDisk, JournalFull as EndsByLimit, Memory as EndsByMemory}

-- a fault that is no refusal, and no damage, which only opening finds
abbrev pub IsStop : KeepFault → Type 0
IsStop (Rule refusal) = ⊥
IsStop DiskFailed = Unit {0}
IsStop (JournalFull used) = Unit {0}
IsStop (Damaged offset) = ⊥
IsStop Memory = Unit {0}

-- the end of a round that it makes
abbrev pub EndsBy : KeepFault → RoundEnd → Type 0
EndsBy (Rule refusal) end = ⊥
EndsBy DiskFailed end = end ≡ EndsByDisk
EndsBy (JournalFull used) end = end ≡ EndsByLimit used
EndsBy (Damaged offset) end = ⊥
EndsBy Memory end = end ≡ EndsByMemory

-- the file that an answer to a claim names is held, and isn't copied yet
abbrev pub NamesHeld : Answer → Held → Type 0
NamesHeld (Restarted released) held = ⊥
NamesHeld (Submitted job id) held = ⊥
NamesHeld (Cancelled job) held = ⊥
NamesHeld (PrioritySet job) held = ⊥
NamesHeld (Claimed file attempt) held = held ≡ record { file = file; attempt = attempt; outcome = None }
NamesHeld (Reported file state) held = ⊥
NamesHeld (Banned cancelled) held = ⊥
NamesHeld Unbanned held = ⊥
NamesHeld (Expired cancelled) held = ⊥
