-- How following ends by a fault of its journal.
use Rattle.fts_journal.specs.declared.fault.JournalFault.{JournalFault}
use Rattle.fts_journal.specs.declared.fault.JournalFault.TheVariants as faults
use Rattle.fts_standby.specs.declared.ends.FollowEnd.{FollowEnd}
use Rattle.fts_standby.specs.declared.ends.FollowEnd.TheVariants.{DiskFailed, JournalFull, Memory}

-- an open journal answers by three faults; the two of a load stand with the disk's
abbrev pub end_by : JournalFault → FollowEnd
end_by faults.DiskFailed = DiskFailed
end_by (faults.Full used) = JournalFull used
end_by faults.NotJournal = DiskFailed
end_by (faults.Cut offset) = DiskFailed
end_by faults.Memory = Memory
