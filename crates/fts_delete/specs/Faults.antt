-- What a fault of the journal is to deletions.
use Rattle.fts_journal.specs.declared.fault.JournalFault.{JournalFault}
use Rattle.fts_journal.specs.declared.fault.JournalFault.TheVariants.{DiskFailed, Full, NotJournal, Cut, Memory}
use Rattle.fts_delete.specs.declared.fault.DeleteFault.{DeleteFault}
use Rattle.fts_delete.specs.declared.fault.DeleteFault.TheVariants.{DiskFailed as DeleteDiskFailed, JournalFull, Damaged, Memory as DeleteMemory}

-- bytes that are no journal are damaged from their start on
abbrev pub fault_of : JournalFault → DeleteFault
fault_of DiskFailed = DeleteDiskFailed
fault_of (Full used) = JournalFull used
fault_of NotJournal = Damaged 0
fault_of (Cut offset) = Damaged offset
fault_of Memory = DeleteMemory
