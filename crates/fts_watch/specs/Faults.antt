-- What a fault of the tail is to a monitor.
use Rattle.fts_tail.specs.declared.fault.TailFault.{TailFault}
use Rattle.fts_tail.specs.declared.fault.TailFault.TheVariants.{DiskFailed, NotJournal, Cut, Changed, Memory}
use Rattle.fts_watch.specs.declared.fault.MonitorFault.{MonitorFault}
use Rattle.fts_watch.specs.declared.fault.MonitorFault.TheVariants.{DiskFailed as MonitorDiskFailed, Damaged, Changed as MonitorChanged, Memory as MonitorMemory}

-- bytes that are no journal are damaged from their start on
abbrev pub fault_of : TailFault → MonitorFault
fault_of DiskFailed = MonitorDiskFailed
fault_of NotJournal = Damaged 0
fault_of (Cut offset) = Damaged offset
fault_of Changed = MonitorChanged
fault_of Memory = MonitorMemory
