-- How `delete` ends by what stopped it, and the exit status of each end.
use Rattle.std.specs.Prelude.{ℕ, Bool, if◌then◌else◌}
use Rattle.fts_delete.specs.declared.fault.DeleteFault.{DeleteFault}
use Rattle.fts_delete.specs.declared.fault.DeleteFault.TheVariants as faults
use Rattle.fts_wire.specs.declared.whole_input.ReadAllFault.{ReadAllFault}
use Rattle.fts_wire.specs.declared.whole_input.ReadAllFault.TheVariants as reading
use Rattle.fts_deleting.specs.declared.ends.DeleteEnd.{DeleteEnd}
use Rattle.fts_deleting.specs.declared.ends.DeleteEnd.TheVariants.{Told, NoMemory, DiskFailed, InputFailed, OutputFailed, Damaged, JournalFull, DocumentRule, RowsFull}

-- the exit status
abbrev pub delete_status : DeleteEnd → ℕ
delete_status Told = 0
delete_status NoMemory = 1
delete_status DiskFailed = 4
delete_status InputFailed = 5
delete_status OutputFailed = 6
delete_status (Damaged offset) = 7
delete_status (JournalFull used) = 11
delete_status (DocumentRule rule) = 20
delete_status RowsFull = 21

-- the end of a run that its journal stopped
abbrev pub end_of : DeleteFault → DeleteEnd
end_of (faults.Damaged offset) = Damaged offset
end_of faults.DiskFailed = DiskFailed
end_of (faults.JournalFull used) = JournalFull used
end_of (faults.RowsFull rows) = RowsFull
end_of faults.Memory = NoMemory

-- the end of a run whose input isn't given; one that is too long breaks rule 8
abbrev pub unread_end : ReadAllFault → DeleteEnd
unread_end reading.TooLong = DocumentRule 8
unread_end reading.SourceFailed = InputFailed
unread_end reading.Memory = NoMemory

-- the end of a run that had its rows to write: they are written whole, or a write failed
abbrev pub told : Bool → DeleteEnd
told whole = if whole then Told else OutputFailed
