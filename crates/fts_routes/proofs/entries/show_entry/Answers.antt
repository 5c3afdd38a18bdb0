-- What was read stands there, and is shown; or the disk failed.
use Rattle.std.proofs.Common.{◌∙◌, Some, sym, ap, subst, arith}
use Rattle.fts_keep.specs.Looking.{EntryFault}
use Rattle.fts_routes.proofs.ReadEntries.{looked_at, looked_in_vain}
use Rattle.fts_routes.proofs.entries.show_entry.Goals as goal

pub returns-in-Ok-clause-looks : goal.returns-in-Ok-clause-looks
returns-in-Ok-clause-looks g c = looked_at g.D.Disk.state g.D.Disk.faults c.args.keep.now c.entry_bytes.new.self c.in-Ok.ensures.looks c.requires.kept
    c.args.number c.deref.result.now (omega (arith, c.requires.there, c.requires.counted)) (λ told. c.in-Ok.ensures.given told ∙ ap Some (sym c.deref.ensures.value))
    c.args.count c.requires.counted
    c.entry_reply.result c.or_no_memory.result c.entry_reply.ensures c.or_no_memory.ensures.ok c.or_no_memory.ensures.err

pub returns-in-Err-DiskFailed-clause-looks : goal.returns-in-Err-DiskFailed-clause-looks
returns-in-Err-DiskFailed-clause-looks g c = looked_in_vain g.D.Disk.state g.D.Disk.faults c.args.keep.now c.entry_bytes.new.self
    c.in-Err-DiskFailed.ensures.looks c.requires.kept c.args.number (omega (arith, c.requires.there, c.requires.counted))
    (subst (EntryFault (g.D.Disk.faults c.args.keep.now.disk) (g.D.Disk.faults c.entry_bytes.new.self.disk)) c.in-Err-DiskFailed.field-0-is c.in-Err-DiskFailed.ensures.cause)
    c.disk_failed.result c.or_no_memory-in-Err-DiskFailed.result c.disk_failed.ensures c.or_no_memory-in-Err-DiskFailed.ensures.ok
    c.or_no_memory-in-Err-DiskFailed.ensures.err
