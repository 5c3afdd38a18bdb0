-- The loop over the bodies: the journal is left as it was, and the rows are those of the bodies so far.
use Rattle.fts_delete.specs.Folding.{LeavesJournal, HasFolded}
use Rattle.fts_delete.proofs.folding.fold.Given as goal

abbrev pub invariant-loop-n : goal.invariant-loop-n
invariant-loop-n g l = record {
  leaves : LeavesJournal g.D.Disk.state g.D.Disk.faults l.fn.journal l.journal;
  folded : HasFolded g.D.Disk.state l.fn.journal l.rows.items l.gate l.n;
}
