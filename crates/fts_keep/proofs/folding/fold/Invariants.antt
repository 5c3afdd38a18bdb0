use Rattle.std.proofs.Common.{◌≡◌}
use Rattle.fts_keep.specs.Folding.{LeavesJournal, HasFolded}
use Rattle.fts_keep.proofs.folding.fold.Given as goal

abbrev pub invariant-loop-n : goal.invariant-loop-n
invariant-loop-n g l = record {
  leaves : LeavesJournal g.D.Disk.state g.D.Disk.faults l.fn.journal l.journal;
  folded : HasFolded g.D.Disk.state l.fn.journal l.desk.tables l.list.entries l.gate l.n;
  commands : l.desk.commands ≡ l.n;
}
