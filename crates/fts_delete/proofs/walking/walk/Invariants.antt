-- The rows before this one are passed.
use Rattle.fts_delete.specs.Views.{deletes_of, IsTied}
use Rattle.fts_delete.specs.Walking.{WalkedTo}
use Rattle.fts_delete.proofs.walking.walk.Given as goal

abbrev pub invariant-loop-at : goal.invariant-loop-at
invariant-loop-at g l = record {
  tied : IsTied g.D.Disk.state l.rows.items l.journal;
  walked : WalkedTo g.D.Disk.state g.D.Disk.faults g.E.Store.state g.E.Store.faults g.E.Store.calls
      (deletes_of g.D.Disk.state l.fn.rows.items l.fn.journal) (deletes_of g.D.Disk.state l.rows.items l.journal) l.fn.store l.store l.at;
}
