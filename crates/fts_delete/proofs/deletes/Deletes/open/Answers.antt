-- The exits of opening: no journal, bodies that weren't folded, and the rows of those that were.
use Rattle.std.proofs.Common.{sym, subst, Err}
use Rattle.fts_delete.specs.Opened.{Opened}
use Rattle.fts_delete.proofs.Starting.{unopened, unfolded, opened}
use Rattle.fts_delete.proofs.deletes.Deletes.open.Goals as goal

pub returns-in-Err-clause-err : goal.returns-in-Err-clause-err
returns-in-Err-clause-err g c = unopened g.D.Disk.state g.D.Disk.faults g.met.D.Disk.lawful c.args.disk
    c.in-Err.stopped.1 c.in-Err.stopped.0 c.in-Err.ensures.made c.in-Err.ensures.err

pub returns-in-Err-fold-clause-err : goal.returns-in-Err-fold-clause-err
returns-in-Err-fold-clause-err g c = subst
    (λ d. Opened g.D.Disk.state g.D.Disk.faults c.args.disk (Err (c.in-Err-fold.fault, d))) (sym c.close.ensures)
    (unfolded g.D.Disk.state g.D.Disk.faults g.met.D.Disk.lawful c.args.disk
    c.in-Ok.journal c.fold.new.journal c.in-Ok.ensures.made c.in-Ok.ensures.ok c.fold.ensures.leaves c.in-Err-fold.fault c.in-Err-fold.ensures.fault)

pub returns-in-Ok-fold-clause-ok : goal.returns-in-Ok-fold-clause-ok
returns-in-Ok-fold-clause-ok g c = opened g.D.Disk.state g.D.Disk.faults g.met.D.Disk.lawful c.args.disk
    c.in-Ok.journal c.fold.new.journal c.in-Ok.ensures.made c.in-Ok.ensures.ok c.fold.ensures.leaves c.in-Ok-fold.rows.items c.in-Ok-fold.ensures.folded
