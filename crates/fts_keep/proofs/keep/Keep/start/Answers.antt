-- The exits of a start: no journal, bodies that weren't folded, the desk of the fold handed on, a Restart that was accepted, and one that was not.
use Rattle.std.proofs.Common.{sym, subst, Err}
use Rattle.fts_keep.specs.Started.{Started}
use Rattle.fts_keep.proofs.Starting.{unopened, unfolded, folded_tied, started, unstarted}
use Rattle.fts_keep.proofs.keep.Keep.start.Goals as goal

pub returns-in-Err-clause-err : goal.returns-in-Err-clause-err
returns-in-Err-clause-err g c = unopened g.D.Disk.state g.D.Disk.faults c.what_is_spelled_is_read.ensures.read g.met.D.Disk.lawful c.damage_is_one.ensures
    c.args.disk c.args.settings c.args.now
    c.in-Err.stopped.1 c.in-Err.stopped.0 c.in-Err.ensures.made c.in-Err.ensures.err

pub returns-in-Err-fold-clause-err : goal.returns-in-Err-fold-clause-err
returns-in-Err-fold-clause-err g c = subst
    (λ d. Started g.D.Disk.state g.D.Disk.faults c.args.disk c.args.settings c.args.now (Err (c.in-Err-fold.fault, d))) (sym c.close.ensures)
    (unfolded g.D.Disk.state g.D.Disk.faults c.what_is_spelled_is_read.ensures.read g.met.D.Disk.lawful c.damage_is_one.ensures
    c.args.disk c.args.settings c.args.now
    c.in-Ok.journal c.fold.new.journal c.in-Ok.ensures.made c.in-Ok.ensures.ok c.fold.ensures.leaves c.in-Err-fold.fault c.in-Err-fold.ensures.fault)

pub accept-requires-clause-tied : goal.accept-requires-clause-tied
accept-requires-clause-tied g c = folded_tied g.D.Disk.state g.D.Disk.faults c.what_is_spelled_is_read.ensures.read g.met.D.Disk.lawful c.damage_is_one.ensures
    c.args.disk c.args.settings c.args.now
    c.in-Ok.journal c.fold.new.journal c.in-Ok.ensures.made c.in-Ok.ensures.ok c.fold.ensures.leaves c.in-Ok-fold.made.0 c.in-Ok-fold.made.1.entries c.in-Ok-fold.ensures.folded

pub returns-in-Ok-accept-clause-ok : goal.returns-in-Ok-accept-clause-ok
returns-in-Ok-accept-clause-ok g c = started g.D.Disk.state g.D.Disk.faults c.what_is_spelled_is_read.ensures.read g.met.D.Disk.lawful c.damage_is_one.ensures
    c.args.disk c.args.settings c.args.now
    c.in-Ok.journal c.fold.new.journal c.in-Ok.ensures.made c.in-Ok.ensures.ok c.fold.ensures.leaves c.in-Ok-fold.made.0 c.in-Ok-fold.made.1.entries c.in-Ok-fold.ensures.folded
    c.accept.new.desk c.accept.new.journal c.accept.new.list.entries c.accept.ensures.safe c.accept.ensures.counts
    c.in-Ok-accept.field-0 c.in-Ok-accept.ensures.applied c.in-Ok-accept.ensures.shows c.accept.ensures.tied

pub returns-in-Err-accept-clause-err : goal.returns-in-Err-accept-clause-err
returns-in-Err-accept-clause-err g c = subst
    (λ d. Started g.D.Disk.state g.D.Disk.faults c.args.disk c.args.settings c.args.now (Err (c.in-Err-accept.fault, d))) (sym c.close-in-Err-accept.ensures)
    (unstarted g.D.Disk.state g.D.Disk.faults c.what_is_spelled_is_read.ensures.read g.met.D.Disk.lawful c.damage_is_one.ensures
    c.args.disk c.args.settings c.args.now
    c.in-Ok.journal c.fold.new.journal c.in-Ok.ensures.made c.in-Ok.ensures.ok c.fold.ensures.leaves c.in-Ok-fold.made.0 c.in-Ok-fold.made.1.entries c.in-Ok-fold.ensures.folded
    c.accept.new.desk c.accept.new.journal c.accept.new.list.entries c.accept.ensures.safe c.accept.ensures.counts
    c.in-Err-accept.fault c.in-Err-accept.ensures.applied)
