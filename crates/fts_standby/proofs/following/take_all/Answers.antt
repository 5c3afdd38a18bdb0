-- No entry yet; following ended; and one entry more.
use Rattle.fts_standby.proofs.TakenEntries.{none_taken, take_last, take_more}
use Rattle.fts_standby.proofs.following.take_all.Goals as goal

pub taking-init : goal.taking-init
taking-init g c = none_taken g.D.Disk.state g.D.Disk.faults _ _ c.args.port c.args.tries g.met.D.Disk.lawful c.args.journal.now _ _ c.requires.ready

pub returns-in-Err-clause-takes : goal.returns-in-Err-clause-takes
returns-in-Err-clause-takes g c =
    take_last g.D.Disk.state g.D.Disk.faults _ _ c.args.port c.args.tries c.args.journal.now c.taking.journal c.take_next.new.journal _ _ _ _ _ _ c.taking.invariant
    c.in-Err.ensures.takes.tries c.in-Err.ensures.takes.tried c.in-Err.end c.in-Err.ensures.takes.answer

pub taking-preserved : goal.taking-preserved
taking-preserved g c =
    take_more g.D.Disk.state g.D.Disk.faults _ _ c.args.port c.args.tries c.args.journal.now c.taking.journal c.take_next.new.journal _ _ _ _ _ _ c.taking.invariant
    c.in_default.ensures.takes.tries c.in_default.ensures.takes.tried c.in_default.ensures.takes.answer
