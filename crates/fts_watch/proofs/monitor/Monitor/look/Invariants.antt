use Rattle.std.proofs.Common.{◌-◌}
use Rattle.fts_tables.specs.declared.limits.TheConstants.{JOURNAL_END}
use Rattle.fts_watch.specs.Monitor.{GoesOn, OnlyLooks}
use Rattle.fts_watch.proofs.monitor.Monitor.look.Given as goal

abbrev pub invariant-bodies : goal.invariant-bodies
invariant-bodies g l = record {
  goes_on : GoesOn g.D.Disk.state l.fn.self l.self;
  looks : OnlyLooks g.D.Disk.state g.D.Disk.faults l.fn.self.disk l.self.disk;
}

abbrev pub decreases-bodies : goal.decreases-bodies
decreases-bodies g l = JOURNAL_END - l.self.used
