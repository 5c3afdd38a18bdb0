-- The lists that a monitor may be of go on by the entry that was done, or by nothing.
use Rattle.std.proofs.Common.{◌<◌, refl, subst}
use Rattle.fts_tables.specs.declared.limits.TheConstants.{JOURNAL_END}
use Rattle.fts_watch.specs.Monitor.{MonitorData, GoesOn}
use Rattle.fts_watch.proofs.Folds.{few_entries, looked_on, took_on, monitor_still, view_of}
use Rattle.fts_watch.proofs.monitor.Monitor.step.Goals as goal

pub returns-in_err-look-clause-goes_on : goal.returns-in_err-look-clause-goes_on
returns-in_err-look-clause-goes_on g c =
    subst (λ (old : MonitorData g.row.D.Denot). GoesOn g.D.Disk.state old (view_of c.self.inside.desk c.self.inside.chronicle.told c.look.new.self)) c.self.view_is
    (looked_on g.D.Disk.state c.self.inside.desk c.self.inside.desk c.self.inside.chronicle.told c.self.inside.chronicle.told c.self.inside.tail
    c.look.new.self refl refl refl c.look.ensures.passed)

pub returns-then-not-branch-clause-goes_on : goal.returns-then-not-branch-clause-goes_on
returns-then-not-branch-clause-goes_on g c =
    subst (λ (old : MonitorData g.row.D.Denot). GoesOn g.D.Disk.state old (view_of c.self.inside.desk c.self.inside.chronicle.told c.look.new.self)) c.self.view_is
    (looked_on g.D.Disk.state c.self.inside.desk c.self.inside.desk c.self.inside.chronicle.told c.self.inside.chronicle.told c.self.inside.tail
    c.look.new.self refl refl refl c.look.ensures.passed)

pub take_entry-requires-clause-few : goal.take_entry-requires-clause-few
take_entry-requires-clause-few g c = (few_entries g.D.Disk.state (view_of c.self.inside.desk c.self.inside.chronicle.told c.self.inside.tail) c.self.invariant).0

pub returns-in_err-take_entry-clause-goes_on : goal.returns-in_err-take_entry-clause-goes_on
returns-in_err-take_entry-clause-goes_on g c =
    subst (λ (old : MonitorData g.row.D.Denot). GoesOn g.D.Disk.state old (view_of c.take_entry.new.desk c.take_entry.new.chronicle.told c.look.new.self)) c.self.view_is
    (looked_on g.D.Disk.state c.self.inside.desk c.take_entry.new.desk c.self.inside.chronicle.told c.take_entry.new.chronicle.told c.self.inside.tail
    c.look.new.self c.in_err-take_entry.ensures.kept c.in_err-take_entry.ensures.counted c.in_err-take_entry.ensures.untold c.look.ensures.passed)

pub invariant_of-self-2 : goal.invariant_of-self-2
invariant_of-self-2 g c =
    monitor_still g.D.Disk.state (view_of c.self.inside.desk c.self.inside.chronicle.told c.self.inside.tail) (view_of c.take_entry.new.desk c.take_entry.new.chronicle.told c.pass.new.self) c.self.invariant
    (took_on g.D.Disk.state c.self.inside.desk c.take_entry.new.desk c.self.inside.chronicle.told c.take_entry.new.chronicle.told c.self.inside.tail
    c.look.new.self c.pass.new.self c.body.result.now c.look.ensures.passed c.body.ensures.body c.in_ok-take_entry.ensures.takes
    c.in_ok-take_entry.ensures.commands c.in_ok-take_entry.ensures.told c.chronicles_grow_by_entries.ensures.grow c.pass.ensures.passed)

pub returns-clause-goes_on : goal.returns-clause-goes_on
returns-clause-goes_on g c =
    subst (λ (old : MonitorData g.row.D.Denot). GoesOn g.D.Disk.state old (view_of c.take_entry.new.desk c.take_entry.new.chronicle.told c.pass.new.self)) c.self.view_is
    (took_on g.D.Disk.state c.self.inside.desk c.take_entry.new.desk c.self.inside.chronicle.told c.take_entry.new.chronicle.told c.self.inside.tail
    c.look.new.self c.pass.new.self c.body.result.now c.look.ensures.passed c.body.ensures.body c.in_ok-take_entry.ensures.takes
    c.in_ok-take_entry.ensures.commands c.in_ok-take_entry.ensures.told c.chronicles_grow_by_entries.ensures.grow c.pass.ensures.passed)

pub returns-in_err-look-clause-low : goal.returns-in_err-look-clause-low
returns-in_err-look-clause-low g c = subst (λ (old : MonitorData g.row.D.Denot). old.used < JOURNAL_END) c.self.view_is c.self.invariant.1.passed.fits

pub returns-then-not-branch-clause-low : goal.returns-then-not-branch-clause-low
returns-then-not-branch-clause-low g c = subst (λ (old : MonitorData g.row.D.Denot). old.used < JOURNAL_END) c.self.view_is c.self.invariant.1.passed.fits

pub returns-in_err-take_entry-clause-low : goal.returns-in_err-take_entry-clause-low
returns-in_err-take_entry-clause-low g c = subst (λ (old : MonitorData g.row.D.Denot). old.used < JOURNAL_END) c.self.view_is c.self.invariant.1.passed.fits

pub returns-clause-low : goal.returns-clause-low
returns-clause-low g c = subst (λ (old : MonitorData g.row.D.Denot). old.used < JOURNAL_END) c.self.view_is c.self.invariant.1.passed.fits
