-- Step after step, and the journal's end ends them.
use Rattle.std.proofs.Common.{arith}
use Rattle.fts_watch.proofs.Folds.{goes_further, looks_further}
use Rattle.fts_watch.proofs.monitor.Monitor.look.Goals as goal

pub returns-in_err-step-clause-goes_on : goal.returns-in_err-step-clause-goes_on
returns-in_err-step-clause-goes_on g c = goes_further g.D.Disk.state c.args.self.now c.bodies.self c.step.new.self c.bodies.invariant.goes_on c.step.ensures.goes_on

pub returns-then-not-branch-clause-goes_on : goal.returns-then-not-branch-clause-goes_on
returns-then-not-branch-clause-goes_on g c =
    goes_further g.D.Disk.state c.args.self.now c.bodies.self c.step.new.self c.bodies.invariant.goes_on c.step.ensures.goes_on

pub bodies-smaller : goal.bodies-smaller
bodies-smaller g c = omega (arith, c.step.ensures.low, c.in_ok-step.ensures.further c.if-not-branch.false)

pub bodies-preserved : goal.bodies-preserved
bodies-preserved g c = record {
  goes_on = goes_further g.D.Disk.state c.args.self.now c.bodies.self c.step.new.self c.bodies.invariant.goes_on c.step.ensures.goes_on;
  looks = looks_further g.D.Disk.state g.D.Disk.faults c.args.self.now.disk c.bodies.self.disk c.step.new.self.disk c.bodies.invariant.looks c.step.ensures.looks;
}
