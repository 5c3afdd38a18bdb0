-- Files worked off one behind the other.
use Rattle.std.proofs.Common.{◌≡◌, refl, sym, ◌∙◌, subst, ◌++◌, None, Ok, Err, rules}
use Rattle.fts_workers.specs.Steps.{MakesCopies, WorksOn, stand}
use Rattle.fts_workers.proofs.Accepted.{keeps_more}
use Rattle.fts_workers.proofs.Looping.{worked_more, worked_none}
use Rattle.fts_workers.proofs.rounds.work_off.Goals as goal

pub loop-keep-init : goal.loop-keep-init
loop-keep-init g c = record {
  order = c.requires.order;
  kept = c.requires.kept;
  places = refl;
  part = λ words workers. worked_none g.D.Disk.state g.D.Disk.faults g.E.Store.state g.E.Store.calls g.E.Store.faults
      c.args.keep.now c.args.bench.now c.args.store.now (g.C.Clock.moments c.args.clock.now) words workers;
  keeps = c.stays.ensures;
}

pub loop-keep-preserved : goal.loop-keep-preserved
loop-keep-preserved g c =
    let so_far = c.loop-keep.invariant in
    let step = c.in_ok-work_first.ensures in
    let walks = (step.part None 0).walks in
    record {
      order = (so_far.order.0 ++ walks.added, walks.over so_far.order.0 so_far.order.1);
      kept = step.kept;
      places = step.places ∙ so_far.places;
      part = λ words workers. worked_more g.D.Disk.state g.D.Disk.faults g.E.Store.state g.E.Store.calls g.E.Store.faults workers (Ok tt)
          (stand c.args.keep.now c.args.bench.now (g.C.Clock.moments c.args.clock.now) words)
          (stand c.loop-keep.keep c.loop-keep.bench (g.C.Clock.moments c.loop-keep.clock) words)
          (stand c.work_first.new.keep c.work_first.new.bench (g.C.Clock.moments c.work_first.new.clock) words)
          c.args.store.now c.loop-keep.store c.work_first.new.store (so_far.part words workers) (step.part words workers);
      keeps = keeps_more g.D.Disk.state g.D.Disk.faults c.args.keep.now c.loop-keep.keep c.work_first.new.keep so_far.keeps step.keeps;
    }

pub returns-in_err-work_first-clause-part : goal.returns-in_err-work_first-clause-part
returns-in_err-work_first-clause-part g c = λ words workers.
    let is : c.from_residual.result ≡ Err c.in_err-work_first.field-0.0 = search rules in
    let before = stand c.args.keep.now c.args.bench.now (g.C.Clock.moments c.args.clock.now) words in
    let after = stand c.work_first.new.keep c.work_first.new.bench (g.C.Clock.moments c.work_first.new.clock) words in
    subst (λ r. MakesCopies g.D.Disk.state g.D.Disk.faults g.E.Store.state g.E.Store.calls g.E.Store.faults (WorksOn workers r) before after
    c.args.store.now c.work_first.new.store) (sym is)
    (worked_more g.D.Disk.state g.D.Disk.faults g.E.Store.state g.E.Store.calls g.E.Store.faults workers (Err c.in_err-work_first.field-0.0)
    before (stand c.loop-keep.keep c.loop-keep.bench (g.C.Clock.moments c.loop-keep.clock) words) after
    c.args.store.now c.loop-keep.store c.work_first.new.store (c.loop-keep.invariant.part words workers) (c.in_err-work_first.ensures.part words workers))

pub returns-in_err-work_first-clause-keeps : goal.returns-in_err-work_first-clause-keeps
returns-in_err-work_first-clause-keeps g c =
    keeps_more g.D.Disk.state g.D.Disk.faults c.args.keep.now c.loop-keep.keep c.work_first.new.keep c.loop-keep.invariant.keeps c.work_first.ensures.keeps
