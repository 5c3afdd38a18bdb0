-- Files claimed one behind the other.
use Rattle.std.proofs.Common.{refl, sym, ◌∙◌, subst, ◌++◌, ◌≤◌, length, true, false, Ok, Err}
use Rattle.fts_workers.specs.Steps.{Fills, FillsOn, MakesNoCopy, stand}
use Rattle.fts_workers.proofs.Accepted.{keeps_more}
use Rattle.fts_workers.proofs.Looping.{filled_full, filled_idle, filled_more, filled_none, filled_stops}
use Rattle.fts_workers.proofs.rounds.fill_up.Goals as goal

pub loop-keep-init : goal.loop-keep-init
loop-keep-init g c = record {
  order = c.requires.order;
  none = c.requires.none;
  places = refl;
  few = c.requires.few;
  part = filled_none g.D.Disk.state g.D.Disk.faults c.args.bench.now.places
      (stand c.args.keep.now c.args.bench.now (g.C.Clock.moments c.args.clock.now) (g.W.Words.words c.args.words.now));
  keeps = c.stays.ensures;
}

pub loop-keep-preserved : goal.loop-keep-preserved
loop-keep-preserved g c =
    let so_far = c.loop-keep.invariant in
    let before = (stand c.args.keep.now c.args.bench.now (g.C.Clock.moments c.args.clock.now) (g.W.Words.words c.args.words.now)) in
    let mid = (stand c.loop-keep.keep c.loop-keep.bench (g.C.Clock.moments c.loop-keep.clock) (g.W.Words.words c.loop-keep.words)) in
    let after = (stand c.claim_next.new.keep c.claim_next.new.bench (g.C.Clock.moments c.claim_next.new.clock) (g.W.Words.words c.claim_next.new.words)) in
    let step = c.in-Ok-true.ensures in
    record {
      order = (so_far.order.0 ++ step.part.walks.added, step.part.walks.over so_far.order.0 so_far.order.1);
      none = step.none;
      places = step.places ∙ so_far.places;
      few = step.few;
      part = filled_more g.D.Disk.state g.D.Disk.faults c.args.bench.now.places before mid after so_far.part
          (subst (λ n. MakesNoCopy g.D.Disk.state g.D.Disk.faults (FillsOn n (Ok true)) mid after) so_far.places
          (subst (λ more. MakesNoCopy g.D.Disk.state g.D.Disk.faults (FillsOn c.loop-keep.bench.places
          (Ok more)) mid after) c.in-Ok-true.field-0-test step.part));
      keeps = keeps_more g.D.Disk.state g.D.Disk.faults c.args.keep.now c.loop-keep.keep c.claim_next.new.keep c.loop-keep.invariant.keeps
          c.claim_next.ensures.keeps;
    }

pub returns-in-Ok-false-clause-part : goal.returns-in-Ok-false-clause-part
returns-in-Ok-false-clause-part g c =
    let so_far = c.loop-keep.invariant in
    let before = (stand c.args.keep.now c.args.bench.now (g.C.Clock.moments c.args.clock.now) (g.W.Words.words c.args.words.now)) in
    let mid = (stand c.loop-keep.keep c.loop-keep.bench (g.C.Clock.moments c.loop-keep.clock) (g.W.Words.words c.loop-keep.words)) in
    let after = (stand c.claim_next.new.keep c.claim_next.new.bench (g.C.Clock.moments c.claim_next.new.clock) (g.W.Words.words c.claim_next.new.words)) in
    let step = c.in-Ok-false.ensures in
    subst (λ end. MakesNoCopy g.D.Disk.state g.D.Disk.faults (Fills c.args.bench.now.places end) before after) (sym c.calm_end.ensures)
    (filled_idle g.D.Disk.state g.D.Disk.faults c.args.bench.now.places before mid after so_far.part
    (subst (λ n. MakesNoCopy g.D.Disk.state g.D.Disk.faults (FillsOn n (Ok false)) mid after) so_far.places
    (subst (λ more. MakesNoCopy g.D.Disk.state g.D.Disk.faults (FillsOn c.loop-keep.bench.places (Ok more)) mid after) c.in-Ok-false.field-0-test step.part)))

pub returns-in-Ok-false-clause-keeps : goal.returns-in-Ok-false-clause-keeps
returns-in-Ok-false-clause-keeps g c =
    keeps_more g.D.Disk.state g.D.Disk.faults c.args.keep.now c.loop-keep.keep c.claim_next.new.keep
    c.loop-keep.invariant.keeps c.claim_next.ensures.keeps

pub returns-in-Err-clause-part : goal.returns-in-Err-clause-part
returns-in-Err-clause-part g c =
    let so_far = c.loop-keep.invariant in
    let before = (stand c.args.keep.now c.args.bench.now (g.C.Clock.moments c.args.clock.now) (g.W.Words.words c.args.words.now)) in
    let mid = (stand c.loop-keep.keep c.loop-keep.bench (g.C.Clock.moments c.loop-keep.clock) (g.W.Words.words c.loop-keep.words)) in
    let after = (stand c.claim_next.new.keep c.claim_next.new.bench (g.C.Clock.moments c.claim_next.new.clock) (g.W.Words.words c.claim_next.new.words)) in
    filled_stops g.D.Disk.state g.D.Disk.faults c.args.bench.now.places c.in-Err.end before mid after so_far.part
    (subst (λ n. MakesNoCopy g.D.Disk.state g.D.Disk.faults (FillsOn n (Err c.in-Err.end)) mid after) so_far.places c.in-Err.ensures.part)

pub returns-in-Err-clause-keeps : goal.returns-in-Err-clause-keeps
returns-in-Err-clause-keeps g c =
    keeps_more g.D.Disk.state g.D.Disk.faults c.args.keep.now c.loop-keep.keep c.claim_next.new.keep
    c.loop-keep.invariant.keeps c.claim_next.ensures.keeps

pub returns-clause-part : goal.returns-clause-part
returns-clause-part g c =
    let so_far = c.loop-keep.invariant in
    let before = stand c.args.keep.now c.args.bench.now (g.C.Clock.moments c.args.clock.now) (g.W.Words.words c.args.words.now) in
    let mid = stand c.loop-keep.keep c.loop-keep.bench (g.C.Clock.moments c.loop-keep.clock) (g.W.Words.words c.loop-keep.words) in
    subst (λ end. MakesNoCopy g.D.Disk.state g.D.Disk.faults (Fills c.args.bench.now.places end) before mid) (sym c.calm_end-2.ensures)
    (filled_full g.D.Disk.state g.D.Disk.faults c.args.bench.now.places before mid
    (subst (λ n. n ≤ length c.loop-keep.bench.held) so_far.places (c.is_full.ensures.full.0 c.loop-keep-test.false)) so_far.part)
