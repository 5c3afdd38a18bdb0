use Rattle.std.proofs.Common.{◌≡◌, get_or, sym, ◌∙◌, ap, arith, cond}
use Rattle.std.proofs.lemmas.List.{take_all}
use Rattle.fts_choice.proofs.Drawing.{more_taking, more_idle, length-shares, get_or-shares, at_above, none_above}
use Rattle.fts_tables.specs.Choice.{shares}
use Rattle.std.specs.Prelude.{sum}
use Rattle.fts_choice.proofs.weights.place_above.Goals as goal
use Rattle.fts_choice.proofs.weights.place_above.Goals.{then-waiting-place+else-number-running, else-waiting-place}

pub loop-place-preserved : goal.loop-place-preserved
loop-place-preserved c =
    let weights = c.args.weights.now in
    let waiting = c.args.waiting.now in
    let place = c.loop-place.place in
    let inv = c.loop-place.invariant in
    elim c.if-waiting-place.branch [
      | then-waiting-place+else-number-running w ↦ record {
        running = omega (
          arith,
          w.running-is,
          inv.running,
          w.from-running.ensures,
          more_taking weights waiting place c.requires.alike (omega arith) w.if-waiting-place.true,
        );
        below = omega (arith, w.running-is, w.if-number-running.false);
        small = omega (arith, w.running-is, inv.small, w.from-running.ensures, c.type_inv.weights place);
      }
      | else-waiting-place w ↦ record {
        running = omega (arith, w.running-is, inv.running, more_idle weights waiting place c.requires.alike (omega arith) w.if-waiting-place.false);
        below = omega (arith, w.running-is, inv.below);
        small = omega (arith, w.running-is, inv.small);
      }
    ]

pub returns-then-number-running : goal.returns-then-number-running
returns-then-number-running c =
    let weights = c.args.weights.now in
    let waiting = c.args.waiting.now in
    let place = c.loop-place.place in
    let inv = c.loop-place.invariant in
    let share : get_or (shares weights waiting) place 0 ≡ get_or weights place 0 = get_or-shares weights waiting place c.requires.alike (omega arith)
    ∙ ap (λ answer. cond answer (get_or weights place 0) 0) c.if-waiting-place.true in
    record {
      place = sym (at_above c.args.number 0 (shares weights waiting) place (omega (arith, length-shares weights waiting c.requires.alike))
          (omega (arith, inv.running, inv.below))
          (omega (arith, share, inv.running, c.from-running.ensures, c.if-number-running.true)));
      inside = omega arith;
    }

pub returns : goal.returns
returns c =
    let weights = c.args.weights.now in
    let waiting = c.args.waiting.now in
    let whole = ap sum (take_all c.loop-place.place (shares weights waiting) (omega (arith, length-shares weights waiting c.requires.alike))) in
    record {
      place = sym (none_above c.args.number 0 (shares weights waiting)
          (omega (arith, whole, c.loop-place.invariant.running, c.loop-place.invariant.below)));
      inside = tt;
    }
