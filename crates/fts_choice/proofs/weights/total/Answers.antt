use Rattle.std.proofs.Common.{◌∙◌, ap, arith}
use Rattle.std.proofs.lemmas.List.{take_all}
use Rattle.fts_choice.proofs.Drawing.{more_taking, more_idle, length-shares}
use Rattle.fts_tables.specs.Choice.{shares}
use Rattle.std.specs.Prelude.{sum}
use Rattle.fts_choice.proofs.weights.total.Goals as goal
use Rattle.fts_choice.proofs.weights.total.Goals.{then-waiting-place, else-waiting-place}

pub loop-place-preserved : goal.loop-place-preserved
loop-place-preserved c =
    let alike = c.requires.alike in
    elim c.if-waiting-place.branch [
      | then-waiting-place w ↦ record {
        total = omega (
          arith,
          w.total-is,
          c.loop-place.invariant.total,
          w.from-total.ensures,
          more_taking c.args.weights.now c.args.waiting.now c.loop-place.place alike (omega arith) w.if-waiting-place.true,
        );
        small = omega (arith, w.total-is, c.loop-place.invariant.small, w.from-total.ensures, c.type_inv.weights c.loop-place.place);
      }
      | else-waiting-place w ↦ record {
        total = omega (
          arith,
          w.total-is,
          c.loop-place.invariant.total,
          more_idle c.args.weights.now c.args.waiting.now c.loop-place.place alike (omega arith) w.if-waiting-place.false,
        );
        small = omega (arith, w.total-is, c.loop-place.invariant.small);
      }
    ]

pub returns : goal.returns
returns c = record {
  total = c.loop-place.invariant.total
      ∙ ap sum (take_all c.loop-place.place (shares c.args.weights.now c.args.waiting.now)
      (omega (arith, length-shares c.args.weights.now c.args.waiting.now c.requires.alike)));
}
