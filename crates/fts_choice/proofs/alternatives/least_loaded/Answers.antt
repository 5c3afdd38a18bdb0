use Rattle.std.proofs.Common.{true, false, ◌∙◌}
use Rattle.fts_choice.specs.LeastPlaces.{is_not_used_at, load_of}
use Rattle.fts_choice.proofs.LeastFound.{least_place-step}
use Rattle.fts_choice.proofs.alternatives.least_loaded.Goals as goal
use Rattle.fts_choice.proofs.alternatives.least_loaded.Goals.{then-is_next, else-is_next}

pub loop-place-preserved : goal.loop-place-preserved
loop-place-preserved c =
    let step = least_place-step (is_not_used_at c.args.rows.now) (load_of c.args.loads.now) c.loop-place.place c.loop-place.best c.is_next.result in
    elim c.if-is_next.branch [
      | then-is_next w ↦ record { best = w.best-is ∙ step true c.loop-place.invariant.best c.is_next.ensures.answer w.if-is_next.true }
      | else-is_next w ↦ record { best = w.best-is ∙ step false c.loop-place.invariant.best c.is_next.ensures.answer w.if-is_next.false }
    ]
