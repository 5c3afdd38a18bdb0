use Rattle.std.proofs.Common.{◌+◌, ◌-◌, sym, ◌∙◌, arith}
use Rattle.fts_files.specs.declared.opening.TheConstants.{MAX_RESTS}
use Rattle.fts_files.proofs.Playing.{then_leads, does_leads, left, chosen}
use Rattle.fts_files.proofs.Openings.{opening_leads, last_leads}
use Rattle.fts_files.proofs.opening.open_when_free.Goals as goal

pub returns-in-Ok : goal.returns-in-Ok
returns-in-Ok g c next =
    then_leads (c.rests.invariant next) (opening_leads c.args.path.now c.args.way next (MAX_RESTS - c.rests.i) (MAX_RESTS - (c.rests.i + 1)) _ _ _ (omega arith) c.in-Ok.ensures)

pub returns-in-Err-2 : goal.returns-in-Err-2
returns-in-Err-2 g c next =
    then_leads (c.rests.invariant next)
    (then_leads (opening_leads c.args.path.now c.args.way next (MAX_RESTS - c.rests.i) (MAX_RESTS - (c.rests.i + 1)) _ _ _ (omega arith) c.in-Err.ensures)
    (left _ _ _ _ (sym c.are_too_many.ensures ∙ c.if-are_too_many.false)))

pub rests-preserved : goal.rests-preserved
rests-preserved g c next =
    then_leads (c.rests.invariant next)
    (then_leads (opening_leads c.args.path.now c.args.way next (MAX_RESTS - c.rests.i) (MAX_RESTS - (c.rests.i + 1)) _ _ _ (omega arith) c.in-Err.ensures)
    (then_leads (chosen _ _ _ _ (sym c.are_too_many.ensures ∙ c.if-are_too_many.true)) (does_leads _ _ _ _ _ c.rest.ensures)))

pub returns : goal.returns
returns g c next = then_leads (c.rests.invariant next) (last_leads c.args.path.now c.args.way next (MAX_RESTS - c.rests.i) _ _ _ (omega arith) c.open-2.ensures)
