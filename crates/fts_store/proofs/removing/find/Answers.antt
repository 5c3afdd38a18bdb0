use Rattle.std.proofs.Common.{rules}
use Rattle.fts_files.specs.Script.{fails}
use Rattle.fts_files.proofs.Playing.{then_leads, does_leads, chosen, left, failed}
use Rattle.fts_store.specs.Removing.{finds}
use Rattle.fts_store.proofs.Metings.{value_same}
use Rattle.fts_store.proofs.removing.find.Goals as goal

pub returns-in_err-reached : goal.returns-in_err-reached
unfolding finds
returns-in_err-reached g c next = failed (λ found. next found.folder.now found.size) fails c.from_residual.result (c.in_err-reached.ensures _) (search rules)

pub returns-then-not-reached : goal.returns-then-not-reached
unfolding finds
returns-then-not-reached g c next = then_leads (c.in_ok-reached.ensures _) (left _ _ _ _ c.if-not-reached.true)

pub returns-in_err-size : goal.returns-in_err-size
unfolding finds
returns-in_err-size g c next = failed (λ found. next found.folder.now found.size) fails c.from_residual-in_err-size.result
    (then_leads (c.in_ok-reached.ensures _) (then_leads (chosen _ _ _ _ c.if-not-reached.false)
    (then_leads (does_leads _ _ _ _ _ c.look_at_name.ensures) (value_same (next c.in_ok-reached.reached.folder.now) fails _ _ _ c.in_err-size.ensures)))) (search rules)

pub returns : goal.returns
unfolding finds
returns g c next =
    then_leads (c.in_ok-reached.ensures _) (then_leads (chosen _ _ _ _ c.if-not-reached.false)
    (then_leads (does_leads _ _ _ _ _ c.look_at_name.ensures) (value_same (next c.in_ok-reached.reached.folder.now) fails _ _ _ c.in_ok-size.ensures)))
