use Rattle.std.proofs.Common.{sym, ◌∙◌}
use Rattle.fts_files.specs.Script.{fails}
use Rattle.fts_files.specs.Making.{removes_part}
use Rattle.fts_files.proofs.Playing.{then_leads, does_leads, chosen, left}
use Rattle.fts_files.proofs.making.remove_part.Goals as goal

pub returns-in-Ok : goal.returns-in-Ok
unfolding removes_part
returns-in-Ok g c next = then_leads (does_leads _ _ _ _ _ c.in-Ok.ensures) (c.clear_seen.ensures next fails)

pub returns-in-Err : goal.returns-in-Err
unfolding removes_part
returns-in-Err g c next = then_leads (does_leads _ _ _ _ _ c.in-Err.ensures) (chosen _ _ _ _ (sym c.is_missing.ensures ∙ c.if-is_missing.true))

pub returns-in-Err-2 : goal.returns-in-Err-2
unfolding removes_part
returns-in-Err-2 g c next = then_leads (does_leads _ _ _ _ _ c.in-Err.ensures) (left _ _ _ _ (sym c.is_missing.ensures ∙ c.if-is_missing.false))
