use Rattle.std.proofs.Common.{rules}
use Rattle.fts_files.specs.Script.{fails}
use Rattle.fts_files.proofs.Playing.{then_leads, failed}
use Rattle.fts_store.specs.Folders.{meets}
use Rattle.fts_store.proofs.Metings.{value_same}
use Rattle.fts_store.proofs.folders.meet.Goals as goal

pub returns-in_err-device : goal.returns-in_err-device
unfolding meets
returns-in_err-device g c next = failed next fails c.from_residual.result ((rw c.as_str-2.ensures.value at c.in_err-device.ensures) _) (search rules)

pub returns-in_err-was_there : goal.returns-in_err-was_there
unfolding meets
returns-in_err-was_there g c next = failed next fails c.from_residual-in_err-was_there.result
    (then_leads ((rw c.as_str-2.ensures.value at c.in_ok-device.ensures) _) (value_same next fails _ _ _ (rw (c.first_met-first.ensures, c.deref.ensures.value, c.as_str.ensures.value) at c.in_err-was_there.ensures))) (search rules)

pub returns-then-is_none : goal.returns-then-is_none
unfolding meets
returns-then-is_none g c next =
    then_leads ((rw c.as_str-2.ensures.value at c.in_ok-device.ensures) _) (value_same next fails _ _ _ (rw (c.first_met-first.ensures, c.deref.ensures.value, c.as_str.ensures.value) at c.in_ok-was_there.ensures))

pub returns-else-is_none : goal.returns-else-is_none
unfolding meets
returns-else-is_none g c next =
    then_leads ((rw c.as_str-2.ensures.value at c.in_ok-device.ensures) _) (value_same next fails _ _ _ (rw (c.first_met-first.ensures, c.deref.ensures.value, c.as_str.ensures.value) at c.in_ok-was_there.ensures))
