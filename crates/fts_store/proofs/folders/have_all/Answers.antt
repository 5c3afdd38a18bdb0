use Rattle.std.proofs.Common.{rules}
use Rattle.fts_files.specs.Script.{fails}
use Rattle.fts_files.proofs.Playing.{then_leads, failed, chosen, left}
use Rattle.fts_store.specs.Folders.{has_all}
use Rattle.fts_store.proofs.folders.have_all.Goals as goal

pub returns-in_err-was_there : goal.returns-in_err-was_there
unfolding has_all
returns-in_err-was_there g c next = failed next fails c.from_residual.result (c.in_err-was_there.ensures _) (search rules)

pub returns-then-was_there : goal.returns-then-was_there
unfolding has_all
returns-then-was_there g c next =
    then_leads (c.in_ok-was_there.ensures _) (then_leads (chosen _ _ _ _ c.if-was_there.true) ((rw (c.below-inner.ensures, c.as_str.ensures.value) at c.have_folders.ensures) next))

pub returns-else-was_there : goal.returns-else-was_there
unfolding has_all
returns-else-was_there g c next =
    then_leads (c.in_ok-was_there.ensures _) (then_leads (left _ _ _ _ c.if-was_there.false) (c.have_folders-else-was_there.ensures next))
