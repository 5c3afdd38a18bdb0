use Rattle.std.proofs.Common.{ap, rules}
use Rattle.fts_files.specs.Script.{fails}
use Rattle.fts_files.specs.Moving.{gets_mode, keeps_mode}
use Rattle.fts_files.proofs.Playing.{then_leads, does_leads, failed, same_leads}
use Rattle.fts_files.proofs.moving.keep_mode.Goals as goal

pub returns-in_err-found : goal.returns-in_err-found
unfolding keeps_mode
returns-in_err-found g c next = failed (λ done. next) fails c.from_residual.result (c.in_err-found.ensures _) (search rules)

pub returns-in_err-set_mode-in-Some : goal.returns-in_err-set_mode-in-Some
unfolding keeps_mode
returns-in_err-set_mode-in-Some g c next = failed (λ done. next) fails c.from_residual-in_err-set_mode-in-Some.result
    (then_leads (c.in_ok-found.ensures _) (then_leads (same_leads _ _ _ (ap (gets_mode (g.F.FileSystem.number c.args.file.now) next) c.in-Some.is))
    (does_leads _ _ _ _ _ c.in_err-set_mode-in-Some.ensures))) (search rules)

pub returns-in_ok-set_mode-in-Some : goal.returns-in_ok-set_mode-in-Some
unfolding keeps_mode
returns-in_ok-set_mode-in-Some g c next =
    then_leads (c.in_ok-found.ensures _) (then_leads (same_leads _ _ _ (ap (gets_mode (g.F.FileSystem.number c.args.file.now) next) c.in-Some.is))
    (does_leads _ _ _ _ _ c.in_ok-set_mode-in-Some.ensures))

pub returns-in-None : goal.returns-in-None
unfolding keeps_mode
returns-in-None g c next =
    then_leads (c.in_ok-found.ensures _) (same_leads _ _ _ (ap (gets_mode (g.F.FileSystem.number c.args.file.now) next) c.in-None.is))
