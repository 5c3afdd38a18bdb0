use Rattle.std.proofs.Common.{rules}
use Rattle.fts_files.specs.Making.{holds}
use Rattle.fts_files.proofs.Playing.{then_leads, does_leads, failed}
use Rattle.fts_files.proofs.making.hold.Goals as goal

pub returns-in_err-lock : goal.returns-in_err-lock
unfolding holds
returns-in_err-lock g c next ended = failed (λ done. next) ended c.from_residual.result (does_leads _ _ _ _ _ c.in_err-lock.ensures) (search rules)

pub returns-in_err-seen : goal.returns-in_err-seen
unfolding holds
returns-in_err-seen g c next ended = failed (λ done. next) ended c.from_residual-in_err-seen.result
    (then_leads (does_leads _ _ _ _ _ c.in_ok-lock.ensures) (does_leads _ _ _ _ _ c.in_err-seen.ensures)) (search rules)

pub returns : goal.returns
unfolding holds
returns g c next ended = then_leads (does_leads _ _ _ _ _ c.in_ok-lock.ensures) (then_leads (does_leads _ _ _ _ _ c.in_ok-seen.ensures) (c.check_name.ensures next ended))
