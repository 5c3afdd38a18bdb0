use Rattle.std.proofs.Common.{rules}
use Rattle.fts_files.specs.Script.{fails}
use Rattle.fts_files.specs.Moving.{moves}
use Rattle.fts_files.proofs.Playing.{then_leads, does_leads, failed, chosen, left}
use Rattle.fts_files.proofs.moving.put_in_place.Goals as goal

pub returns-in_err-sync_data : goal.returns-in_err-sync_data
unfolding moves
returns-in_err-sync_data g c next = failed (λ done. next) fails c.from_residual.result (does_leads _ _ _ _ _ c.in_err-sync_data.ensures) (search rules)

pub returns-in_err-seen : goal.returns-in_err-seen
unfolding moves
returns-in_err-seen g c next = failed (λ done. next) fails c.from_residual-in_err-seen.result
    (then_leads (does_leads _ _ _ _ _ c.in_ok-sync_data.ensures) (does_leads _ _ _ _ _ c.in_err-seen.ensures)) (search rules)

pub returns-in_ok-keep_mode : goal.returns-in_ok-keep_mode
unfolding moves
returns-in_ok-keep_mode g c next =
    then_leads (does_leads _ _ _ _ _ c.in_ok-sync_data.ensures) (then_leads (does_leads _ _ _ _ _ c.in_ok-seen.ensures)
    (then_leads (chosen _ _ _ _ c.if-overwrite.true) (then_leads (c.in_ok-keep_mode.ensures _) (c.replace.ensures next))))

pub returns-in_err-keep_mode : goal.returns-in_err-keep_mode
unfolding moves
returns-in_err-keep_mode g c next = failed (λ done. next) fails c.from_residual-in_err-keep_mode.result
    (then_leads (does_leads _ _ _ _ _ c.in_ok-sync_data.ensures) (then_leads (does_leads _ _ _ _ _ c.in_ok-seen.ensures)
    (then_leads (chosen _ _ _ _ c.if-overwrite.true) (c.in_err-keep_mode.ensures _)))) (search rules)

pub returns-else-overwrite : goal.returns-else-overwrite
unfolding moves
returns-else-overwrite g c next =
    then_leads (does_leads _ _ _ _ _ c.in_ok-sync_data.ensures) (then_leads (does_leads _ _ _ _ _ c.in_ok-seen.ensures)
    (then_leads (left _ _ _ _ c.if-overwrite.false) (c.link.ensures next)))
