use Rattle.std.proofs.Common.{sym, ◌∙◌, rules}
use Rattle.fts_files.specs.Calls.{Saw}
use Rattle.fts_files.specs.Moving.{checks}
use Rattle.fts_files.proofs.Playing.{then_leads, does_leads, failed, chosen, left}
use Rattle.fts_files.proofs.moving.check_name.Goals as goal

pub returns-in_err-there : goal.returns-in_err-there
unfolding checks
returns-in_err-there g c next ended = failed (λ done. next) ended c.from_residual.result (does_leads _ _ _ _ _ c.in_err-there.ensures) (search rules)

pub returns-then-is_same_file : goal.returns-then-is_same_file
unfolding checks
returns-then-is_same_file g c next ended =
    then_leads (does_leads _ _ _ _ _ c.in_ok-there.ensures) (chosen _ _ _ _ (sym c.is_same_file.ensures ∙ c.if-is_same_file.true))

pub returns-else-is_same_file : goal.returns-else-is_same_file
unfolding checks
returns-else-is_same_file g c next ended =
    then_leads (does_leads _ _ _ _ (Saw c.in_ok-there.there) c.in_ok-there.ensures) (left _ _ _ _ (sym c.is_same_file.ensures ∙ c.if-is_same_file.false))
