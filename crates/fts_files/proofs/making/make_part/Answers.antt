use Rattle.std.proofs.Common.{sym, ◌∙◌, rules}
use Rattle.fts_files.specs.Script.{fails}
use Rattle.fts_files.specs.Making.{makes_part}
use Rattle.fts_files.proofs.Playing.{then_leads, failed, chosen, left}
use Rattle.fts_files.proofs.making.make_part.Goals as goal

pub returns-in_err-hold-in-Ok : goal.returns-in_err-hold-in-Ok
unfolding makes_part
returns-in_err-hold-in-Ok g c next = failed (λ file. next (g.F.FileSystem.number file)) fails c.from_residual.result
    (then_leads (c.in-Ok.ensures _) (c.in_err-hold-in-Ok.ensures _ fails)) (search rules)

pub returns-in_err-clear-in-Err : goal.returns-in_err-clear-in-Err
unfolding makes_part
returns-in_err-clear-in-Err g c next = failed (λ file. next (g.F.FileSystem.number file)) fails c.from_residual-in_err-clear-in-Err.result
    (then_leads (c.in-Err.ensures _) (then_leads (chosen _ _ _ _ (sym c.is_taken.ensures ∙ c.if-is_taken.true)) (c.in_err-clear-in-Err.ensures _))) (search rules)

pub returns-in_err-file-in-Err : goal.returns-in_err-file-in-Err
unfolding makes_part
returns-in_err-file-in-Err g c next = failed (λ file. next (g.F.FileSystem.number file)) fails c.from_residual-in_err-file-in-Err.result
    (then_leads (c.in-Err.ensures _) (then_leads (chosen _ _ _ _ (sym c.is_taken.ensures ∙ c.if-is_taken.true))
    (then_leads (c.in_ok-clear-in-Err.ensures _) (c.in_err-file-in-Err.ensures _)))) (search rules)

pub returns-in_err-hold-in-Err : goal.returns-in_err-hold-in-Err
unfolding makes_part
returns-in_err-hold-in-Err g c next = failed (λ file. next (g.F.FileSystem.number file)) fails c.from_residual-in_err-hold-in-Err.result
    (then_leads (c.in-Err.ensures _) (then_leads (chosen _ _ _ _ (sym c.is_taken.ensures ∙ c.if-is_taken.true))
    (then_leads (c.in_ok-clear-in-Err.ensures _) (then_leads (c.in_ok-file-in-Err.ensures _) (c.in_err-hold-in-Err.ensures _ fails))))) (search rules)

pub returns-in_ok-hold-in-Ok : goal.returns-in_ok-hold-in-Ok
unfolding makes_part
returns-in_ok-hold-in-Ok g c next = then_leads (c.in-Ok.ensures _) (c.in_ok-hold-in-Ok.ensures _ fails)

pub returns-in_ok-hold-in-Err : goal.returns-in_ok-hold-in-Err
unfolding makes_part
returns-in_ok-hold-in-Err g c next =
    then_leads (c.in-Err.ensures _) (then_leads (chosen _ _ _ _ (sym c.is_taken.ensures ∙ c.if-is_taken.true))
    (then_leads (c.in_ok-clear-in-Err.ensures _) (then_leads (c.in_ok-file-in-Err.ensures _) (c.in_ok-hold-in-Err.ensures _ fails))))

pub returns-in-Err-2 : goal.returns-in-Err-2
unfolding makes_part
returns-in-Err-2 g c next = then_leads (c.in-Err.ensures _) (left _ _ _ _ (sym c.is_taken.ensures ∙ c.if-is_taken.false))
