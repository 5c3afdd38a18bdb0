use Rattle.std.proofs.Common.{rules}
use Rattle.fts_files.specs.Script.{fails}
use Rattle.fts_files.specs.Reading.{opens_plain}
use Rattle.fts_files.proofs.Playing.{then_leads, does_leads, failed, same_leads}
use Rattle.fts_files.proofs.reading.open_plain.Goals as goal

pub returns-in_err-seen : goal.returns-in_err-seen
unfolding opens_plain
returns-in_err-seen g c next = failed (λ file. next (g.F.FileSystem.number file)) fails c.from_residual.result (does_leads _ _ _ _ _ c.in_err-seen.ensures) (search rules)

pub returns-in_err-is_plain : goal.returns-in_err-is_plain
unfolding opens_plain
returns-in_err-is_plain g c next = failed (λ file. next (g.F.FileSystem.number file)) fails c.from_residual-in_err-is_plain.result
    (then_leads (does_leads _ _ _ _ _ c.in_ok-seen.ensures) (same_leads _ _ _ (c.in_err-is_plain.ensures _))) (search rules)

pub returns-in_err-file : goal.returns-in_err-file
unfolding opens_plain
returns-in_err-file g c next = failed (λ file. next (g.F.FileSystem.number file)) fails c.from_residual-in_err-file.result
    (then_leads (does_leads _ _ _ _ _ c.in_ok-seen.ensures) (then_leads (same_leads _ _ _ (c.in_ok-is_plain.ensures _)) (does_leads _ _ _ _ _ c.in_err-file.ensures))) (search rules)

pub returns-in_err-there : goal.returns-in_err-there
unfolding opens_plain
returns-in_err-there g c next = failed (λ file. next (g.F.FileSystem.number file)) fails c.from_residual-in_err-there.result
    (then_leads (does_leads _ _ _ _ _ c.in_ok-seen.ensures) (then_leads (same_leads _ _ _ (c.in_ok-is_plain.ensures _))
    (then_leads (does_leads _ _ _ _ _ c.in_ok-file.ensures) (does_leads _ _ _ _ _ c.in_err-there.ensures)))) (search rules)

pub returns-in_err-is_plain-2 : goal.returns-in_err-is_plain-2
unfolding opens_plain
returns-in_err-is_plain-2 g c next = failed (λ file. next (g.F.FileSystem.number file)) fails c.from_residual-in_err-is_plain-2.result
    (then_leads (does_leads _ _ _ _ _ c.in_ok-seen.ensures) (then_leads (same_leads _ _ _ (c.in_ok-is_plain.ensures _))
    (then_leads (does_leads _ _ _ _ _ c.in_ok-file.ensures) (then_leads (does_leads _ _ _ _ _ c.in_ok-there.ensures) (same_leads _ _ _ (c.in_err-is_plain-2.ensures _)))))) (search rules)

pub returns : goal.returns
unfolding opens_plain
returns g c next =
    then_leads (does_leads _ _ _ _ _ c.in_ok-seen.ensures) (then_leads (same_leads _ _ _ (c.in_ok-is_plain.ensures _))
    (then_leads (does_leads _ _ _ _ _ c.in_ok-file.ensures) (then_leads (does_leads _ _ _ _ _ c.in_ok-there.ensures) (same_leads _ _ _ (c.in_ok-is_plain-2.ensures _)))))
