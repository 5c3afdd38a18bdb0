use Rattle.std.proofs.Common.{rules}
use Rattle.fts_files.specs.Script.{fails}
use Rattle.fts_files.specs.Reading.{opens_source}
use Rattle.fts_files.proofs.Playing.{then_leads, does_leads, failed, same_leads}
use Rattle.fts_files.proofs.reading.open_source.Goals as goal

pub returns-in_err-found : goal.returns-in_err-found
unfolding opens_source
returns-in_err-found g c next = failed (λ file. next (g.F.FileSystem.number file)) fails c.from_residual.result (does_leads _ _ _ _ _ c.in_err-found.ensures) (search rules)

pub returns-in_err-is_plain : goal.returns-in_err-is_plain
unfolding opens_source
returns-in_err-is_plain g c next = failed (λ file. next (g.F.FileSystem.number file)) fails c.from_residual-in_err-is_plain.result
    (then_leads (does_leads _ _ _ _ _ c.in_ok-found.ensures) (same_leads _ _ _ (c.in_err-is_plain.ensures _))) (search rules)

pub returns-in_err-file : goal.returns-in_err-file
unfolding opens_source
returns-in_err-file g c next = failed (λ file. next (g.F.FileSystem.number file)) fails c.from_residual-in_err-file.result
    (then_leads (does_leads _ _ _ _ _ c.in_ok-found.ensures) (then_leads (same_leads _ _ _ (c.in_ok-is_plain.ensures _)) (c.in_err-file.ensures _))) (search rules)

pub returns-in_err-opened : goal.returns-in_err-opened
unfolding opens_source
returns-in_err-opened g c next = failed (λ file. next (g.F.FileSystem.number file)) fails c.from_residual-in_err-opened.result
    (then_leads (does_leads _ _ _ _ _ c.in_ok-found.ensures) (then_leads (same_leads _ _ _ (c.in_ok-is_plain.ensures _))
    (then_leads (c.in_ok-file.ensures _) (does_leads _ _ _ _ _ c.in_err-opened.ensures)))) (search rules)

pub returns-in_err-is_plain-2 : goal.returns-in_err-is_plain-2
unfolding opens_source
returns-in_err-is_plain-2 g c next = failed (λ file. next (g.F.FileSystem.number file)) fails c.from_residual-in_err-is_plain-2.result
    (then_leads (does_leads _ _ _ _ _ c.in_ok-found.ensures) (then_leads (same_leads _ _ _ (c.in_ok-is_plain.ensures _))
    (then_leads (c.in_ok-file.ensures _) (then_leads (does_leads _ _ _ _ _ c.in_ok-opened.ensures) (same_leads _ _ _ (c.in_err-is_plain-2.ensures _)))))) (search rules)

pub returns : goal.returns
unfolding opens_source
returns g c next =
    then_leads (does_leads _ _ _ _ _ c.in_ok-found.ensures) (then_leads (same_leads _ _ _ (c.in_ok-is_plain.ensures _))
    (then_leads (c.in_ok-file.ensures _) (then_leads (does_leads _ _ _ _ _ c.in_ok-opened.ensures) (same_leads _ _ _ (c.in_ok-is_plain-2.ensures _)))))
