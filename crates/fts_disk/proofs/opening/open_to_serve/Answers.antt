use Rattle.std.proofs.Common.{rules}
use Rattle.fts_files.specs.Script.{fails}
use Rattle.fts_disk.specs.Opening.{opens_to_serve}
use Rattle.fts_files.proofs.Playing.{then_leads, does_leads, failed, same_leads}
use Rattle.fts_disk.proofs.opening.open_to_serve.Goals as goal

pub returns-in_err-file : goal.returns-in_err-file
unfolding opens_to_serve
returns-in_err-file g c next = failed (λ file. next (g.F.FileSystem.number file)) fails c.from_residual.result
    (c.in_err-file.ensures _) (search rules)

pub returns-in_err-seen : goal.returns-in_err-seen
unfolding opens_to_serve
returns-in_err-seen g c next = failed (λ file. next (g.F.FileSystem.number file)) fails c.from_residual-in_err-seen.result
    (then_leads (c.in_ok-file.ensures _) (does_leads _ _ _ _ _ c.in_err-seen.ensures)) (search rules)

pub returns-in_err-is_plain : goal.returns-in_err-is_plain
unfolding opens_to_serve
returns-in_err-is_plain g c next = failed (λ file. next (g.F.FileSystem.number file)) fails c.from_residual-in_err-is_plain.result
    (then_leads (c.in_ok-file.ensures _) (then_leads (does_leads _ _ _ _ _ c.in_ok-seen.ensures) (same_leads _ _ _ (c.in_err-is_plain.ensures _)))) (search rules)

pub returns-in_err-lock : goal.returns-in_err-lock
unfolding opens_to_serve
returns-in_err-lock g c next = failed (λ file. next (g.F.FileSystem.number file)) fails c.from_residual-in_err-lock.result
    (then_leads (c.in_ok-file.ensures _) (then_leads (does_leads _ _ _ _ _ c.in_ok-seen.ensures) (then_leads (same_leads _ _ _ (c.in_ok-is_plain.ensures _)) (does_leads _ _ _ _ _ c.in_err-lock.ensures)))) (search rules)

pub returns-in_err-sync_all : goal.returns-in_err-sync_all
unfolding opens_to_serve
returns-in_err-sync_all g c next = failed (λ file. next (g.F.FileSystem.number file)) fails c.from_residual-in_err-sync_all.result
    (then_leads (c.in_ok-file.ensures _) (then_leads (does_leads _ _ _ _ _ c.in_ok-seen.ensures) (then_leads (same_leads _ _ _ (c.in_ok-is_plain.ensures _)) (then_leads (does_leads _ _ _ _ _ c.in_ok-lock.ensures) (does_leads _ _ _ _ _ c.in_err-sync_all.ensures))))) (search rules)

pub returns-in_err-forget : goal.returns-in_err-forget
unfolding opens_to_serve
returns-in_err-forget g c next = failed (λ file. next (g.F.FileSystem.number file)) fails c.from_residual-in_err-forget.result
    (then_leads (c.in_ok-file.ensures _) (then_leads (does_leads _ _ _ _ _ c.in_ok-seen.ensures) (then_leads (same_leads _ _ _ (c.in_ok-is_plain.ensures _)) (then_leads (does_leads _ _ _ _ _ c.in_ok-lock.ensures) (then_leads (does_leads _ _ _ _ _ c.in_ok-sync_all.ensures) (does_leads _ _ _ _ _ c.in_err-forget.ensures)))))) (search rules)

pub returns-in_err-folder : goal.returns-in_err-folder
unfolding opens_to_serve
returns-in_err-folder g c next = failed (λ file. next (g.F.FileSystem.number file)) fails c.from_residual-in_err-folder.result
    (then_leads (c.in_ok-file.ensures _) (then_leads (does_leads _ _ _ _ _ c.in_ok-seen.ensures) (then_leads (same_leads _ _ _ (c.in_ok-is_plain.ensures _)) (then_leads (does_leads _ _ _ _ _ c.in_ok-lock.ensures) (then_leads (does_leads _ _ _ _ _ c.in_ok-sync_all.ensures) (then_leads (does_leads _ _ _ _ _ c.in_ok-forget.ensures) (does_leads _ _ _ _ _ (rw c.folder_of.ensures at c.in_err-folder.ensures)))))))) (search rules)

pub returns-in_err-sync_all-2 : goal.returns-in_err-sync_all-2
unfolding opens_to_serve
returns-in_err-sync_all-2 g c next = failed (λ file. next (g.F.FileSystem.number file)) fails c.from_residual-in_err-sync_all-2.result
    (then_leads (c.in_ok-file.ensures _) (then_leads (does_leads _ _ _ _ _ c.in_ok-seen.ensures) (then_leads (same_leads _ _ _ (c.in_ok-is_plain.ensures _)) (then_leads (does_leads _ _ _ _ _ c.in_ok-lock.ensures) (then_leads (does_leads _ _ _ _ _ c.in_ok-sync_all.ensures) (then_leads (does_leads _ _ _ _ _ c.in_ok-forget.ensures) (then_leads (does_leads _ _ _ _ _ (rw c.folder_of.ensures at c.in_ok-folder.ensures)) (does_leads _ _ _ _ _ c.in_err-sync_all-2.ensures)))))))) (search rules)

pub returns : goal.returns
unfolding opens_to_serve
returns g c next =
    then_leads (c.in_ok-file.ensures _) (then_leads (does_leads _ _ _ _ _ c.in_ok-seen.ensures) (then_leads (same_leads _ _ _ (c.in_ok-is_plain.ensures _)) (then_leads (does_leads _ _ _ _ _ c.in_ok-lock.ensures) (then_leads (does_leads _ _ _ _ _ c.in_ok-sync_all.ensures) (then_leads (does_leads _ _ _ _ _ c.in_ok-forget.ensures) (then_leads (does_leads _ _ _ _ _ (rw c.folder_of.ensures at c.in_ok-folder.ensures)) (does_leads _ _ _ _ _ c.in_ok-sync_all-2.ensures)))))))
