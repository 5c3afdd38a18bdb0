use Rattle.std.proofs.Common.{ap, rules}
use Rattle.fts_files.specs.Script.{fails}
use Rattle.fts_files.specs.Reading.{opens_plain}
use Rattle.fts_disk.specs.Opening.{opens_to_look, by_option}
use Rattle.fts_files.proofs.Playing.{then_leads, failed, same_leads}
use Rattle.fts_disk.proofs.opening.open_to_look.Goals as goal

pub returns-in_err-found : goal.returns-in_err-found
unfolding opens_to_look
returns-in_err-found g c absent next = failed (by_option absent (λ guard. next (g.F.FileSystem.number guard.file))) fails c.from_residual.result (c.in_err-found.ensures _) (search rules)

pub returns-in-None : goal.returns-in-None
unfolding opens_to_look
returns-in-None g c absent next =
    then_leads (c.in_ok-found.ensures _) (same_leads _ _ _ (ap (by_option absent (λ len. opens_plain c.args.path.now next)) c.in-None.is))

pub returns-in_err-file-in-Some : goal.returns-in_err-file-in-Some
unfolding opens_to_look
returns-in_err-file-in-Some g c absent next = failed (by_option absent (λ guard. next (g.F.FileSystem.number guard.file))) fails c.from_residual-in_err-file-in-Some.result
    (then_leads (c.in_ok-found.ensures _) (then_leads (same_leads _ _ _ (ap (by_option absent (λ len. opens_plain c.args.path.now next)) c.in-Some.is))
    (c.in_err-file-in-Some.ensures next))) (search rules)

pub returns-in_ok-file-in-Some : goal.returns-in_ok-file-in-Some
unfolding opens_to_look
returns-in_ok-file-in-Some g c absent next =
    rw c.new.ensures.file (then_leads (c.in_ok-found.ensures _) (then_leads (same_leads _ _ _ (ap (by_option absent (λ len. opens_plain c.args.path.now next)) c.in-Some.is))
    (c.in_ok-file-in-Some.ensures next)))
