use Rattle.std.proofs.Common.{rules}
use Rattle.fts_files.specs.Script.{fails}
use Rattle.fts_disk.specs.Guard.{guarded_len}
use Rattle.fts_files.proofs.Playing.{then_leads, does_leads, failed}
use Rattle.fts_disk.proofs.guard.Guard.len.Goals as goal

pub returns-in_err-now-clause-script : goal.returns-in_err-now-clause-script
unfolding guarded_len
returns-in_err-now-clause-script g c next = failed (next c.args.self.now.state) fails c.from_residual.result (c.in_err-now.ensures _) (search rules)

pub returns-in_err-seen-clause-script : goal.returns-in_err-seen-clause-script
unfolding guarded_len
returns-in_err-seen-clause-script g c next = failed (next c.args.self.now.state) fails c.from_residual-in_err-seen.result
    (then_leads (c.in_ok-now.ensures _) (does_leads _ _ _ _ _ c.in_err-seen.ensures)) (search rules)

pub returns-clause-script : goal.returns-clause-script
unfolding guarded_len
returns-clause-script g c next = then_leads (c.in_ok-now.ensures _) (does_leads _ _ _ _ _ c.in_ok-seen.ensures)
