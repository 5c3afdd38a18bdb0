use Rattle.std.proofs.Common.{rules}
use Rattle.fts_files.specs.Script.{fails}
use Rattle.fts_disk.specs.Guard.{writes_there}
use Rattle.fts_files.proofs.Playing.{then_leads, failed}
use Rattle.fts_disk.proofs.guard.write_there.Goals as goal

pub returns-in_err-now : goal.returns-in_err-now
unfolding writes_there
returns-in_err-now g c next = failed next fails c.from_residual.result (c.in_err-now.ensures _) (search rules)

pub returns-in_err-ready : goal.returns-in_err-ready
unfolding writes_there
returns-in_err-ready g c next = failed next fails c.from_residual-in_err-ready.result
    (then_leads (c.in_ok-now.ensures _) (c.in_err-ready.ensures _)) (search rules)

pub returns-in_err-write_whole : goal.returns-in_err-write_whole
unfolding writes_there
returns-in_err-write_whole g c next = failed next fails c.from_residual-in_err-write_whole.result
    (then_leads (c.in_ok-now.ensures _) (then_leads (c.in_ok-ready.ensures _) (c.in_err-write_whole.ensures.script _))) (search rules)

pub returns : goal.returns
unfolding writes_there
returns g c next =
    then_leads (c.in_ok-now.ensures _) (then_leads (c.in_ok-ready.ensures _) (then_leads (c.in_ok-write_whole.ensures.script _) (rw (c.max.ensures, c.min.ensures) at (c.confirm.ensures next))))
