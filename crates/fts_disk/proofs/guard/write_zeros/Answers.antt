use Rattle.std.proofs.Common.{◌+◌, ◌-◌, ◌/◌, rules, arith}
use Rattle.fts_files.specs.Script.{fails}
use Rattle.fts_files.proofs.Playing.{then_leads, failed}
use Rattle.fts_disk.proofs.Guardings.{piece_leads, pieces_end}
use Rattle.fts_disk.proofs.guard.write_zeros.Goals as goal

pub returns-in_err-write_whole : goal.returns-in_err-write_whole
returns-in_err-write_whole g c next = failed (λ done. next) fails c.from_residual.result
    (then_leads (c.zeros.invariant next)
    (then_leads (piece_leads _ next c.args.to c.args.from c.zeros.i ((c.args.to - c.args.from + 65535) / 65536) c.zeros-in-zeros.result.now _ c.zeros-test.true (rw c.min-size.ensures at c.zeros-in-zeros.ensures))
    (c.in_err-write_whole.ensures.script _))) (search rules)

pub zeros-preserved : goal.zeros-preserved
zeros-preserved g c next =
    then_leads (c.zeros.invariant next)
    (then_leads (piece_leads _ next c.args.to c.args.from c.zeros.i ((c.args.to - c.args.from + 65535) / 65536) c.zeros-in-zeros.result.now _ c.zeros-test.true (rw c.min-size.ensures at c.zeros-in-zeros.ensures))
    (c.in_ok-write_whole.ensures.script _))

pub returns : goal.returns
returns g c next = then_leads (c.zeros.invariant next) (pieces_end _ next c.args.to _ _ _ (omega (arith, c.zeros-test.false)))
