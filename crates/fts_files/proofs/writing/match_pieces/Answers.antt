use Rattle.std.proofs.Common.{◌+◌, ◌-◌, min, length, ap, arith, rules, Ok, Err}
use Rattle.std.proofs.lemmas.List.{length-drop}
use Rattle.fts_files.specs.Calls.{ReadAt}
use Rattle.fts_files.specs.Script.{fails}
use Rattle.fts_files.specs.Writing.{matched}
use Rattle.fts_files.specs.declared.writing.TheConstants.{MAX_AGAIN}
use Rattle.fts_files.proofs.Playing.{then_leads, failed}
use Rattle.fts_files.proofs.Writings.{over_end, over_never, over_step}
use Rattle.fts_files.proofs.writing.match_pieces.Goals as goal

pub overflow_add-done : goal.overflow_add-done
overflow_add-done g c = omega (arith, c.in_ok-done.ensures.within, ap length c.behind-left.ensures, length-drop c.calls.done c.args.bytes.now, c.calls.invariant.within)

pub calls-preserved : goal.calls-preserved
calls-preserved g c = record {
  within = omega (arith, c.in_ok-done.ensures.within, ap length c.behind-left.ensures, length-drop c.calls.done c.args.bytes.now, c.calls.invariant.within);
  script = λ next. then_leads (c.calls.invariant.script next)
      (over_step (λ from left. ReadAt (g.F.FileSystem.number c.args.file.now) from (min (length left) 4096)) matched next (length c.args.bytes.now + MAX_AGAIN - c.calls.i) (length c.args.bytes.now + MAX_AGAIN - (c.calls.i + 1)) c.args.offset c.args.bytes.now c.calls.done
      _ _ (Ok c.in_ok-done.field-0) (omega arith) (omega arith) (rw c.behind-left.ensures at c.in_ok-done.ensures.script));
}

pub returns-in_err-done : goal.returns-in_err-done
returns-in_err-done g c next = failed (λ done. next) fails c.from_residual.result
    (then_leads (c.calls.invariant.script next)
    (over_step (λ from left. ReadAt (g.F.FileSystem.number c.args.file.now) from (min (length left) 4096)) matched next (length c.args.bytes.now + MAX_AGAIN - c.calls.i) (length c.args.bytes.now + MAX_AGAIN - (c.calls.i + 1)) c.args.offset c.args.bytes.now c.calls.done
    _ _ (Err c.in_err-done.field-0.0) (omega arith) (omega arith) (rw c.behind-left.ensures at c.in_err-done.ensures.script))) (search rules)

pub returns-then-done-bytes : goal.returns-then-done-bytes
returns-then-done-bytes g c next = then_leads (c.calls.invariant.script next)
    (over_end (λ from left. ReadAt (g.F.FileSystem.number c.args.file.now) from (min (length left) 4096)) matched next _ _ c.args.bytes.now c.calls.done _ (omega arith))

pub returns-then-done-bytes-2 : goal.returns-then-done-bytes-2
returns-then-done-bytes-2 g c next = then_leads (c.calls.invariant.script next)
    (over_end (λ from left. ReadAt (g.F.FileSystem.number c.args.file.now) from (min (length left) 4096)) matched next _ _ c.args.bytes.now c.calls.done _ (omega arith))

pub returns-else-done-bytes-2 : goal.returns-else-done-bytes-2
returns-else-done-bytes-2 g c next = then_leads (c.calls.invariant.script next)
    (over_never (λ from left. ReadAt (g.F.FileSystem.number c.args.file.now) from (min (length left) 4096)) matched next _ _ c.args.bytes.now c.calls.done _ (omega arith) (omega arith))
