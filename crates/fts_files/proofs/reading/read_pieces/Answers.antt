use Rattle.std.proofs.Common.{◌+◌, ◌-◌, length, take, arith, rules}
use Rattle.fts_files.specs.Script.{fails}
use Rattle.fts_files.proofs.Playing.{then_leads, failed}
use Rattle.fts_files.proofs.Fillings.{filled, read_fails, read_ends, read_further}
use Rattle.fts_files.proofs.reading.read_pieces.Goals as goal

pub returns-then-done-into-clause-script : goal.returns-then-done-into-clause-script
returns-then-done-into-clause-script g c next = then_leads (c.reads.invariant.script next) (filled _ next _ _ _ _ _ (omega arith))

pub returns-in_err-count-clause-script : goal.returns-in_err-count-clause-script
returns-in_err-count-clause-script g c next = failed (λ count. next (take count _)) fails c.from_residual.result
    (then_leads (c.reads.invariant.script next)
    (read_fails (g.F.FileSystem.number c.args.file.now) next (length c.args.into.now - c.reads.i) (length c.args.into.now - (c.reads.i + 1)) c.args.offset (length c.reads.into) (length c.args.into.now)
    c.reads.done c.reads.into _ _ c.reads.invariant.long (omega arith) (omega arith) fails c.in_err-count.ensures.script)) (search rules)

pub returns-then-count-eq0-clause-script : goal.returns-then-count-eq0-clause-script
returns-then-count-eq0-clause-script g c next =
    then_leads (c.reads.invariant.script next)
    (read_ends (g.F.FileSystem.number c.args.file.now) next (length c.args.into.now - c.reads.i) (length c.args.into.now - (c.reads.i + 1)) c.args.offset (length c.reads.into) (length c.args.into.now)
    c.reads.done c.reads.into _ _ c.reads.invariant.long (omega arith) (omega arith)
    c.in_ok-count.count c.read_behind.new.into c.in_ok-count.ensures.within c.in_ok-count.ensures.kept c.in_ok-count.ensures.script (omega arith))

pub returns-clause-script : goal.returns-clause-script
returns-clause-script g c next = then_leads (c.reads.invariant.script next) (filled _ next _ _ _ _ _ (omega arith))

pub reads-preserved : goal.reads-preserved
reads-preserved g c = record {
  long = omega (arith, c.read_behind.auto.into, c.reads.invariant.long);
  within = c.in_ok-count.ensures.within;
  some = omega arith;
  script = λ next. then_leads (c.reads.invariant.script next)
      (read_further (g.F.FileSystem.number c.args.file.now) next (length c.args.into.now - c.reads.i) (length c.args.into.now - (c.reads.i + 1)) c.args.offset (length c.reads.into) (length c.args.into.now)
      c.reads.done c.reads.into _ _ c.reads.invariant.long (omega arith) (omega arith)
      c.in_ok-count.count c.read_behind.new.into c.in_ok-count.ensures.within c.in_ok-count.ensures.kept c.in_ok-count.ensures.script (omega arith));
}
