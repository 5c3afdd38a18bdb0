use Rattle.std.proofs.Common.{◌+◌, ◌-◌, length, take, sym, ◌∙◌, arith}
use Rattle.fts_files.specs.Calls.{Gave}
use Rattle.fts_files.specs.Reading.{reads_once}
use Rattle.fts_files.specs.declared.reading.TheConstants.{READ_TRIES}
use Rattle.fts_files.proofs.Playing.{then_leads, same_leads, left, chosen}
use Rattle.fts_files.proofs.Readings.{try_leads, no_try}
use Rattle.fts_files.proofs.reading.read_some.Goals as goal

pub returns-in-Ok-clause-script : goal.returns-in-Ok-clause-script
returns-in-Ok-clause-script g c next =
    then_leads (c.tries.invariant next)
    (try_leads (g.F.FileSystem.number c.args.file.now) c.args.offset (length c.args.into.now) next (READ_TRIES - c.tries.i) (READ_TRIES - (c.tries.i + 1)) _ _ (Gave (take c.in-Ok.count c.read_at.new.into)) (omega arith) (rw c.tries.auto.into at c.in-Ok.ensures.called))

pub returns-in-Err-2-clause-script : goal.returns-in-Err-2-clause-script
returns-in-Err-2-clause-script g c next =
    then_leads (c.tries.invariant next)
    (then_leads (try_leads (g.F.FileSystem.number c.args.file.now) c.args.offset (length c.args.into.now) next (READ_TRIES - c.tries.i) (READ_TRIES - (c.tries.i + 1)) _ _ _ (omega arith) (rw c.tries.auto.into at c.in-Err.ensures.called))
    (left _ _ _ _ (sym c.is_interrupted.ensures ∙ c.if-is_interrupted.false)))

pub tries-preserved : goal.tries-preserved
tries-preserved g c next =
    then_leads (c.tries.invariant next)
    (then_leads (try_leads (g.F.FileSystem.number c.args.file.now) c.args.offset (length c.args.into.now) next (READ_TRIES - c.tries.i) (READ_TRIES - (c.tries.i + 1)) _ _ _ (omega arith) (rw c.tries.auto.into at c.in-Err.ensures.called))
    (chosen _ _ _ _ (sym c.is_interrupted.ensures ∙ c.if-is_interrupted.true)))

pub returns-clause-script : goal.returns-clause-script
unfolding reads_once
returns-clause-script g c next =
    then_leads (c.tries.invariant next) (same_leads _ _ _ (no_try (g.F.FileSystem.number c.args.file.now) c.args.offset (length c.args.into.now) next (READ_TRIES - c.tries.i) (omega arith)))
