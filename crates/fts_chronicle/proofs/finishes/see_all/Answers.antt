-- One job more is seen at each turn.
use Rattle.std.proofs.Common.{arith, sym}
use Rattle.std.proofs.lemmas.Bool.{lt-leb}
use Rattle.fts_chronicle.proofs.Seen.{none_seen, next_seen}
use Rattle.fts_chronicle.proofs.finishes.see_all.Goals as goal

pub loop-place-init : goal.loop-place-init
loop-place-init c = sym (none_seen c.args.desk.now.tables c.args.now _ 1 c.args.finishes.now (λ number low high. lt-leb number 0 (omega (arith, low))))

pub loop-place-preserved : goal.loop-place-preserved
loop-place-preserved c = rw (c.see_job.ensures, c.loop-place.invariant) (next_seen c.args.desk.now.tables c.args.now 1 c.loop-place.place c.args.finishes.now)
