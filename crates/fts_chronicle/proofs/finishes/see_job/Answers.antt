-- One number passes, or none where there is no such job.
use Rattle.std.proofs.Common.{◌-◌, arith, sym}
use Rattle.std.proofs.lemmas.Bool.{ne_eqb}
use Rattle.fts_chronicle.proofs.Seen.{none_seen, one_seen}
use Rattle.fts_chronicle.proofs.finishes.see_job.Goals as goal

pub returns-then-number-eq0 : goal.returns-then-number-eq0
returns-then-number-eq0 c = sym (none_seen c.args.desk.now.tables c.args.now _ 1 c.args.finishes.now
    (λ number low high. ne_eqb number c.args.number (λ is. omega (arith, is, low, c.if-number-eq0.true))))

pub returns-then-number-finishes : goal.returns-then-number-finishes
returns-then-number-finishes c = sym (none_seen c.args.desk.now.tables c.args.now _ 1 c.args.finishes.now
    (λ number low high. ne_eqb number c.args.number (λ is. omega (arith, is, high, c.if-number-finishes.true))))

pub returns : goal.returns
returns c = sym (one_seen c.args.desk.now.tables c.args.now 1 (c.args.number - 1) c.args.finishes.now
    (omega (arith, c.if-number-eq0.false, c.if-number-finishes.false)) c.args.number (omega (arith, c.if-number-eq0.false))
    c.finish_seen.result c.finish_seen.ensures)
