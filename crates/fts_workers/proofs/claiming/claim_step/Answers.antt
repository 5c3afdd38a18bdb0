-- A step: an expiry, and what follows it.
use Rattle.std.proofs.Common.{refl, sym, ◌∙◌}
use Rattle.fts_workers.proofs.Accepted.{keeps_then}
use Rattle.fts_workers.proofs.claiming.claim_step.Goals as goal

pub returns-then-not-goes_on-clause-step : goal.returns-then-not-goes_on-clause-step
returns-then-not-goes_on-clause-step g c = record {
  between = c.expire-expiry.new.keep;
  expired = c.expire-expiry.ensures;
  kept = c.desk-between.ensures.kept;
  follows = (sym c.goes_on.ensures ∙ c.if-not-goes_on.true, refl);
}

pub returns-clause-step : goal.returns-clause-step
returns-clause-step g c =
    let on = sym c.goes_on.ensures ∙ c.if-not-goes_on.false in
    record {
      between = c.expire-expiry.new.keep;
      expired = c.expire-expiry.ensures;
      kept = c.desk-between.ensures.kept;
      follows = (on, record { none_overdue = c.expire-expiry.ensures.gone on; claim = c.claim-answer.ensures });
    }

pub returns-clause-keeps : goal.returns-clause-keeps
returns-clause-keeps g c = keeps_then g.D.Disk.state g.D.Disk.faults c.args.writer c.args.keep.now c.expire-expiry.new.keep c.claim-answer.new.keep
    c.expire-expiry.ensures.tried.keeps c.claim-answer.ensures.tried.keeps
