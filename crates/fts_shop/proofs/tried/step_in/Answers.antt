-- A step, over the keep that the shop lends.
use Rattle.std.proofs.Common.{◌≡◌, refl, subst, ◌++◌}
use Rattle.fts_keep.specs.Keeps.{KeepData, IsKeep}
use Rattle.fts_workers.specs.ClaimSteps.{IsClaimStep}
use Rattle.fts_shop.specs.Shops.{KeepsDisk}
use Rattle.fts_shop.proofs.Claims.{answers_of_step, doubt_of_step}
use Rattle.fts_shop.proofs.Rows.{all_name}
use Rattle.fts_shop.proofs.tried.step_in.Goals as goal

pub returns-clause-steps : goal.returns-clause-steps
returns-clause-steps g c =
    let value = c.keep-keep.ensures.value in
    let after = c.claim_step-step.new.keep in
    let step = c.claim_step-step.result in
    let grows = c.claim_step-step.ensures.keeps.grows in
    record {
      kept = subst (λ (k : KeepData g.row.D.Denot). IsKeep g.D.Disk.state k) value c.desk-desk.ensures.kept;
      keeps = c.desk-later.ensures.kept;
      stepped = subst (λ (k : KeepData g.row.D.Denot). IsClaimStep g.D.Disk.state g.D.Disk.faults c.args.writer k after c.args.now c.args.word
          step.expiry step.claim) value c.claim_step-step.ensures.step;
      disk = subst (λ (k : KeepData g.row.D.Denot). KeepsDisk g.D.Disk c.args.writer k after) value (record {
        told = grows.told;
        counts = grows.counts;
        doubt = doubt_of_step g.D.Disk c.keep-keep.result.now after c.args.writer c.args.now c.args.word step.expiry step.claim
            c.claim_step-step.ensures.step;
      });
      appends = record {
        added = grows.added;
        appended = subst (λ (k : KeepData g.row.D.Denot). after.entries ≡ k.entries ++ grows.added) value grows.appended;
        named = all_name c.args.writer grows.added grows.by;
      };
      left = c.lanes-lanes.ensures;
      stay = refl;
    }

pub returns-clause-answers : goal.returns-clause-answers
returns-clause-answers g c =
    let step = c.claim_step-step.result in
    answers_of_step g.D.Disk c.keep-keep.result.now c.claim_step-step.new.keep c.args.writer c.args.now c.args.word step.expiry step.claim
    c.claim_step-step.ensures.step
