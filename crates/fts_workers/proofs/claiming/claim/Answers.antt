-- What a claim is answered.
use Rattle.fts_workers.proofs.Tried.{claim_answered}
use Rattle.fts_workers.proofs.claiming.claim.Goals as goal

pub returns : goal.returns
returns g c = record {
  tried = record {
    applied = c.apply.ensures.applied;
    keeps = record { grows = c.apply.ensures.grows; images = c.apply.ensures.images; doubt = c.apply.ensures.doubt_cause };
  };
  answers = claim_answered g.D.Disk.state g.D.Disk.faults c.args.keep.now c.apply.new.self c.args.writer c.args.now c.args.word
      c.apply.result c.apply.ensures.applied;
}
