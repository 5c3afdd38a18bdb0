-- What an expiry is answered, and that no row is overdue behind it.
use Rattle.fts_workers.proofs.Tried.{expiry_answers, expiry_gone}
use Rattle.fts_workers.proofs.claiming.expire.Goals as goal

pub returns : goal.returns
returns g c = record {
  tried = record {
    applied = c.apply.ensures.applied;
    keeps = record { grows = c.apply.ensures.grows; images = c.apply.ensures.images; doubt = c.apply.ensures.doubt_cause };
  };
  answers = expiry_answers g.D.Disk.state g.D.Disk.faults c.args.keep.now c.apply.new.self c.args.writer c.args.now c.apply.result c.apply.ensures.applied;
  gone = expiry_gone g.D.Disk.state g.D.Disk.faults c.args.keep.now c.apply.new.self c.args.writer c.args.now
      c.overdue_and_banned_rows_go.ensures.expired c.apply.result c.apply.ensures.applied;
}
