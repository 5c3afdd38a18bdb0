-- A keep that nothing was done to.
use Rattle.fts_workers.proofs.Accepted.{keeps_none}
use Rattle.fts_workers.proofs.rounds.stays.Goals as goal

pub returns : goal.returns
returns g c = keeps_none g.D.Disk.state g.D.Disk.faults c.args.keep.now (g.met.D.Disk.lawful c.args.keep.now.disk) c.desk-desk.ensures.kept
