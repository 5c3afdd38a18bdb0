use Rattle.std.proofs.Common.{refl}
use Rattle.fts_desk.proofs.Found.{job_changed}
use Rattle.fts_desk.proofs.priority.prioritize.Goals as goal

pub returns : goal.returns
returns c = record { jobs = job_changed c.args.jobs.now c.args.number c.args.priority _ _ c.requires.numbered c.requires.first c.requires.last refl }
