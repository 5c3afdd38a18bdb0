-- What a crash leaves while a new journal is made, behind the look at the disk's length.
use Rattle.fts_delete.proofs.Moments.{made_behind}
use Rattle.fts_delete.proofs.opening.open.Goals as goal

pub returns-in-Ok-create-clause-made : goal.returns-in-Ok-create-clause-made
returns-in-Ok-create-clause-made g c = made_behind (g.met.D.Disk.lawful c.args.disk) c.len.ensures.looks c.len.ensures.told c.in-Ok-create.ensures.any_moment

pub returns-in-Err-create-clause-made : goal.returns-in-Err-create-clause-made
returns-in-Err-create-clause-made g c = made_behind (g.met.D.Disk.lawful c.args.disk) c.len.ensures.looks c.len.ensures.told c.in-Err-create.ensures.any_moment
