-- What a crash leaves while a new journal is made, behind the look at the disk's length.
use Rattle.std.proofs.Common.{◌∙◌}
use Rattle.fts_following.proofs.MadeJournals.{made_behind}
use Rattle.fts_following.proofs.opening.open.Goals as goal

pub returns-in-Ok-create-clause-made : goal.returns-in-Ok-create-clause-made
returns-in-Ok-create-clause-made g c = λ told empty. made_behind (g.D.Disk.state c.args.disk) (g.D.Disk.state c.len.new.self)
    (g.D.Disk.state c.in-Ok-create.journal.disk)
    (g.met.D.Disk.lawful c.args.disk told) (c.len.ensures.looks told) (c.in-Ok-create.ensures.any_moment (c.len.ensures.told ∙ told))

pub returns-in-Err-create-clause-made : goal.returns-in-Err-create-clause-made
returns-in-Err-create-clause-made g c = λ told empty. made_behind (g.D.Disk.state c.args.disk) (g.D.Disk.state c.len.new.self)
    (g.D.Disk.state c.in-Err-create.disk)
    (g.met.D.Disk.lawful c.args.disk told) (c.len.ensures.looks told) (c.in-Err-create.ensures.any_moment (c.len.ensures.told ∙ told))
