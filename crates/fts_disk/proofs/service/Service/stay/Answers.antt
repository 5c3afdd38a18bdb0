use Rattle.fts_disk.proofs.service.Service.stay.Goals as goal

pub returns : goal.returns
returns g c next = rw (c.as_str.ensures.value, c.file.ensures) at (c.stay.ensures next)
