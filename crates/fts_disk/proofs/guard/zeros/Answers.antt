use Rattle.std.proofs.lemmas.List.{take-replicate}
use Rattle.fts_disk.proofs.guard.zeros.Goals as goal

pub returns : goal.returns
returns c = rw c.requires.block (take-replicate c.args.size 65536 0 c.requires.size)
