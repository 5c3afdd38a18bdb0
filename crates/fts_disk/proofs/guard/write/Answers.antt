use Rattle.std.proofs.Common.{sym, ◌∙◌}
use Rattle.fts_disk.specs.Guard.{guarded_write}
use Rattle.fts_files.proofs.Playing.{then_leads, chosen, left}
use Rattle.fts_disk.proofs.guard.write.Goals as goal

pub returns-then-not-fits_file : goal.returns-then-not-fits_file
unfolding guarded_write
returns-then-not-fits_file g c next = left _ _ _ _ (sym c.fits_file.ensures ∙ c.if-not-fits_file.true)

pub returns : goal.returns
unfolding guarded_write
returns g c next = then_leads (chosen _ _ _ _ (sym c.fits_file.ensures ∙ c.if-not-fits_file.false)) (c.write_there.ensures next)
