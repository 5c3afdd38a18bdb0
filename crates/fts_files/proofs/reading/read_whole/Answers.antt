use Rattle.std.proofs.Common.{sym, ◌∙◌}
use Rattle.fts_files.specs.Reading.{reads_whole}
use Rattle.fts_files.proofs.Playing.{then_leads, chosen, left}
use Rattle.fts_files.proofs.reading.read_whole.Goals as goal

pub returns-then-not-fits_file-clause-script : goal.returns-then-not-fits_file-clause-script
unfolding reads_whole
returns-then-not-fits_file-clause-script g c next = left _ _ _ _ (sym c.fits_file.ensures ∙ c.if-not-fits_file.true)

pub returns-clause-script : goal.returns-clause-script
unfolding reads_whole
returns-clause-script g c next = then_leads (chosen _ _ _ _ (sym c.fits_file.ensures ∙ c.if-not-fits_file.false)) (c.read_pieces.ensures.script next)
