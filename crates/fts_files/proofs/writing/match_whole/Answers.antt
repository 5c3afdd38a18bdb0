use Rattle.std.proofs.Common.{sym, ◌∙◌}
use Rattle.fts_files.specs.Writing.{matches_whole}
use Rattle.fts_files.proofs.Playing.{then_leads, chosen, left}
use Rattle.fts_files.proofs.writing.match_whole.Goals as goal

pub returns-then-not-fits_file : goal.returns-then-not-fits_file
unfolding matches_whole
returns-then-not-fits_file g c next = left _ _ _ _ (sym c.fits_file.ensures ∙ c.if-not-fits_file.true)

pub returns : goal.returns
unfolding matches_whole
returns g c next = then_leads (chosen _ _ _ _ (sym c.fits_file.ensures ∙ c.if-not-fits_file.false)) (c.match_pieces.ensures next)
