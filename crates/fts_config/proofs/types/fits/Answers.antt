use Rattle.std.proofs.Common.{◌∙◌}
use Rattle.fts_config.proofs.Listed.{are_tables-items_of}
use Rattle.fts_config.proofs.types.fits.Goals as goal

pub returns-in-Some : goal.returns-in-Some
returns-in-Some c = rw c.in-Tables.is (c.are_tables.ensures ∙ are_tables-items_of _ _ _ c.in-Some.ensures c.as_slice.ensures.value)
