use Rattle.fts_files.specs.Calls.{counted_of}
use Rattle.fts_files.specs.Writing.{taken}
use Rattle.fts_files.proofs.Writings.{value_leads, taken_within}
use Rattle.fts_files.proofs.writing.write_piece.Goals as goal

pub returns-clause-within : goal.returns-clause-within
returns-clause-within g c = taken_within c.write_at.result c.taken.result _ c.taken.ensures c.write_at.ensures.within

pub returns-clause-script : goal.returns-clause-script
returns-clause-script g c next = value_leads _ taken next _ _ (counted_of c.write_at.result) c.taken.result c.write_at.ensures.called c.taken.ensures
