use Rattle.fts_files.specs.Calls.{saw_of}
use Rattle.fts_files.specs.Reading.{sizes, size_seen}
use Rattle.fts_files.proofs.Writings.{value_leads}
use Rattle.fts_files.proofs.reading.size.Goals as goal

pub returns : goal.returns
unfolding sizes
returns g c next = value_leads _ size_seen next _ _ (saw_of c.look.result) c.size_seen.result c.look.ensures c.size_seen.ensures
