use Rattle.fts_files.specs.Calls.{done_of}
use Rattle.fts_files.specs.Moving.{takes_back}
use Rattle.fts_files.proofs.Playing.{does_leads}
use Rattle.fts_files.proofs.moving.take_back.Goals as goal

pub returns-clause-script : goal.returns-clause-script
unfolding takes_back
returns-clause-script g c = does_leads _ _ _ _ (done_of c.unlink-gone.result) c.unlink-gone.ensures
