use Rattle.fts_delete.proofs.ReadBack.{spelled_is_read}
use Rattle.fts_delete.proofs.laws.spelled_is_read.Goals as goal

pub returns : goal.returns
returns c = spelled_is_read
