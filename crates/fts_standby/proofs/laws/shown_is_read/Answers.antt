use Rattle.fts_standby.proofs.Showing.{shown_is_read}
use Rattle.fts_standby.proofs.laws.shown_is_read.Goals as goal

pub returns : goal.returns
returns c = shown_is_read
