use Rattle.fts_chronicle.proofs.Growing.{chronicle_of-more}
use Rattle.fts_chronicle.proofs.laws.chronicles_grow_by_entries.Goals as goal

pub returns : goal.returns
returns c = record { grow = chronicle_of-more }
