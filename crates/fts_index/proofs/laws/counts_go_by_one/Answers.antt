use Rattle.fts_index.proofs.TableLists.{count_by-one_more}
use Rattle.fts_index.proofs.laws.counts_go_by_one.Goals as goal

pub returns : goal.returns
returns c = record { more = count_by-one_more }
