use Rattle.fts_index.proofs.TableLists.{live_counts}
use Rattle.fts_index.proofs.laws.counts_of_live_links_are_loads.Goals as goal

pub returns : goal.returns
returns c = record { load = live_counts }
